-- A name held against another, and the loop over the value lines of an item.
use Rattle.std.specs.Prelude.{ℕ, suc, ◌+◌, ◌-◌, ◌≤◌, ◌<◌, ◌≡◌, refl, Bool, true, false, ◌∷◌, length, take, drop}
use Rattle.std.proofs.Common.{arith, ◌∙◌}
use Rattle.std.proofs.Math.Path.{sym, ap}
use Rattle.std.proofs.Math.Bool.{cond}
use Rattle.text.specs.Text.{Bytes, Line}
use Rattle.text.specs.Columns.{columns_for}
use Rattle.text.specs.Find.{line_at, same_bytes, has_text, is_blank}
use Rattle.text.specs.Cut.{cut, line_within, line_cut}
use Rattle.text.specs.Agree.{same_bytes_lem, columns_whole}
use Rattle.text.specs.declared.LineAt.{LineAt}
use Rattle.rules.specs.Record.{Values}
use Rattle.judge_line.specs.Got.{Got, got}
use Rattle.judge_line.specs.Judge.{is_close, item_of, ValueOrBlank, blank, value_of}
use Rattle.judge_line.proofs.AgreeItem.{title_is_lem, close_is}
use Rattle.judge_line.specs.AgreeText.{none_of}
use Rattle.line_judged.specs.Known.{Standing, HeaderOrEnd, Header, Named}
use Rattle.judge_file.specs.WalkText.{after_lines, after_none}
use Rattle.reader_walk.specs.Walking.{after_more}
use Rattle.reader_item.specs.declared.Title.{Title}
use Rattle.reader_item.specs.declared.Values.{Values as Stretch}
use Rattle.reader_item.specs.Find.{from_of, to_of}
use Rattle.reader_item.specs.Find.{titled_as, title_by, is_value, values_ahead, values_at, ValuesFrom}
use Rattle.reader_item.specs.NeverRefused.{values_stand, values_line, blank_known}

-- ---- A name held against another

module _ (found name : Bytes) where
  pub name_differs : (length found ≡ length name → ⊥) → false ≡ same_bytes found name
  name_differs h = sym (none_of (same_bytes found name) (same_bytes_lem found name).0 (λ e. h (ap length e)))

  -- as long as each other, they are compared column by column
  pub name_compared : (b : Bool) → length found ≡ length name → b ≡ has_text found 1 name → b ≡ same_bytes found name
  unfolding has_text
  name_compared b h e = e ∙ ap (λ (k : ℕ). same_bytes (columns_for found 1 k) name) (sym h) ∙ ap (λ (x : Bytes). same_bytes x name) (columns_whole found)

pub ruleset name_laws = (name_differs, name_compared)

-- a data header or the end of the record
module _ (line name : Bytes) (g : HeaderOrEnd line) (b : Bool) (e : b ≡ is_close line) where
  pub line_closed : b ≡ true → Title.Close ≡ title_by name (item_of line)
  unfolding title_by item_of
  line_closed q = rw (sym e, q)

  pub line_header : b ≡ false → Header line
  line_header q = go g
    where
      go : HeaderOrEnd line → Header line
      go (HeaderOrEnd.header found d) = record { name = found; is = d }
      go (HeaderOrEnd.record_end r) = absurd (let z : true ≡ false = sym (close_is line r) ∙ sym e ∙ q in let z : ◌≡◌ {A = ℕ} 0 1 = cc in omega arith)

module _ (line name : Bytes) (from to : ℕ) (d : Named line from to) where
  pub name_order : from ≤ to
  name_order = d.order

  pub name_inside : to ≤ length line
  name_inside = d.inside

  module _ (b : Bool) (e : b ≡ same_bytes (take (to - from) (drop from line)) name) where
    titled : title_by name (item_of line) ≡ cond b Title.Named Title.Other
    unfolding title_by titled_as
    titled = ap (title_by name) (title_is_lem line (take (to - from) (drop from line)) d.is) ∙ ap (λ (t : Bool). cond t Title.Named Title.Other) (sym e)

    pub line_named : b ≡ true → Title.Named ≡ title_by name (item_of line)
    line_named h = sym (titled ∙ ap (λ (t : Bool). cond t Title.Named Title.Other) h)

    pub line_other : b ≡ false → Title.Other ≡ title_by name (item_of line)
    line_other h = sym (titled ∙ ap (λ (t : Bool). cond t Title.Named Title.Other) h)

pub ruleset title_laws = (line_closed, line_header, name_order, name_inside, line_named, line_other)

-- ---- The value lines of an item

-- so many value lines lie between `at` and i
pub record Passing (s : Bytes) (at from to i : ℕ) : Type 0 where
  pub left : ValuesFrom s i
  pub passed : ℕ
  pub place : after_lines s at passed ≡ i
  pub ahead : values_ahead (cut (drop at s)).lines ≡ passed + values_ahead (cut (drop i s)).lines
  pub from_is : from ≡ from_of at passed
  pub to_is : to ≡ to_of s at passed

pub passing_start : (s : Bytes) (at : ℕ) → ValuesFrom s at → Passing s at 0 0 at
passing_start s at g = record { left = g; passed = 0; place = after_none s at; ahead = omega arith; from_is = refl; to_is = refl }

module _ (s : Bytes) (at from to i : ℕ) (g : Passing s at from to i) where
  -- no value line follows
  over : (n : ℕ) → values_ahead (cut (drop i s)).lines ≡ 0 → after_lines s at (suc g.passed) ≡ n →
      ◌≡◌ {A = Stretch} (record { from = from; to = to; next = n }) (values_at s at)
  unfolding values_at
  over n h k =
      let z : values_ahead (cut (drop at s)).lines ≡ g.passed = omega (arith, g.ahead) in
      rw (z, g.from_is, g.to_is, sym k)

  pub passing_line : Standing s i
  passing_line = values_stand s i g.left.is

  module _ (e n : ℕ) (l : line_at s i ≡ LineAt.Line e n) where
    pub passing_low : i ≤ e
    passing_low = (line_within s i e n l).0

    pub passing_high : e ≤ length s
    passing_high = let w = line_within s i e n l in omega (arith, w.1, w.2)

    pub passing_less : length s - n < length s - i
    passing_less = let w = line_within s i e n l in omega (arith, w.0, w.1, w.2)

    pub further : after_lines s at (suc g.passed) ≡ n
    further = after_more s at g.passed i e n g.place l

    pub here : Values (take (e - i) (drop i s) ∷ (cut (drop n s)).lines) g.left.vs g.left.rest
    here = values_line s i e n l g.left.is

    pub ahead_is : (v : Got ValueOrBlank) → value_of (take (e - i) (drop i s)) ≡ v → values_ahead (cut (drop i s)).lines ≡ cond (is_value v) (suc (values_ahead (cut (drop n s)).lines)) 0
    unfolding values_ahead
    ahead_is v h = rw (line_cut s i e n l, h)

    module _ (b : Bool) (q : b ≡ is_blank (take (e - i) (drop i s))) where
      pub passing_blank : b ≡ true → ◌≡◌ {A = Stretch} (record { from = from; to = to; next = n }) (values_at s at)
      passing_blank k = over n (ahead_is (got blank) (blank_known here (sym q ∙ k))) further
