-- Header lines of two records, and the record as a whole.
use Rattle.std.specs.Prelude.{ℕ, ◌-◌, ◌≤◌, ◌≡◌, List, [], ◌∷◌, ◌++◌, length, take, drop, ℤ}
use Rattle.std.proofs.Common.{arith, sym, ap, ap₂, ◌∙◌}
use Rattle.text.specs.Text.{Bytes, Line, Lines}
use Rattle.text.specs.Find.{line_at}
use Rattle.text.specs.Cut.{Cut, cut, lines_cut, line_cut, line_rest, line_within}
use Rattle.text.specs.declared.LineAt.{LineAt}
use Rattle.rules.specs.Record.{Headers}
use Rattle.rules.specs.Meaning.{Reading}
use Rattle.rules.specs.Rows.{rows_of}
use Rattle.compare_rules.specs.Along.{along}
use Rattle.compare_rules.specs.Differences.{Difference, place, texts, rowwise, itemwise, headers_apart, counts_apart, records_apart}
use Rattle.compare_rules.specs.Log.{Log, noted}
use Rattle.compare_rules.specs.Noted.{noted_joined}
use Rattle.compare_items.specs.Part.{items_at}
use Rattle.compare_record.specs.declared.Numbers.{Numbers}
use Rattle.compare_record.specs.declared.Head.{Head}
use Rattle.compare_record.specs.Numbers.{counts_of}

-- the first line of some, empty where there is none; and the others
abbrev pub head_of : List Line → Line
head_of [] = []
head_of (l ∷ ls) = l

abbrev pub others_of : List Line → List Line
others_of [] = []
others_of (l ∷ ls) = ls

abbrev pub lines_at : Bytes → ℕ → List Line
lines_at s at = (cut (drop at s)).lines

-- the line at a position, and where the next one starts
pub record HeadAt (s : Bytes) (at : ℕ) (r : Head) : Type 0 where
  pub start : at ≤ r.end
  pub inside : r.end ≤ length s
  pub after : r.next ≤ length s
  pub line : take (r.end - at) (drop at s) ≡ head_of (lines_at s at)
  pub others : lines_at s r.next ≡ others_of (lines_at s at)

module _ (s : Bytes) (at : ℕ) (o : LineAt) (is : o ≡ line_at s at) where
  pub head_none : at ≤ length s → o ≡ LineAt.Unfinished → HeadAt s at (record { end = at; next = at })
  head_none h q =
      let l = line_rest s at (sym is ∙ q) in
      let z : at - at ≡ 0 = omega arith in
      record {
        start = omega arith;
        inside = h;
        after = h;
        line = ap (λ (k : ℕ). take k (drop at s)) z ∙ ap (λ (c : Cut). head_of c.lines) (sym l);
        others = ap (λ (c : Cut). c.lines) l ∙ ap (λ (c : Cut). others_of c.lines) (sym l);
      }

  pub head_line : (e n : ℕ) → o ≡ LineAt.Line e n → HeadAt s at (record { end = e; next = n })
  head_line e n q =
      let l = line_cut s at e n (sym is ∙ q) in
      let w = line_within s at e n (sym is ∙ q) in
      record { start = w.0; inside = omega (arith, w.1, w.2); after = w.2; line = ap (λ (c : Cut). head_of c.lines) (sym l); others = ap (λ (c : Cut). others_of c.lines) (sym l) }

pub ruleset head_laws = (head_none, head_line)

-- three lines
unfoldable pub headers_of : Bytes → Headers
headers_of s = record { first = head_of (lines_at s 0); second = head_of (others_of (lines_at s 0)); third = head_of (others_of (others_of (lines_at s 0))) }

pub headers_are : (s : Bytes) (h : Headers) → Lines s (h.first ∷ h.second ∷ h.third ∷ []) [] → headers_of s ≡ h
unfolding headers_of
headers_are s h p = ap (λ (c : Cut). record { first = head_of c.lines; second = head_of (others_of c.lines); third = head_of (others_of (others_of c.lines)) }) (lines_cut p)

-- one part noted after another
join : (g g₁ k : Log) (ds es : List Difference) → g₁ ≡ noted g ds → k ≡ noted g₁ es → k ≡ noted g (ds ++ es)
join g g₁ k ds es p q = q ∙ ap (λ (v : Log). noted v es) p ∙ sym (noted_joined g ds es)

-- ---- A record by its parts

-- counts, tables, and the parts that hold header lines and items
unfoldable pub reading_of : Bytes → Numbers → List ℤ → List ℤ → Bytes → Reading
reading_of h x ta tb s =
    record { headers = headers_of h; n = x.n; m = x.m; chiral = x.chiral; atoms = rows_of 16 x.n ta; bonds = rows_of 6 x.m tb; items = items_at s 0 }

-- its parts noted one after the other
pub record_noted : (r : ℕ) (h h' : Bytes) (x y : Numbers) (ta tb ua ub : List ℤ) (s s' : Bytes) (g g₁ g₂ g₃ g₄ g₅ : Log) →
    g₁ ≡ noted g (headers_apart r (headers_of h) (headers_of h')) →
    g₂ ≡ noted g₁ (counts_of r x y) →
    g₃ ≡ noted g₂ (along (rowwise r 5) 1 (rows_of 16 x.n ta) (rows_of 16 y.n ua)) →
    g₄ ≡ noted g₃ (along (rowwise r 6) 1 (rows_of 6 x.m tb) (rows_of 6 y.m ub)) →
    g₅ ≡ noted g₄ (along (itemwise r) 1 (items_at s 0) (items_at s' 0)) →
    g₅ ≡ noted g (records_apart r (reading_of h x ta tb s) (reading_of h' y ua ub s'))
unfolding records_apart reading_of counts_of counts_apart
record_noted r h h' x y ta tb ua ub s s' g g₁ g₂ g₃ g₄ g₅ a b c d e =
    let heads = headers_apart r (headers_of h) (headers_of h') in
    let counts = counts_of r x y in
    let atoms = along (rowwise r 5) 1 (rows_of 16 x.n ta) (rows_of 16 y.n ua) in
    let bonds = along (rowwise r 6) 1 (rows_of 6 x.m tb) (rows_of 6 y.m ub) in
    let items = along (itemwise r) 1 (items_at s 0) (items_at s' 0) in
    join g g₁ g₅ heads (counts ++ (atoms ++ (bonds ++ items))) a
    (join g₁ g₂ g₅ counts (atoms ++ (bonds ++ items)) b (join g₂ g₃ g₅ atoms (bonds ++ items) c (join g₃ g₄ g₅ bonds items d e)))

pub headers_noted : (r : ℕ) (a b : Bytes) (x₁ x₂ x₃ y₁ y₂ y₃ : Head) (g g₁ g₂ g₃ : Log) →
    HeadAt a 0 x₁ → HeadAt a x₁.next x₂ → HeadAt a x₂.next x₃ →
    HeadAt b 0 y₁ → HeadAt b y₁.next y₂ → HeadAt b y₂.next y₃ →
    g₁ ≡ noted g (texts (place r 1 1 0) (take (x₁.end - 0) (drop 0 a)) (take (y₁.end - 0) (drop 0 b))) →
    g₂ ≡ noted g₁ (texts (place r 1 2 0) (take (x₂.end - x₁.next) (drop x₁.next a)) (take (y₂.end - y₁.next) (drop y₁.next b))) →
    g₃ ≡ noted g₂ (texts (place r 1 3 0) (take (x₃.end - x₂.next) (drop x₂.next a)) (take (y₃.end - y₂.next) (drop y₂.next b))) →
    g₃ ≡ noted g (headers_apart r (headers_of a) (headers_of b))
unfolding headers_apart headers_of
headers_noted r a b x₁ x₂ x₃ y₁ y₂ y₃ g g₁ g₂ g₃ p₁ p₂ p₃ q₁ q₂ q₃ e₁ e₂ e₃ =
    let second : (s : Bytes) (u v : Head) → HeadAt s 0 u → HeadAt s u.next v → take (v.end - u.next) (drop u.next s) ≡ head_of (others_of (lines_at s 0)) =
    λ s u v h k. k.line ∙ ap head_of h.others in
    let third : (s : Bytes) (u v w : Head) → HeadAt s 0 u → HeadAt s u.next v → HeadAt s v.next w → take (w.end - v.next) (drop v.next s) ≡ head_of (others_of (others_of (lines_at s 0))) =
    λ s u v w h k j. j.line ∙ ap head_of (k.others ∙ ap others_of h.others) in
    let x = texts (place r 1 1 0) (head_of (lines_at a 0)) (head_of (lines_at b 0)) in
    let y = texts (place r 1 2 0) (head_of (others_of (lines_at a 0))) (head_of (others_of (lines_at b 0))) in
    let z = texts (place r 1 3 0) (head_of (others_of (others_of (lines_at a 0)))) (head_of (others_of (others_of (lines_at b 0)))) in
    join g g₁ g₃ x (y ++ z) (e₁ ∙ ap₂ (λ (u v : Line). noted g (texts (place r 1 1 0) u v)) p₁.line q₁.line)
    (join g₁ g₂ g₃ y z (e₂ ∙ ap₂ (λ (u v : Line). noted g₁ (texts (place r 1 2 0) u v)) (second a x₁ x₂ p₁ p₂) (second b y₁ y₂ q₁ q₂))
    (e₃ ∙ ap₂ (λ (u v : Line). noted g₂ (texts (place r 1 3 0) u v)) (third a x₁ x₂ x₃ p₁ p₂ p₃) (third b y₁ y₂ y₃ q₁ q₂ q₃)))
