-- A line where a data header or `$$$$` must stand, and where its name stands.
use Rattle.std.specs.Prelude.{Result, Ok, Err, Option, Some, None, ℕ, zero, suc, ◌+◌, ◌-◌, ◌*◌, ◌^◌, ◌≤◌, ◌<◌, ◌≡◌, refl, ◌∷◌, ◌++◌, take, drop}
use native.Mathlib.Omega.{arith}
use Rattle.std.proofs.Common.{sym, ◌∙◌, subst, length-append, take_at, Fits}
use Rattle.std.proofs.Math.Path.{ap}
use Rattle.std.proofs.Math.ListN.{length, length-drop}
use Rattle.std.proofs.lemmas.List.{length-replicate}
use Rattle.std.proofs.Math.Seq.{length-take-le, drop-append-add}
use Rattle.std.specs.Int.{w64}
use Rattle.text.specs.Text.{Bytes, Line}
use Rattle.text.specs.Columns.{spaces, Within}
use Rattle.text.specs.Find.{first_from, is_ink, ink_column}
use Rattle.text.specs.First.{first_within}
use Rattle.rules.specs.Forms.{DataHeader, ValueLine, BlankLine, RecordEnd}
use Rattle.judge_line.specs.Got.{Got, got, bad, then}
use Rattle.judge_line.specs.GotLaws.{got_inj, then_got}
use Rattle.judge_line.specs.Field.{within}
use Rattle.judge_line.specs.Judge.{ItemOrEnd, title, close, item_of, value, blank, value_of}
use Rattle.judge_line.specs.Agree.{within_got, within_is}
use Rattle.judge_line.proofs.Agree.{title_agrees, close_agrees, value_agrees, blank_agrees}
use Rattle.judge_refusals.specs.Demand.{◌and_then◌}
use Rattle.judge_refusals.specs.Refusals.{fitting, header_or_end, value_or_blank}
use Rattle.judge_refusals.specs.Tells.{Tells, then_tells}
use Rattle.judge_refusals.proofs.Fields.{within_last}
use Rattle.judge_refusals.specs.Lists.{item_tells, value_tells}
use Rattle.line_text.specs.Answer.{item_got, item_in, value_got}
use Rattle.line_text.specs.Within.{title_order, title_end}
use Rattle.line_text.specs.declared.ItemLine.{ItemLine}
use Rattle.line_text.specs.declared.ValueKind.{ValueKind}
use Rattle.reader_places.specs.Places.{line_got}
use Rattle.judge_line.specs.declared.Refusal.{Refusal}
use Rattle.reader_items.specs.Step.{title_is, value_is, name_start, title_by, title_of}

-- ---- As the rules have it

-- a line of good length and bytes is judged by what it is
fitted : {A : Type 0} (k : ℕ) (l : Line) (f : Line → Got A) (a : A) → then (within k l (got l)) f ≡ got a → Within k l × (f l ≡ got a)
fitted k l f a h =
    let r = then_got (within k l (got l)) f a h in
    let w = within_got k l (got l) r.0 r.1 in
    (w.0, ap f (got_inj w.1) ∙ r.2)

fits_so : {A : Type 0} (k : ℕ) (l : Line) (f : Line → Got A) → Within k l → then (within k l (got l)) f ≡ f l
unfolding then
fits_so k l f w = ap (λ (x : Got Line). then x f) (within_is k l (got l) w)

pub titled_is : (l name : Bytes) → DataHeader l name → title_is l ≡ got (title name)
titled_is l name d = fits_so 80 l item_of d.line ∙ (title_agrees l name d.line).1 d

pub titled_got : (l name : Bytes) → title_is l ≡ got (title name) → DataHeader l name
titled_got l name h = let r = fitted 80 l item_of (title name) h in (title_agrees l name r.0).0 r.1

pub closed_is : (l : Line) → RecordEnd l → title_is l ≡ got close
closed_is l d = fits_so 80 l item_of d.line ∙ (close_agrees l d.line).1 d

pub closed_got : (l : Line) → title_is l ≡ got close → RecordEnd l
closed_got l h = let r = fitted 80 l item_of close h in (close_agrees l r.0).0 r.1

pub valued_is : (l : Line) → ValueLine l → value_is l ≡ got value
valued_is l d = fits_so 200 l value_of d.line ∙ (value_agrees l d.line).1 d

pub valued_got : (l : Line) → value_is l ≡ got value → ValueLine l
valued_got l h = let r = fitted 200 l value_of value h in (value_agrees l r.0).0 r.1

pub blanked_is : (l : Line) → BlankLine l → value_is l ≡ got blank
blanked_is l d = fits_so 200 l value_of d.line ∙ (blank_agrees l d.line).1 d

pub blanked_got : (l : Line) → value_is l ≡ got blank → BlankLine l
blanked_got l h = let r = fitted 200 l value_of blank h in (blank_agrees l r.0).0 r.1

pub title_tells : (l : Line) → Tells (fitting 80 l and_then header_or_end l) (title_is l)
title_tells l =
    then_tells (within_last l l 80) λ a h.
    let w = within_got 80 l (got l) a h in
    subst (λ (x : Line). Tells (header_or_end l) (item_of x)) (got_inj w.1) (item_tells l w.0)

pub values_tell : (l : Line) → Tells (fitting 200 l and_then value_or_blank l) (value_is l)
values_tell l =
    then_tells (within_last l l 200) λ a h.
    let w = within_got 200 l (got l) a h in
    subst (λ (x : Line). Tells (value_or_blank l) (value_of x)) (got_inj w.1) (value_tells l w.0)

-- ---- Where the name stands

ink_after : (i k : ℕ) (rest : Bytes) → first_from is_ink i (spaces k ++ (60 ∷ rest)) ≡ Some (i + k)
unfolding first_from
ink_after i zero rest = let z : i ≡ i + 0 = omega arith in ap Some z
ink_after i (suc k) rest = let z : suc i + k ≡ i + suc k = omega arith in ink_after (suc i) k rest ∙ ap Some z

module _ (l name : Bytes) (d : DataHeader l name) where
  abbrev tail : Bytes
  tail = name ++ (62 ∷ spaces d.after)

  pub header_start : ink_column l 2 ≡ Some (d.between + 2)
  unfolding ink_column
  header_start =
      let z : 2 + d.between ≡ d.between + 2 = omega arith in
      ap (λ (x : Line). first_from is_ink 2 (drop 1 x)) d.parts ∙ ink_after 2 d.between tail ∙ ap Some z

  pub header_inside : d.between + 2 + length name ≤ length l
  header_inside =
      omega
      (arith, ap length d.parts, length-append (spaces d.between) (60 ∷ tail), length-replicate {A = ℕ} d.between 32, length-append name (62 ∷ spaces d.after))

  pub header_name : take (length name) (drop (d.between + 2) l) ≡ name
  header_name =
      let z : d.between + 2 ≡ suc (length (spaces d.between) + 1) = omega (arith, length-replicate {A = ℕ} d.between 32) in
      ap (take (length name))
      (ap (λ (i : ℕ). drop i l) z ∙ ap (drop (suc (length (spaces d.between) + 1))) d.parts ∙ drop-append-add (spaces d.between) (60 ∷ tail) 1)
      ∙ take_at name (62 ∷ spaces d.after) (length name) refl

  pub header_titled : title_of l (title_is l) ≡ Ok (ItemLine.Title (d.between + 2) (d.between + 2 + length name))
  unfolding title_of
  header_titled = ap (title_of l) (titled_is l name d) ∙ ap (λ (x : Option ℕ). title_by (name_start x) (length name)) header_start

pub end_titled : (l : Line) → RecordEnd l → title_of l (title_is l) ≡ Ok ItemLine.Close
unfolding title_of
end_titled l d = ap (title_of l) (closed_is l d)

-- the name lies in its line
pub title_within : (l : Line) (a b : ℕ) → title_of l (title_is l) ≡ Ok (ItemLine.Title a b) → (a ≤ b) × (b ≤ length l)
unfolding title_of
title_within l a b h = go (title_is l) refl
  where
    go : (g : Got ItemOrEnd) → title_is l ≡ g → (a ≤ b) × (b ≤ length l)
    go (got (title name)) e =
        let d = titled_got l name e in
        let z = sym (header_titled l name d) ∙ h in
        let p : d.between + 2 ≡ a = cc in
        let q : d.between + 2 + length name ≡ b = cc in
        let i = header_inside l name d in
        (omega arith, omega arith)
    go (got close) e = absurd (let z = sym (ap (title_of l) e) ∙ h in let z : ◌≡◌ {A = ℕ} 0 1 = cc in omega arith)
    go (bad n c) e = absurd (let z = sym (ap (title_of l) e) ∙ h in let z : ◌≡◌ {A = ℕ} 0 1 = cc in omega arith)

-- ---- As the code finds it

module _ (x f : Option ℕ) (e : x ≡ f) where
  pub name_at : (k : ℕ) → x ≡ Some k → k ≡ name_start f
  name_at k h = ap name_start (sym h ∙ e)

  pub name_nowhere : x ≡ None → 0 ≡ name_start f
  name_nowhere h = ap name_start (sym h ∙ e)

-- past the end of the line there is no byte
start_within : (l : Line) (f : Option ℕ) → ink_column l 2 ≡ f → name_start f ≤ length l + 1
unfolding ink_column
start_within l (Some k) h = omega (arith, (first_within is_ink 2 k (drop 1 l) h).1, length-drop 1 l)
start_within l None h = omega arith

pub start_fits : (l : Line) (r size : ℕ) → r ≡ name_start (ink_column l 2) → size ≤ length l → length l * 1 < 2 ^ 63 → Fits w64 (r + size)
start_fits l r size e h k = record { fits = omega (arith, e, start_within l (ink_column l 2) refl, h, k) }

pub start_titled : (l : Line) (r size : ℕ) → r ≡ name_start (ink_column l 2) → Ok (ItemLine.Title r (r + size)) ≡ title_by (name_start (ink_column l 2)) size
start_titled l r size e = ap (λ (x : ℕ). title_by x size) e

pub ruleset start_laws = (name_at, name_nowhere, start_fits, start_titled)

module _ (l : Line) (x : Result ItemLine Refusal) (e : item_got l x ≡ item_of l) where
  pub name_fits : item_in l x → (a b : ℕ) → x ≡ Ok (ItemLine.Title a b) → b - a ≤ length l
  name_fits h a b q = omega (arith, title_order l x a b h q, title_end l x a b h q)

  pub good_named : item_in l x → (a b : ℕ) (r : Result ItemLine Refusal) → x ≡ Ok (ItemLine.Title a b) → r ≡ title_by (name_start (ink_column l 2)) (b - a) → r ≡ title_of l (item_of l)
  unfolding title_of
  good_named h a b r q p =
      let size : length (take (b - a) (drop a l)) ≡ b - a = length-take-le (b - a) (drop a l) (omega (arith, title_order l x a b h q, title_end l x a b h q, length-drop a l)) in
      p ∙ ap (title_by (name_start (ink_column l 2))) (sym size) ∙ ap (title_of l) (ap (item_got l) (sym q) ∙ e)

  pub good_close : x ≡ Ok ItemLine.Close → Ok ItemLine.Close ≡ title_of l (item_of l)
  unfolding title_of
  good_close q = ap (title_of l) (ap (item_got l) (sym q) ∙ e)

  pub good_bad : (r : Refusal) → x ≡ Err r → Err r ≡ title_of l (item_of l)
  unfolding title_of
  good_bad r q = ap (title_of l) (ap (item_got l) (sym q) ∙ e)

pub ruleset good_laws = (title_order, name_fits, good_named, good_close, good_bad)

module _ (l : Line) (x : Result (Unit {0}) Refusal) (e : line_got l x ≡ within 80 l (got l)) where
  pub line_title : (r : Result ItemLine Refusal) → x ≡ Ok tt → r ≡ title_of l (item_of l) → r ≡ title_of l (title_is l)
  unfolding then
  line_title r q h = h ∙ ap (λ (y : Got Line). title_of l (then y item_of)) (ap (line_got l) (sym q) ∙ e)

  pub line_no_title : (r : Refusal) → x ≡ Err r → Err r ≡ title_of l (title_is l)
  unfolding then title_of
  line_no_title r q = ap (λ (y : Got Line). title_of l (then y item_of)) (ap (line_got l) (sym q) ∙ e)

pub ruleset line_laws = (line_title, line_no_title)

module _ (l : Line) (x : Result (Unit {0}) Refusal) (e : line_got l x ≡ within 200 l (got l)) where
  pub line_value : (r : Result ValueKind Refusal) → x ≡ Ok tt → value_got r ≡ value_of l → value_got r ≡ value_is l
  unfolding then
  line_value r q h = h ∙ ap (λ (y : Got Line). then y value_of) (ap (line_got l) (sym q) ∙ e)

  pub line_no_value : (r : Refusal) → x ≡ Err r → bad r.no r.column ≡ value_is l
  unfolding then
  line_no_value r q = ap (λ (y : Got Line). then y value_of) (ap (line_got l) (sym q) ∙ e)

pub ruleset value_laws = (line_value, line_no_value)
