-- What is known of a line that was judged good, and what one look at it then tells.
use Rattle.std.specs.Prelude.{Option, Some, None, ℕ, zero, suc, ◌+◌, ◌-◌, ◌≤◌, ◌<◌, ◌≡◌, refl, Bool, true, false, List, [], ◌∷◌, ◌++◌, eqb, length, get_or, take, drop}
use Rattle.std.proofs.Common.{arith, sym, ap, ◌∙◌, subst, length-drop, take_at}
use borrow.Author.Tests.{eq-eqb, ne_eqb, lt-ltb, le-ltb}
use Rattle.text.specs.Text.{Bytes, Line, Each}
use Rattle.text.specs.Columns.{column, columns, columns_for, spaces}
use Rattle.text.specs.Find.{line_at, line_to, first_from}
use Rattle.text.specs.First.{each_as, first_within}
use Rattle.text.specs.declared.LineAt.{LineAt}
use Rattle.rules.specs.Forms.{DataHeader, RecordEnd}
use Rattle.judge_line.specs.Judge.{is_close}
use Rattle.judge_line.specs.AgreeItem.{not_close}
use Rattle.judge_line.proofs.AgreeItem.{close_is}

-- ---- Whole lines

-- a whole line starts at this position
pub record Standing (s : Bytes) (at : ℕ) : Type 0 where
  pub end : ℕ
  pub next : ℕ
  pub is : line_at s at ≡ LineAt.Line end next

-- no unfinished one does
pub whole_never : {X : Type 0} (s : Bytes) (at : ℕ) → Standing s at → line_at s at ≡ LineAt.Unfinished → X
whole_never s at g h =
    let z : LineAt.Line g.end g.next ≡ LineAt.Unfinished = sym g.is ∙ h in
    absurd (let z : ◌≡◌ {A = ℕ} 0 1 = cc in omega arith)

abbrev pub is_byte : ℕ → ℕ → Bool
is_byte b x = eqb x b

-- a byte b stands at `at` or after it
pub record Stands (b : ℕ) (s : Bytes) (at : ℕ) : Type 0 where
  pub place : ℕ
  pub is : first_from (is_byte b) at (drop at s) ≡ Some place

pub ends : (s : Bytes) (at : ℕ) → Standing s at → Stands 10 s at
unfolding line_at line_to
ends s at g = go (first_from (is_byte 10) at (drop at s)) refl
  where
    go : (x : Option ℕ) → first_from (is_byte 10) at (drop at s) ≡ x → Stands 10 s at
    go (Some k) e = record { place = k; is = e }
    go None e = whole_never s at g (ap (line_to s at) e)

module _ (s : Bytes) (at k : ℕ) (e : first_from (is_byte 10) at (drop at s) ≡ Some k) where
  pub whole_inside : k < length s
  whole_inside = let w = first_within (is_byte 10) at k (drop at s) e in omega (arith, w.0, w.1, length-drop at s)

  pub whole_empty : k ≤ at → line_at s at ≡ LineAt.Line k (k + 1)
  unfolding line_at line_to
  whole_empty h = rw (e, le-ltb at k h)

  pub whole_cr : at < k → get_or s (k - 1) 0 ≡ 13 → line_at s at ≡ LineAt.Line (k - 1) (k + 1)
  unfolding line_at line_to
  whole_cr h c = rw (e, lt-ltb at k h, eq-eqb (get_or s (k - 1) 0) 13 c)

  pub whole_lf : at < k → (get_or s (k - 1) 0 ≡ 13 → ⊥) → line_at s at ≡ LineAt.Line k (k + 1)
  unfolding line_at line_to
  whole_lf h c = rw (e, lt-ltb at k h, ne_eqb (get_or s (k - 1) 0) 13 c)

-- ---- A data header or a `$$$$` line

pub data HeaderOrEnd (l : Line) : Type 0 where
  header : (name : Bytes) → DataHeader l name → HeaderOrEnd l
  record_end : RecordEnd l → HeaderOrEnd l

header_first : (l name : Bytes) → DataHeader l name → column l 1 ≡ 62
header_first l name d = rw d.parts

end_first : (l : Line) → RecordEnd l → column l 1 ≡ 36
unfolding columns_for
end_first l r = let h = r.tagged in cc

pub end_told : (l : Line) (b : ℕ) → HeaderOrEnd l → b ≡ column l 1 → b ≡ 36 → true ≡ is_close l
end_told l b (HeaderOrEnd.header name d) e h = let z = header_first l name d in absurd (omega (arith, e, h, z))
end_told l b (HeaderOrEnd.record_end r) e h = sym (close_is l r)

pub header_told : (l : Line) (b : ℕ) → HeaderOrEnd l → b ≡ column l 1 → (b ≡ 36 → ⊥) → false ≡ is_close l
header_told l b (HeaderOrEnd.header name d) e h = sym (not_close l name d)
header_told l b (HeaderOrEnd.record_end r) e h = absurd (h (e ∙ end_first l r))

-- ---- The name of a data header

pub record Header (l : Line) : Type 0 where
  pub name : Bytes
  pub is : DataHeader l name

-- the name stands at these positions
pub record Named (l : Line) (from to : ℕ) : Type 0 where
  pub order : from ≤ to
  pub inside : to ≤ length l
  pub is : DataHeader l (take (to - from) (drop from l))

first_after : (b i : ℕ) (xs ys : Bytes) → Each (λ x. is_byte b x ≡ false) xs → first_from (is_byte b) i (xs ++ (b ∷ ys)) ≡ Some (i + length xs)
unfolding first_from Each
first_after b i [] ys e = let z : i + 0 ≡ i = omega arith in rw (eq-eqb b b refl, z)
first_after b i (x ∷ xs) ys e =
    let z : suc i + length xs ≡ i + suc (length xs) = omega arith in
    rw e.0 (first_after b (suc i) xs ys e.1 ∙ ap Some z)

no_open : (k : ℕ) → Each (λ x. is_byte 60 x ≡ false) (spaces k)
unfolding Each
no_open zero = tt
no_open (suc k) = (refl, no_open k)

after_open : (k : ℕ) (rest : Bytes) → drop (suc k) (spaces k ++ (60 ∷ rest)) ≡ rest
after_open zero rest = refl
after_open (suc k) rest = after_open k rest

spaces_length : (k : ℕ) → length (spaces k) ≡ k
spaces_length zero = refl
spaces_length (suc k) = ap suc (spaces_length k)

module _ (l : Line) (g : Header l) where
  abbrev k : ℕ
  k = g.is.between

  abbrev tail : Bytes
  tail = g.name ++ (62 ∷ spaces g.is.after)

  opens : first_from (is_byte 60) 1 (drop 1 l) ≡ Some (1 + k)
  opens =
      ap (λ (z : Line). first_from (is_byte 60) 1 (drop 1 z)) g.is.parts
      ∙ first_after 60 1 (spaces k) tail (no_open k)
      ∙ ap (λ (z : ℕ). Some (1 + z)) (spaces_length k)

  from_name : drop (1 + k + 1) l ≡ tail
  from_name =
      let z : 1 + k + 1 ≡ suc (suc k) = omega arith in
      ap (λ (n : ℕ). drop n l) z ∙ ap (drop (suc (suc k))) g.is.parts ∙ after_open k tail

  closes : (i : ℕ) → first_from (is_byte 62) i (drop (1 + k + 1) l) ≡ Some (i + length g.name)
  closes i =
      ap (first_from (is_byte 62) i) from_name
      ∙ first_after 62 i g.name (spaces g.is.after) (each_as g.name (λ b. ne_eqb b 62) g.is.no_close)

  same_place : {i j : ℕ} → Some i ≡ Some j → i ≡ j
  same_place h = cc

  pub opening : Stands 60 l 1
  opening = record { place = 1 + k; is = opens }

  module _ (o : ℕ) (e : first_from (is_byte 60) 1 (drop 1 l) ≡ Some o) where
    open_is : o ≡ 1 + k
    open_is = same_place (sym e ∙ opens)

    pub open_low : o < length l
    open_low = let w = first_within (is_byte 60) 1 o (drop 1 l) e in omega (arith, w.0, w.1, length-drop 1 l)

    closes_at : first_from (is_byte 62) (o + 1) (drop (o + 1) l) ≡ Some (o + 1 + length g.name)
    closes_at = ap (λ (z : ℕ). first_from (is_byte 62) (o + 1) (drop (z + 1) l)) open_is ∙ closes (o + 1)

    pub closing : Stands 62 l (o + 1)
    closing = record { place = o + 1 + length g.name; is = closes_at }

    pub named : (t : ℕ) → first_from (is_byte 62) (o + 1) (drop (o + 1) l) ≡ Some t → Named l (o + 1) t
    named t h =
        let w = first_within (is_byte 62) (o + 1) t (drop (o + 1) l) h in
        let m : t ≡ o + 1 + length g.name = same_place (sym h ∙ closes_at) in
        let n : length g.name ≡ t - (o + 1) = omega arith in
        let d : drop (o + 1) l ≡ tail = ap (λ (z : ℕ). drop (z + 1) l) open_is ∙ from_name in
        let same : take (t - (o + 1)) (drop (o + 1) l) ≡ g.name = ap (take (t - (o + 1))) d ∙ take_at g.name (62 ∷ spaces g.is.after) (t - (o + 1)) n in
        record {
          order = w.0;
          inside = omega (arith, w.0, w.1, length-drop (o + 1) l);
          is = subst (DataHeader l) (sym same) g.is;
        }
