-- The usual form of a coordinate: spaces, one digit or two with at most a sign before them, the point, four digits.
use Rattle.std.specs.Prelude.{Option, None, Some, ℕ, suc, ◌+◌, ◌-◌, ◌*◌, ◌≤◌, ◌<◌, ◌≡◌, refl, [], ◌∷◌, Bool, true, false, cond, eqb, leb, ltb, length, get_or, ℤ}
use Rattle.std.proofs.Common.{arith, sym, ap, ◌∙◌}
use borrow.Author.Tests.{le-leb, lt-leb, eq-eqb, ne_eqb, eqb-true, ltb-true, ltb-false}
use Rattle.text.specs.Text.{Bytes, Line, bytes, Each}
use Rattle.text.specs.Columns.{column, columns, columns_for}
use Rattle.text.specs.Laws.{false_true}
use Rattle.field_numbers.specs.Number.{Digit, decimal_after}
use Rattle.field_numbers.specs.Read.{all_digits, after_spaces, signed}
use Rattle.field_numbers.specs.Agree.{each_digit, digit_not}
use Rattle.field_coordinates.specs.Read.{coordinate_in, inked, before_point, point_read}
use Rattle.line_usual_position.specs.declared.Position.{Position}

-- the first k columns lie within their bounds
abbrev pub Between : Line → Bytes → Bytes → ℕ → Type 0
Between l low high k = (j : ℕ) → j < k → (get_or low j 0 ≤ column l (j + 1)) × (column l (j + 1) ≤ get_or high j 0)

-- the two columns before the units
pub data Lead (a b : ℕ) : Type 0 where
  none : a ≡ 32 → b ≡ 32 → Lead a b
  sign : a ≡ 32 → b ≡ 45 → Lead a b
  tens : a ≡ 32 → Digit b → Lead a b
  sign_tens : a ≡ 45 → Digit b → Lead a b

-- a usual coordinate in the ten columns from column i
pub record UsualAt (l : Line) (i : ℕ) : Type 0 where
  pub inside : i + 9 ≤ length l
  pub first : column l i ≡ 32
  pub second : column l (i + 1) ≡ 32
  pub lead : Lead (column l (i + 2)) (column l (i + 3))
  pub units : Digit (column l (i + 4))
  pub point : column l (i + 5) ≡ 46
  pub six : Digit (column l (i + 6))
  pub seven : Digit (column l (i + 7))
  pub eight : Digit (column l (i + 8))
  pub nine : Digit (column l (i + 9))

abbrev pub UsualLine : Line → Type 0
UsualLine l = UsualAt l 1 × UsualAt l 11 × UsualAt l 21

-- ---- Its value

abbrev pub minus_of : ℕ → ℕ → Bool
minus_of a b = cond (eqb b 45) true (eqb a 45)

abbrev pub tens_of : ℕ → ℕ
tens_of b = cond (leb 48 b) (b - 48) 0

unfoldable pub decimals_of : Line → ℕ → ℕ
decimals_of l i = decimal_after 0 (column l (i + 6) ∷ column l (i + 7) ∷ column l (i + 8) ∷ column l (i + 9) ∷ [])

unfoldable pub coordinate_of : Line → ℕ → ℤ
coordinate_of l i =
    signed (minus_of (column l (i + 2)) (column l (i + 3))) ((tens_of (column l (i + 3)) * 10 + (column l (i + 4) - 48)) * 10000 + decimals_of l i)

-- what is said of a line: coordinates, or nothing
abbrev pub Said : Line → Option Position → Type 0
Said l (Some p) =
    (coordinate_in (columns l 1 10) ≡ Some p.x) × (coordinate_in (columns l 11 20) ≡ Some p.y) × (coordinate_in (columns l 21 30) ≡ Some p.z)
Said l None = Unit {0}

-- ---- It is read so

module _ (u d e f g : ℕ) (pu : Digit u) (pd : Digit d) (pe : Digit e) (pf : Digit f) (pg : Digit g) where
  -- with what stands before the units
  abbrev Reads : ℕ → ℕ → Type 0
  Reads a b =
      coordinate_in (32 ∷ 32 ∷ a ∷ b ∷ u ∷ 46 ∷ d ∷ e ∷ f ∷ g ∷ [])
      ≡ Some (signed (minus_of a b) ((tens_of b * 10 + (u - 48)) * 10000 + decimal_after 0 (d ∷ e ∷ f ∷ g ∷ [])))

  unit : all_digits (u ∷ []) ≡ true
  unfolding Each
  unit = each_digit (u ∷ []) (pu, tt)

  decimals : all_digits (d ∷ e ∷ f ∷ g ∷ []) ≡ true
  unfolding Each
  decimals = each_digit (d ∷ e ∷ f ∷ g ∷ []) (pd, (pe, (pf, (pg, tt))))

  read_none : Reads 32 32
  unfolding coordinate_in inked before_point point_read after_spaces decimal_after
  read_none = rw (digit_not u 32 (omega arith) pu, digit_not u 45 (omega arith) pu, unit, decimals)

  read_sign : Reads 32 45
  unfolding coordinate_in inked before_point point_read after_spaces decimal_after
  read_sign = rw (unit, decimals)

  module _ (b : ℕ) (pb : Digit b) where
    both : all_digits (b ∷ u ∷ []) ≡ true
    unfolding Each
    both = each_digit (b ∷ u ∷ []) (pb, (pu, tt))

    two_are : (0 * 10 + (b - 48)) * 10 + (u - 48) ≡ (b - 48) * 10 + (u - 48)
    two_are = omega arith

    read_tens : Reads 32 b
    unfolding coordinate_in inked before_point point_read after_spaces decimal_after
    read_tens = rw (digit_not b 32 (omega arith) pb, digit_not b 45 (omega arith) pb, both, decimals, le-leb 48 b pb.0, two_are)

    read_sign_tens : Reads 45 b
    unfolding coordinate_in inked before_point point_read after_spaces decimal_after
    read_sign_tens = rw (digit_not b 45 (omega arith) pb, both, decimals, le-leb 48 b pb.0, two_are)

  read_lead : (a b : ℕ) → Lead a b → Reads a b
  read_lead a b (Lead.none p q) = rw (p, q) read_none
  read_lead a b (Lead.sign p q) = rw (p, q) read_sign
  read_lead a b (Lead.tens p q) = rw p (read_tens b q)
  read_lead a b (Lead.sign_tens p q) = rw p (read_sign_tens b q)

ten_columns : (l : Line) (i : ℕ) →
    columns l i (i + 9)
    ≡ column l i ∷ column l (i + 1) ∷ column l (i + 2) ∷ column l (i + 3) ∷ column l (i + 4) ∷ column l (i + 5) ∷ column l (i + 6) ∷ column l (i + 7) ∷ column l (i + 8) ∷ column l (i + 9) ∷ []
unfolding columns_for
ten_columns l i =
    let k : suc (i + 9) - i ≡ 10 = omega arith in
    let a : i + 1 ≡ suc i = omega arith in
    let b : i + 2 ≡ suc (suc i) = omega arith in
    let c : i + 3 ≡ suc (suc (suc i)) = omega arith in
    let d : i + 4 ≡ suc (suc (suc (suc i))) = omega arith in
    let e : i + 5 ≡ suc (suc (suc (suc (suc i)))) = omega arith in
    let f : i + 6 ≡ suc (suc (suc (suc (suc (suc i))))) = omega arith in
    let g : i + 7 ≡ suc (suc (suc (suc (suc (suc (suc i)))))) = omega arith in
    let h : i + 8 ≡ suc (suc (suc (suc (suc (suc (suc (suc i))))))) = omega arith in
    let j : i + 9 ≡ suc (suc (suc (suc (suc (suc (suc (suc (suc i)))))))) = omega arith in
    rw k (rw (a, b, c, d, e, f, g, h, j))

pub usual_reads : (l : Line) (i : ℕ) → UsualAt l i → coordinate_in (columns l i (i + 9)) ≡ Some (coordinate_of l i)
unfolding coordinate_of decimals_of
usual_reads l i h =
    rw (ten_columns l i, h.first, h.second, h.point)
    (read_lead _ _ _ _ _ h.units h.six h.seven h.eight h.nine _ _ h.lead)

-- ---- Laws for the code

module _ (l : Line) (i a b : ℕ) (p : a ≡ column l (i + 2)) (q : b ≡ column l (i + 3)) where
  pub lead_sign_tens : 48 ≤ b → column l (i + 3) ≤ 57 → a ≡ 45 → Lead (column l (i + 2)) (column l (i + 3))
  lead_sign_tens h k e = Lead.sign_tens (sym p ∙ e) (omega (arith, q), k)

  pub lead_tens : 48 ≤ b → column l (i + 3) ≤ 57 → eqb a 32 ≡ true → Lead (column l (i + 2)) (column l (i + 3))
  lead_tens h k e = Lead.tens (sym p ∙ eqb-true a 32 e) (omega (arith, q), k)

  pub lead_sign : a ≡ 32 → b ≡ 45 → Lead (column l (i + 2)) (column l (i + 3))
  lead_sign e f = Lead.sign (sym p ∙ e) (sym q ∙ f)

  pub lead_none : a ≡ 32 → eqb b 32 ≡ true → Lead (column l (i + 2)) (column l (i + 3))
  lead_none e f = Lead.none (sym p ∙ e) (sym q ∙ eqb-true b 32 f)

  pub minus_tens : (b ≡ 45 → ⊥) → eqb a 45 ≡ minus_of (column l (i + 2)) (column l (i + 3))
  minus_tens h = ap (λ (k : ℕ). eqb k 45) p ∙ sym (rw (ne_eqb (column l (i + 3)) 45 (λ e. h (q ∙ e))))

pub minus_units : (l : Line) (i b : ℕ) → b ≡ column l (i + 3) → b ≡ 45 → true ≡ minus_of (column l (i + 2)) (column l (i + 3))
minus_units l i b q e = sym (rw (eq-eqb (column l (i + 3)) 45 (sym q ∙ e)))

pub ruleset lead_laws = (lead_sign_tens, lead_tens, lead_sign, lead_none, false_true)

lead_most : (a b : ℕ) → Lead a b → b ≤ 57
lead_most a b (Lead.none p q) = omega (arith, q)
lead_most a b (Lead.sign p q) = omega (arith, q)
lead_most a b (Lead.tens p q) = q.1
lead_most a b (Lead.sign_tens p q) = q.1

module _ (l : Line) (i b : ℕ) (q : b ≡ column l (i + 3)) where
  pub tens_there : 48 ≤ b → UsualAt l i → (b - 48 ≡ tens_of (column l (i + 3))) × (b - 48 ≤ 9)
  tens_there h u =
      (ap (λ (k : ℕ). k - 48) q ∙ sym (rw (le-leb 48 (column l (i + 3)) (omega (arith, q)))), omega (arith, q, lead_most (column l (i + 2)) (column l (i + 3)) u.lead))

  pub no_tens : b < 48 → (0 ≡ tens_of (column l (i + 3))) × (0 ≤ 9)
  no_tens h = (sym (rw (lt-leb 48 (column l (i + 3)) (omega (arith, q)))), omega arith)

pub coordinate_is : (l : Line) (i t u d : ℕ) (m : Bool) (r : ℤ) → t ≡ tens_of (column l (i + 3)) → u ≡ column l (i + 4) - 48 → d ≡ decimals_of l i →
    m ≡ minus_of (column l (i + 2)) (column l (i + 3)) → r ≡ signed m ((t * 10 + u) * 10000 + d) → r ≡ coordinate_of l i
unfolding coordinate_of
coordinate_is l i t u d m r p q o n e = e ∙ rw (p, q, o, n)

-- one column more within its bounds
pub between_next : (l : Line) (low high : Bytes) (k b : ℕ) → Between l low high k → b ≡ column l (k + 1) → get_or low k 0 ≤ b → b ≤ get_or high k 0 → Between l low high (k + 1)
between_next l low high k b h e p q j i = go (ltb j k) refl
  where
    go : (t : Bool) → ltb j k ≡ t → (get_or low j 0 ≤ column l (j + 1)) × (column l (j + 1) ≤ get_or high j 0)
    go true n = h j (ltb-true j k n)
    go false n = let o : j ≡ k = omega (arith, ltb-false j k n) in rw o (omega (arith, e), omega (arith, e))

-- a byte that can be only this one
only : (x k : ℕ) → (k ≤ x) × (x ≤ k) → x ≡ k
only x k h = omega (arith, h.0, h.1)

abbrev Only : Line → ℕ → ℕ → Type 0
Only l i k = (k ≤ column l i) × (column l i ≤ k)

-- the bounds of the ten columns from column i, and the lead
usual_from : (l : Line) (i : ℕ) → i + 9 ≤ length l → Only l i 32 → Only l (i + 1) 32 → Lead (column l (i + 2)) (column l (i + 3)) → Digit (column l (i + 4)) →
    Only l (i + 5) 46 → Digit (column l (i + 6)) → Digit (column l (i + 7)) → Digit (column l (i + 8)) → Digit (column l (i + 9)) → UsualAt l i
usual_from l i n p q lead u o a b c d =
    record { inside = n; first = only _ _ p; second = only _ _ q; lead = lead; units = u; point = only _ _ o; six = a; seven = b; eight = c; nine = d }

-- the bounds of all thirty columns, and then the leads
module _ (l : Line) (h : 30 ≤ length l) (b : Between l (bytes "    0.0000    0.0000    0.0000") (bytes "  -99.9999  -99.9999  -99.9999") 30) where
  pub lead_bound : (column l 4 ≤ 57) × (column l 14 ≤ 57) × (column l 24 ≤ 57)
  lead_bound = ((b 3 (omega arith)).1, (b 13 (omega arith)).1, (b 23 (omega arith)).1)

  pub line_usual : Lead (column l 3) (column l 4) → Lead (column l 13) (column l 14) → Lead (column l 23) (column l 24) → UsualLine l
  line_usual p q r = (
    usual_from l 1 (omega arith) (b 0 (omega arith)) (b 1 (omega arith)) p (b 4 (omega arith)) (b 5 (omega arith)) (b 6 (omega arith)) (b 7 (omega arith)) (b 8 (omega arith)) (b 9 (omega arith)),
    usual_from l 11 (omega arith) (b 10 (omega arith)) (b 11 (omega arith)) q (b 14 (omega arith)) (b 15 (omega arith)) (b 16 (omega arith)) (b 17 (omega arith)) (b 18 (omega arith)) (b 19 (omega arith)),
    usual_from l 21 (omega arith) (b 20 (omega arith)) (b 21 (omega arith)) r (b 24 (omega arith)) (b 25 (omega arith)) (b 26 (omega arith)) (b 27 (omega arith)) (b 28 (omega arith)) (b 29 (omega arith)),
  )

pub line_said : (l : Line) (x y z : ℤ) → UsualLine l → x ≡ coordinate_of l 1 → y ≡ coordinate_of l 11 → z ≡ coordinate_of l 21 →
    Said l (Some (record { x = x; y = y; z = z }))
line_said l x y z u p q r =
    (usual_reads l 1 u.0 ∙ ap Some (sym p), usual_reads l 11 u.1 ∙ ap Some (sym q), usual_reads l 21 u.2 ∙ ap Some (sym r))
