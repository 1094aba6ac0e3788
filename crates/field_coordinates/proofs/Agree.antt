-- The rule and the reading of a coordinate field say the same; a field stands for one number, and its range is known.
use Rattle.std.specs.Prelude.{Option, Some, None, ℕ, zero, suc, ◌+◌, ◌*◌, ◌≡◌, refl, ◌↔◌, [], ◌∷◌, ◌++◌, Bool, true, false, cond, ◌&&◌, eqb, length, get_or, take, drop, ℤ, pos}
use Rattle.std.proofs.Common.{arith, subst, length-drop, length-take-le, eqb-true}
use Rattle.std.proofs.Math.Seq.{split_at}
use Rattle.text.specs.Text.{Bytes}
use Rattle.text.specs.Columns.{spaces}
use Rattle.field_numbers.specs.Number.{Digits, decimal_after}
use Rattle.field_numbers.specs.Read.{some_digits, after_spaces, signed}
use Rattle.text.specs.Laws.{and_true}
use Rattle.field_numbers.specs.Agree.{some_digits_lem, led}
use Rattle.field_coordinates.specs.Coordinate.{Pointed, Coordinate}
use Rattle.field_coordinates.specs.Read.{point_read, before_point, inked, blank_or, coordinate_in}
use Rattle.field_coordinates.specs.Agree.{read_coordinate}

-- from the reading to the rule
took : (t : Bool) (r : Option ℤ) (z : ℤ) → cond t r None ≡ Some z → (t ≡ true) × (r ≡ Some z)
took true r z h = (refl, h)
took false r z h = absurd (let k : ◌≡◌ {A = ℕ} 0 1 = cc in omega arith)

record PointRead (minus : Bool) (ds fs : Bytes) (z : ℤ) : Type 0 where
  whole : Digits ds (decimal_after 0 ds)
  part : Digits fs (decimal_after 0 fs)
  value : signed minus (decimal_after 0 ds * 10000 + decimal_after 0 fs) ≡ z

point_read_lem : (minus : Bool) (ds fs : Bytes) (z : ℤ) → point_read minus ds fs ≡ Some z → PointRead minus ds fs z
unfolding point_read
point_read_lem minus ds fs z h =
    let t = took (some_digits ds && some_digits fs) (Some (signed minus (decimal_after 0 ds * 10000 + decimal_after 0 fs))) z h in
    let d = and_true (some_digits ds) (some_digits fs) t.0 in
    let v = t.1 in
    record { whole = some_digits_lem ds d.0; part = some_digits_lem fs d.1; value = cc }

before_read : (cs bs fs : Bytes) (z : ℤ) (i : ℕ) → Pointed cs (spaces i ++ bs) fs → before_point bs fs ≡ Some z → Coordinate cs z
unfolding before_point
before_read cs [] fs z i p h = absurd (let k : ◌≡◌ {A = ℕ} 0 1 = cc in omega arith)
before_read cs (b ∷ bs) fs z i p h = go (eqb b 45) refl h where
  go : (t : Bool) → eqb b 45 ≡ t → cond t (point_read true bs fs) (point_read false (b ∷ bs) fs) ≡ Some z → Coordinate cs z
  go true e h =
      let r = point_read_lem true bs fs z h in
      let q : b ≡ 45 = eqb-true b 45 e in
      subst (Coordinate cs) r.value (Coordinate.minus i bs fs _ _ (rw q at p) r.whole r.part)
  go false e h =
      let r = point_read_lem false (b ∷ bs) fs z h in
      subst (Coordinate cs) r.value (Coordinate.plain i (b ∷ bs) fs _ _ p r.whole r.part)

ten_pointed : (cs : Bytes) → length cs ≡ 10 → get_or cs 5 0 ≡ 46 → Pointed cs (take 5 cs) (drop 6 cs)
ten_pointed cs n p = record {
  parts = rw p at (split_at cs 5 0 (omega arith));
  column_6 = length-take-le 5 cs (omega arith);
  four = omega (arith, length-drop 6 cs);
}

inked_read : (cs : Bytes) (z : ℤ) → length cs ≡ 10 → inked cs ≡ Some z → Coordinate cs z
unfolding inked
inked_read cs z n h =
    let t = took (eqb (get_or cs 5 0) 46) (before_point (after_spaces (take 5 cs)) (drop 6 cs)) z h in
    let l = led (take 5 cs) in
    let p = ten_pointed cs n (eqb-true (get_or cs 5 0) 46 t.0) in
    before_read cs (after_spaces (take 5 cs)) (drop 6 cs) z l.count
    (subst (λ (bs : Bytes). Pointed cs bs (drop 6 cs)) l.parts p)
    t.1

spaces_all : (cs : Bytes) (n : ℕ) → length cs ≡ n → after_spaces cs ≡ [] → cs ≡ spaces n
unfolding after_spaces
spaces_all [] zero n e = refl
spaces_all [] (suc n) h e = absurd (omega arith)
spaces_all (b ∷ bs) zero h e = absurd (omega arith)
spaces_all (b ∷ bs) (suc n) h e = go (eqb b 32) refl e (spaces_all bs n (omega arith)) where
  go : (t : Bool) → eqb b 32 ≡ t → cond t (after_spaces bs) (b ∷ bs) ≡ [] → (after_spaces bs ≡ [] → bs ≡ spaces n) → b ∷ bs ≡ spaces (suc n)
  go true p e k = let q = eqb-true b 32 p in let r = k e in λ j. q j ∷ r j
  go false p e k = absurd (let z : ◌≡◌ {A = ℕ} 0 1 = cc in omega arith)

pub coordinate_read : (cs : Bytes) (z : ℤ) → length cs ≡ 10 → coordinate_in cs ≡ Some z → Coordinate cs z
unfolding coordinate_in
coordinate_read cs z n h = go (after_spaces cs) refl h where
  go : (rest : Bytes) → after_spaces cs ≡ rest → blank_or rest (inked cs) ≡ Some z → Coordinate cs z
  go [] e h = let q : pos 0 ≡ z = cc in subst (Coordinate cs) q (Coordinate.blank (spaces_all cs 10 n e))
  go (b ∷ bs) e h = inked_read cs z n h

pub coordinate_agrees : (cs : Bytes) → length cs ≡ 10 → (z : ℤ) → (coordinate_in cs ≡ Some z) ↔ Coordinate cs z
coordinate_agrees cs n z = (coordinate_read cs z n, read_coordinate)

-- a field is malformed exactly where it stands for no number
pub malformed_agrees : (cs : Bytes) → length cs ≡ 10 → (coordinate_in cs ≡ None) ↔ ((z : ℤ) → Coordinate cs z → ⊥)
malformed_agrees cs n = (λ h z k. let e = read_coordinate k in let o : ◌≡◌ {A = ℕ} 0 1 = cc in omega arith, λ h. go (coordinate_in cs) refl h) where
  go : (r : Option ℤ) → coordinate_in cs ≡ r → ((z : ℤ) → Coordinate cs z → ⊥) → coordinate_in cs ≡ None
  go (Some z) e h = absurd (h z (coordinate_read cs z n e))
  go None e h = e
