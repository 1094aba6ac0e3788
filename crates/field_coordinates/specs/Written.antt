-- What is written of a coordinate is read as that coordinate: ten columns of allowed bytes.
use Rattle.std.specs.Prelude.{Some, ℕ, suc, ◌+◌, ◌*◌, ◌/◌, ◌%◌, ◌≤◌, ◌≡◌, refl, [], ◌∷◌, ◌++◌, Bool, true, false, length, ℤ, pos, negsuc, neg_ℤ}
use Rattle.std.proofs.Math.Nat.{div-div-eq-div-mul}
use Rattle.std.proofs.Common.{arith, sym, ap, ◌∙◌, subst, length-append}
use Rattle.text.specs.Laws.{each_append}
use Rattle.text.specs.Text.{Bytes, Each}
use Rattle.text.specs.Columns.{Allowed}
use Rattle.field_numbers.specs.Number.{Digits, Between, decimal_after}
use Rattle.field_numbers.specs.Write.{sized_text}
use Rattle.field_numbers.specs.Written.{text_length, text_allowed, Shape, shape}
use Rattle.field_coordinates.specs.Coordinate.{Pointed, Coordinate}
use Rattle.field_coordinates.specs.Read.{coordinate_in}
use Rattle.field_coordinates.specs.Agree.{read_coordinate}
use Rattle.field_coordinates.specs.Write.{last_digit, after_point, point_text, coordinate_text}

pub text_ten : (minus : Bool) (k : ℕ) → length (point_text minus k) ≡ 10
unfolding point_text
text_ten minus k = length-append (sized_text 5 minus (k / 10000)) (after_point k) ∙ omega (arith, text_length 5 true minus (k / 10000))

pub coordinate_length : (z : ℤ) → length (coordinate_text z) ≡ 10
coordinate_length (pos k) = text_ten false k
coordinate_length (negsuc k) = text_ten true (suc k)

text_bytes : (minus : Bool) (k : ℕ) → Each Allowed (point_text minus k)
unfolding point_text Each
text_bytes minus k =
    each_append Allowed (sized_text 5 minus (k / 10000)) (after_point k) (text_allowed 5 true minus (k / 10000))
    (omega arith, (omega arith, (omega arith, (omega arith, (omega arith, tt)))))

pub coordinate_allowed : (z : ℤ) → Each Allowed (coordinate_text z)
coordinate_allowed (pos k) = text_bytes false k
coordinate_allowed (negsuc k) = text_bytes true (suc k)

-- the digits before the point
plain_text : (k : ℕ) → k ≤ 99999 → Shape false (sized_text 5 false k) k
plain_text k h = shape false 4 k (omega arith)

minus_text : (k : ℕ) → k ≤ 9999 → Shape true (sized_text 5 true k) k
minus_text k h = shape true 3 k (omega arith)

-- the digits after it
part_digits : (k : ℕ) → Digits (last_digit (k / 1000) ∷ last_digit (k / 100) ∷ last_digit (k / 10) ∷ last_digit k ∷ []) (k % 10000)
unfolding Each decimal_after
part_digits k = record {
  some = omega arith;
  each = ((omega arith, omega arith), ((omega arith, omega arith), ((omega arith, omega arith), ((omega arith, omega arith), tt))));
  number = omega (arith, div-div-eq-div-mul k 10 10, div-div-eq-div-mul k 100 10, div-div-eq-div-mul k 1000 10);
}

text_pointed : (minus : Bool) (k : ℕ) (bs : Bytes) → sized_text 5 minus (k / 10000) ≡ bs →
    Pointed (point_text minus k) bs (last_digit (k / 1000) ∷ last_digit (k / 100) ∷ last_digit (k / 10) ∷ last_digit k ∷ [])
unfolding point_text
text_pointed minus k bs e = record {
  parts = ap (λ (l : Bytes). l ++ after_point k) e;
  column_6 = ap length (sym e) ∙ text_length 5 true minus (k / 10000);
  four = refl;
}

whole_part : (k : ℕ) → k / 10000 * 10000 + k % 10000 ≡ k
whole_part k = omega arith

pub coordinate_back : (z : ℤ) → Between 99999999 999999999 z → Coordinate (coordinate_text z) z
coordinate_back (pos k) h =
    let w = plain_text (k / 10000) (omega arith) in
    subst (λ (n : ℕ). Coordinate (point_text false k) (pos n)) (whole_part k)
    (Coordinate.plain w.count w.ds _ (k / 10000) (k % 10000) (text_pointed false k _ w.parts) w.digits (part_digits k))
coordinate_back (negsuc j) h =
    let k = suc j in
    let w = minus_text (k / 10000) (omega arith) in
    subst (λ (n : ℕ). Coordinate (point_text true k) (neg_ℤ (pos n))) (whole_part k)
    (Coordinate.minus w.count w.ds _ (k / 10000) (k % 10000) (text_pointed true k _ w.parts) w.digits (part_digits k))

pub coordinate_written : (z : ℤ) → Between 99999999 999999999 z → coordinate_in (coordinate_text z) ≡ Some z
coordinate_written z h = read_coordinate (coordinate_back z h)
