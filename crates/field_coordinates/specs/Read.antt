-- How a coordinate field is read from left to right. `Coordinate` has the rule; `Agree` proves that they say the same.
use Rattle.std.specs.Prelude.{ℤ, Option, Some, None, ◌+◌, ◌*◌, [], ◌∷◌, Bool, true, false, cond, ◌&&◌, eqb, get_or, take, drop, pos}
use Rattle.text.specs.Text.{Bytes, byte}
use Rattle.field_numbers.specs.Number.{decimal_after}
use Rattle.field_numbers.specs.Read.{some_digits, after_spaces, signed}

-- the digits before the point and the four after it, with a sign read before them
unfoldable pub point_read : Bool → Bytes → Bytes → Option ℤ
point_read minus ds fs =
    cond (some_digits ds && some_digits fs) (Some (signed minus (decimal_after 0 ds * 10000 + decimal_after 0 fs))) None

-- the columns before the point without their leading spaces, and those after it
unfoldable pub before_point : Bytes → Bytes → Option ℤ
before_point [] fs = None
before_point (b ∷ bs) fs = cond (eqb b (byte "-")) (point_read true bs fs) (point_read false (b ∷ bs) fs)

-- ten columns that are not all spaces
unfoldable pub inked : Bytes → Option ℤ
inked cs = cond (eqb (get_or cs 5 0) (byte ".")) (before_point (after_spaces (take 5 cs)) (drop 6 cs)) None

abbrev pub blank_or : Bytes → Option ℤ → Option ℤ
blank_or [] other = Some (pos 0)
blank_or (b ∷ bs) other = other

-- what ten columns stand for
unfoldable pub coordinate_in : Bytes → Option ℤ
coordinate_in cs = blank_or (after_spaces cs) (inked cs)
