-- Samples of coordinate fields, read and written.
use Prim.Native.String.{String}
use Rattle.std.specs.Prelude.{Option, Some, None, ◌≡◌, refl, List, [], ◌∷◌, map, ℤ, pos, negsuc}
use Rattle.text.specs.Text.{bytes}
use Rattle.field_numbers.specs.Number.{decimal_after}
use Rattle.field_numbers.specs.Read.{all_digits, after_spaces}
use Rattle.field_numbers.specs.Write.{text_by}
use Rattle.field_coordinates.specs.Read.{point_read, before_point, inked, coordinate_in}
use Rattle.field_coordinates.specs.Write.{point_text, coordinate_text}

pub record Sample : Type 0 where
  pub field : String
  pub stands : Option ℤ

pub samples : List Sample
samples =
    record { field = "99999.9999"; stands = Some (pos 999999999) } ∷
    record { field = "-9999.9999"; stands = Some (negsuc 99999998) } ∷
    record { field = "   -0.8250"; stands = Some (negsuc 8249) } ∷
    record { field = "    1.2500"; stands = Some (pos 12500) } ∷
    record { field = "00001.2500"; stands = Some (pos 12500) } ∷
    record { field = "   -0.0000"; stands = Some (pos 0) } ∷
    record { field = "          "; stands = Some (pos 0) } ∷
    record { field = "-99999.999"; stands = None } ∷
    record { field = "     .5000"; stands = None } ∷
    record { field = "    -.5000"; stands = None } ∷
    record { field = "    0.000 "; stands = None } ∷
    record { field = "   0.00000"; stands = None } ∷
    record { field = "     0.000"; stands = None } ∷
    record { field = "  - 0.5000"; stands = None } ∷
    []

pub samples_read : map (λ (s : Sample). coordinate_in (bytes s.field)) samples ≡ map (λ (s : Sample). s.stands) samples
unfolding samples coordinate_in inked before_point point_read after_spaces all_digits decimal_after
samples_read = refl

pub record Text : Type 0 where
  pub value : ℤ
  pub text : String

pub texts : List Text
texts =
    record { value = pos 999999999; text = "99999.9999" } ∷
    record { value = negsuc 99999998; text = "-9999.9999" } ∷
    record { value = negsuc 8249; text = "   -0.8250" } ∷
    record { value = negsuc 0; text = "   -0.0001" } ∷
    record { value = pos 0; text = "    0.0000" } ∷
    record { value = pos 12500; text = "    1.2500" } ∷
    []

pub texts_written : map (λ (s : Text). coordinate_text s.value) texts ≡ map (λ (s : Text). bytes s.text) texts
unfolding texts point_text text_by
texts_written = refl
