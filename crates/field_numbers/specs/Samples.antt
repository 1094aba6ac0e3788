-- Integer fields as they are read and written, on samples.
use Prim.Native.String.{String}
use Rattle.std.specs.Prelude.{Ok, Err, ◌≡◌, refl, List, [], ◌∷◌, map, pos, negsuc}
use Rattle.text.specs.Text.{Bytes, bytes}
use Rattle.field_numbers.specs.Number.{decimal_after}
use Rattle.field_numbers.specs.Read.{all_digits, after_spaces, before_spaces, digits_read, after_blank, integer_in, ranged, number_in, signed_ranged, signed_in}
use Rattle.field_numbers.specs.Write.{text_by, number_text, signed_text}
use Rattle.field_numbers.specs.declared.NumberFault.{NumberFault}

-- from 1 to 255
abbrev fields : List String
fields = "  1" ∷ "  0" ∷ "   " ∷ "255" ∷ "256" ∷ "007" ∷ "1  " ∷ " 1 " ∷ "0  " ∷ "1 1" ∷ " -1" ∷ "+1 " ∷ " 1x" ∷ []

pub number_samples : map (λ s. number_in 1 255 (bytes s)) fields
    ≡ Ok 1
    ∷ Err NumberFault.Outside
    ∷ Err NumberFault.Outside
    ∷ Ok 255
    ∷ Err NumberFault.Outside
    ∷ Ok 7
    ∷ Ok 1
    ∷ Ok 1
    ∷ Err NumberFault.Outside
    ∷ Err NumberFault.Malformed
    ∷ Err NumberFault.Malformed
    ∷ Err NumberFault.Malformed
    ∷ Err NumberFault.Malformed
    ∷ []
unfolding all_digits after_spaces before_spaces decimal_after digits_read after_blank integer_in ranged number_in
number_samples = refl

-- from -15 to 15
abbrev signed_fields : List String
signed_fields = " -1" ∷ "-15" ∷ "-16" ∷ " 15" ∷ " 16" ∷ " -0" ∷ "   " ∷ "+1 " ∷ "-1 " ∷ "+16" ∷ "- 1" ∷ "+ 1" ∷ " - " ∷ "  +" ∷ "+-1" ∷ "--1" ∷ []

pub signed_samples : map (λ s. signed_in 15 15 (bytes s)) signed_fields
    ≡ Ok (negsuc 0)
    ∷ Ok (negsuc 14)
    ∷ Err NumberFault.Outside
    ∷ Ok (pos 15)
    ∷ Err NumberFault.Outside
    ∷ Ok (pos 0)
    ∷ Ok (pos 0)
    ∷ Ok (pos 1)
    ∷ Ok (negsuc 0)
    ∷ Err NumberFault.Outside
    ∷ Err NumberFault.Malformed
    ∷ Err NumberFault.Malformed
    ∷ Err NumberFault.Malformed
    ∷ Err NumberFault.Malformed
    ∷ Err NumberFault.Malformed
    ∷ Err NumberFault.Malformed
    ∷ []
unfolding all_digits after_spaces before_spaces decimal_after digits_read after_blank integer_in signed_ranged signed_in
signed_samples = refl

pub written_samples : ◌≡◌ {A = List Bytes} (number_text 3 0 ∷ number_text 3 12 ∷ number_text 3 999 ∷ signed_text 3 (negsuc 0) ∷ signed_text 4 (negsuc 14) ∷ signed_text 2 (pos 4) ∷ []) (map bytes ("  0" ∷ " 12" ∷ "999" ∷ " -1" ∷ " -15" ∷ " 4" ∷ []))
unfolding text_by
written_samples = refl
