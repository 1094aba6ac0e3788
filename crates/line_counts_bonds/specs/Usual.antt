-- Bond lines that end in the usual zeros: what their fields hold.
use Rattle.std.specs.Prelude.{Result, Ok, None, ℕ, ◌≤◌, ◌≡◌, Bool, true, not, eqb, pos, length, drop}
use Rattle.std.proofs.Math.Path.{refl, sym}
use Rattle.std.proofs.Common.{ap, ◌∙◌}
use Rattle.std.proofs.Math.ListN.{take}
use Rattle.text.specs.Text.{Line, bytes}
use Rattle.text.specs.Columns.{columns_for}
use Rattle.text.specs.Find.{is_ink, ink_column, has_text}
use Rattle.text.specs.First.{first_none}
use Rattle.text.specs.Agree.{has_text_is}
use Rattle.rules.specs.Forms as R
use Rattle.judge_line.specs.Got.{Got, got, then, need}
use Rattle.judge_line.specs.Field.{number_at, listed_at, elem_signed, signed_listed_at, spaces_from}
use Rattle.judge_line.specs.Judge.{bond_of}
use Rattle.line_fields.specs.Answer.{field_got}
use Rattle.line_fields.specs.Zeros.{zero_number, zero_signed}
use Rattle.judge_line.specs.declared.Refusal.{Refusal}
use Rattle.line_counts_bonds.specs.Answer.{bond_from}
use Rattle.line_counts_bonds.specs.Lists.{no_stereo}

-- a bond line whose columns 10 to 21 are zeros, and its last
pub record BondZeros (l : Line) : Type 0 where
  pub ends : length l ≤ 21
  pub zeros : has_text l 10 (bytes "  0  0  0  0") ≡ true

unfoldable pub plain_bond : ℕ → ℕ → ℕ → Got R.Bond
plain_bond first second type =
    need (not (eqb first second)) 10 1
    (got (record { first = first; second = second; type = type; stereo = 0; topology = 0; centre = pos 0 }))

module _ (l : Line) (z : BondZeros l) where
  tail : columns_for l 10 12 ≡ bytes "  0  0  0  0"
  tail = (has_text_is l 10 (bytes "  0  0  0  0")).0 z.zeros

  bond_over : ink_column l 22 ≡ None
  unfolding ink_column
  bond_over = first_none is_ink l 21 22 z.ends

  -- from column 10 on
  bond_tail : (first second type : ℕ) →
      plain_bond first second type ≡
      then (listed_at l 10 12 6 (R.stereos type)) (λ stereo. bond_from first second type stereo l)
  unfolding plain_bond listed_at bond_from signed_listed_at elem_signed spaces_from columns_for then need
  bond_tail first second type =
      sym (rw (
        zero_number l 10 12 6 (ap (λ xs. take 3 xs) tail),
        ← no_stereo type 0 refl,
        zero_number l 16 18 2 (ap (λ xs. take 3 (drop 6 xs)) tail),
        zero_signed l 19 21 1 13 (ap (λ xs. take 3 (drop 9 xs)) tail),
        bond_over,
      ))

-- the three fields before, the test and the bond as the code has them
pub bond_plain : (n : ℕ) (l : Line) (x y w : Result ℕ Refusal) (first second type : ℕ) (t : Bool) (g : Got R.Bond) → field_got x ≡ number_at l 1 3 1 n → x ≡ Ok first →
    field_got y ≡ number_at l 4 6 1 n → y ≡ Ok second → field_got w ≡ number_at l 7 9 1 8 → w ≡ Ok type →
    (t ≡ true → BondZeros l) → t ≡ true → g ≡ plain_bond first second type → g ≡ bond_of n l
unfolding bond_of bond_from then
bond_plain n l x y w first second type t g a b c d e h f k s = s ∙ bond_tail l (f k) first second type ∙ sym (rw (← a, b, ← c, d, ← e, h))
