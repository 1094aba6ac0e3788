-- Atom lines that end in the usual zeros: what their fields hold.
use Rattle.std.specs.Prelude.{Result, Ok, None, ℕ, ◌≤◌, ◌≡◌, Bool, true, pos, length, drop}
use Rattle.std.proofs.Common.{sym, ap, ◌∙◌}
use Rattle.std.proofs.Math.ListN.{take}
use Rattle.text.specs.Text.{Line, bytes}
use Rattle.text.specs.Columns.{columns_for}
use Rattle.text.specs.Find.{is_ink, ink_column, has_text}
use Rattle.text.specs.First.{first_none}
use Rattle.text.specs.Agree.{has_text_is}
use Rattle.judge_line.specs.Got.{got, then}
use Rattle.judge_line.specs.Field.{spaces_from}
use Rattle.judge_line.specs.Judge.{atom_of}
use Rattle.line_fields.specs.Zeros.{zero_number, zero_narrow}
use Rattle.line_atom.specs.Answer.{place_got, place_of, codes_of, exact_of, atom_from, atom_is}
use Rattle.line_atom.specs.AtomParts.{atom_parts}
use Rattle.line_atom.specs.declared.AtomPlace.{AtomPlace}
use Rattle.judge_line.specs.declared.Refusal.{Refusal}
use Rattle.line_atom.specs.declared.AtomCodes.{AtomCodes}
use Rattle.line_atom.specs.declared.Atom.{Atom}

-- an atom line whose columns 35 to 69 are zeros, and its last
pub record AtomZeros (l : Line) : Type 0 where
  pub ends : length l ≤ 69
  pub zeros : has_text l 35 (bytes " 0  0  0  0  0  0  0  0  0  0  0  0") ≡ true

abbrev pub no_codes : AtomCodes
no_codes = record { mass_difference = pos 0; charge_code = 0; parity = 0; hydrogen_count = 0; stereo_care = 0 }

abbrev pub plain_atom : AtomPlace → Atom
plain_atom p =
    record {
      place = p;
      codes = no_codes;
      valence = 0;
      h0 = 0;
      atom_map = 0;
      inversion = 0;
      exact_change = 0;
    }

module _ (l : Line) (z : AtomZeros l) where
  cols : columns_for l 35 35 ≡ bytes " 0  0  0  0  0  0  0  0  0  0  0  0"
  cols = (has_text_is l 35 (bytes " 0  0  0  0  0  0  0  0  0  0  0  0")).0 z.zeros

  atom_over : ink_column l 70 ≡ None
  unfolding ink_column
  atom_over = first_none is_ink l 69 70 z.ends

  no_codes_lem : codes_of l ≡ got no_codes
  unfolding codes_of columns_for then
  no_codes_lem =
      rw (
        zero_narrow l 35 36 3 4 (ap (λ xs. take 2 xs) cols),
        zero_number l 37 39 7 (ap (λ xs. take 3 (drop 2 xs)) cols),
        zero_number l 40 42 3 (ap (λ xs. take 3 (drop 5 xs)) cols),
        zero_number l 43 45 5 (ap (λ xs. take 3 (drop 8 xs)) cols),
        zero_number l 46 48 1 (ap (λ xs. take 3 (drop 11 xs)) cols),
      )

  no_more : (n : ℕ) (p : AtomPlace) (c : AtomCodes) →
      atom_from n p c l ≡ got (atom_is (record { place = p; codes = c; valence = 0; h0 = 0; atom_map = 0; inversion = 0; exact_change = 0 }))
  unfolding atom_from exact_of spaces_from columns_for then
  no_more n p c =
      rw (
        zero_number l 49 51 15 (ap (λ xs. take 3 (drop 14 xs)) cols),
        zero_number l 52 54 1 (ap (λ xs. take 3 (drop 17 xs)) cols),
        zero_number l 61 63 n (ap (λ xs. take 3 (drop 26 xs)) cols),
        zero_number l 64 66 2 (ap (λ xs. take 3 (drop 29 xs)) cols),
        zero_number l 67 69 1 (ap (λ xs. take 3 (drop 32 xs)) cols),
        atom_over,
      )

-- the test and the atom as the code has them
pub atom_plain : (n : ℕ) (l : Line) (x : Result AtomPlace Refusal) (p : AtomPlace) (t : Bool) (a : Atom) → place_got x ≡ place_of l → x ≡ Ok p →
    (t ≡ true → AtomZeros l) → t ≡ true → a ≡ plain_atom p → got (atom_is a) ≡ atom_of n l
unfolding then
atom_plain n l x p t a q h f e s =
    ap (λ (b : Atom). got (atom_is b)) s ∙ sym (rw (← atom_parts n l, ← q, h, no_codes_lem l (f e), no_more l (f e) n p _))
