-- The lines of a record are judged as the demands on them say.
use Rattle.std.specs.Prelude.{ℕ, ◌≡◌, refl, ◌≢◌, true, false, not, eqb}
use Rattle.std.proofs.Common.{arith, ◌∙◌}
use Rattle.std.proofs.Math.Path.{subst}
use borrow.Author.Tests.{eqb-true, eqb-false, not-true, not-false}
use Rattle.text.specs.Text.{Line}
use Rattle.text.specs.Columns.{Within}
use Rattle.text.specs.Laws.{never_both}
use Rattle.field_numbers.specs.Number.{Number, Listed}
use Rattle.field_numbers.specs.Agree.{one_number}
use Rattle.rules.specs.Forms.{stereos, centres}
use Rattle.judge_line.specs.Got.{got}
use Rattle.judge_line.specs.Judge.{reserved, first_header_of, atom_of, bond_of}
use Rattle.judge_line.specs.AgreeField.{number_got_lem}
use Rattle.judge_line.proofs.Agree.{header_agrees}
use Rattle.judge_line.specs.GotLaws.{need_got, need_is}
use Rattle.judge_line.specs.AgreeLine.{stereos_low, centres_between}
use Rattle.field_coordinates.specs.Agree.{ten_columns}
use Rattle.judge_refusals.specs.Demand.{Some}
use Rattle.judge_refusals.specs.Refusals.{Unreserved, no_reserved_tag, atom_demands, bond_demands}
use Rattle.judge_refusals.specs.Tells.{Tells, value, then_tells, need_tells}
use Rattle.judge_refusals.specs.Fields.{number_tells, signed_tells, listed_tells, signed_listed_tells, coordinate_tells, symbol_tells, space_tells, spaces_tells, spaces_last}

-- ---- 1. Header lines

module _ (l : Line) (w : Within 80 l) where
  free : not (reserved l) ≡ true → Unreserved l
  unfolding first_header_of
  free t =
      let f = ((header_agrees l l w).0 (need_is (not (reserved l)) 5 1 (got l) t)).0 in
      (f.no_end, f.no_molfile, f.no_rxnfile, f.no_rdfile)

  not_free : not (reserved l) ≡ false → ¬ Unreserved l
  unfolding first_header_of
  not_free t f =
      let e = (header_agrees l l w).1 (record { line = w; no_end = f.0; no_molfile = f.1; no_rxnfile = f.2; no_rdfile = f.3 }, refl) in
      never_both (not (reserved l)) (need_got (not (reserved l)) 5 1 (got l) l e).0 t

  pub header_tells : Tells (no_reserved_tag l) (first_header_of l)
  unfolding first_header_of
  header_tells = need_tells (not (reserved l)) free not_free λ t. value tt

-- ---- 3. Atom lines

pub atom_tells : (n : ℕ) (l : Line) → Within 80 l → Tells (atom_demands n l) (atom_of n l)
unfolding atom_of
atom_tells n l w =
    then_tells (coordinate_tells l 1 10 (ten_columns l 1)) λ x h₁.
    then_tells (coordinate_tells l 11 20 (ten_columns l 11)) λ y h₂.
    then_tells (coordinate_tells l 21 30 (ten_columns l 21)) λ z h₃.
    space_tells l 31
    (then_tells (symbol_tells l 32 34) λ symbol h₄.
    then_tells (signed_tells l 35 36 3 4) λ mass h₅.
    then_tells (number_tells l 37 39 0 7) λ code h₆.
    then_tells (number_tells l 40 42 0 3) λ parity h₇.
    then_tells (number_tells l 43 45 0 5) λ hydrogens h₈.
    then_tells (number_tells l 46 48 0 1) λ care h₉.
    then_tells (number_tells l 49 51 0 15) λ valence h₁₀.
    then_tells (number_tells l 52 54 0 1) λ h0 h₁₁.
    then_tells (number_tells l 61 63 0 n) λ map h₁₂.
    then_tells (number_tells l 64 66 0 2) λ inversion h₁₃.
    then_tells (number_tells l 67 69 0 1) λ exact h₁₄.
    spaces_last l _ 70 (omega arith) w.short)

-- ---- 4. Bond lines

module _ (n : ℕ) (l : Line) where
  abbrev Stereo : Type 0
  Stereo = Some λ type. Number l 7 9 1 8 type × Some (Listed l 10 12 (stereos type))

  abbrev Differ : Type 0
  Differ = Some λ first. Some λ second. Number l 1 3 1 n first × Number l 4 6 1 n second × (first ≢ second)

  pub bond_tells : Within 80 l → Tells (bond_demands n l) (bond_of n l)
  unfolding bond_of
  bond_tells w =
      then_tells (number_tells l 1 3 1 n) λ first h₁.
      then_tells (number_tells l 4 6 1 n) λ second h₂.
      then_tells (number_tells l 7 9 1 8) λ type h₃.
      let first_is = number_got_lem l 1 3 1 n first h₁ in
      let second_is = number_got_lem l 4 6 1 n second h₂ in
      let type_is = number_got_lem l 7 9 1 8 type h₃ in
      then_tells (listed_tells l 10 12 6 (stereos type) (stereos_low (eqb type 1) (eqb type 2)) {G = Stereo} (λ s. (type, (type_is, s))) (λ s. by_type type_is s)) λ stereo h₄.
      then_tells (number_tells l 16 18 0 2) λ topology h₅.
      then_tells (signed_listed_tells l 19 21 1 13 centres centres_between) λ centre h₆.
      spaces_tells l 22 (omega arith) w.short
      (need_tells (not (eqb first second)) (λ t. (first, (second, (first_is, second_is, eqb-false first second (not-true (eqb first second) t)))))
      (λ t d. d.1.1.2 (one_number d.1.1.0 first_is ∙ eqb-true first second (not-false (eqb first second) t) ∙ one_number second_is d.1.1.1)) λ t. value tt)
    where
      by_type : {type : ℕ} → Number l 7 9 1 8 type → Stereo → Some (Listed l 10 12 (stereos type))
      by_type t s = subst (λ (k : ℕ). Some (Listed l 10 12 (stereos k))) (one_number s.1.0 t) s.1.1
