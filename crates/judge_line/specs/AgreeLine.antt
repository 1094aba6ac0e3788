-- The counts, bond and atom lines are judged as their rules say.
use Rattle.std.specs.Prelude.{ℕ, ◌*◌, ◌-◌, ◌≡◌, refl, [], ◌∷◌, Bool, true, false, cond, not, eqb, leb}
use Rattle.std.proofs.Common.{ap, ◌∙◌, ne_eqb, le-leb}
use Rattle.text.specs.Text.{Line}
use Rattle.field_numbers.specs.Read.{is_between}
use Rattle.field_coordinates.specs.Agree.{ten_columns}
use Rattle.rules.specs.Forms.{Counts, CountsLine, Atom, AtomLine, Bond, BondLine, centres}
use Rattle.judge_line.specs.Got.{got}
use Rattle.judge_line.specs.GotLaws.{then_is, need_is}
use Rattle.judge_line.specs.Judge.{counts_of, atom_of, bond_of}
use Rattle.judge_line.specs.AgreeField.{number_is, signed_is, all_pass, listed_is, signed_listed_is, coordinate_is, symbol_is, space_is, spaces_is, has_is}

-- ---- 2. The counts line

pub counts_is_lem : (limit : ℕ) (l : Line) (c : Counts) → CountsLine limit l c → counts_of limit l ≡ got c
unfolding counts_of
counts_is_lem limit l c h =
    then_is _ _ _ (number_is h.atoms) ∙
    then_is _ _ _ (number_is h.bonds) ∙
    need_is _ _ _ _ (le-leb (2 * c.bonds) (c.atoms * (c.atoms - 1)) h.pairs) ∙
    then_is _ _ _ (number_is h.atom_lists) ∙
    then_is _ _ _ (number_is h.chiral) ∙
    then_is _ _ _ (number_is h.stext) ∙
    need_is _ _ _ _ (has_is l 34 39 " V2000" h.version) ∙
    spaces_is l _ _ h.rest

-- ---- 4. Bond lines

pub stereos_low : (a b : Bool) → all_pass (λ m. leb m 6) (cond a (0 ∷ 1 ∷ 4 ∷ 6 ∷ []) (cond b (0 ∷ 3 ∷ []) (0 ∷ []))) ≡ true
unfolding all_pass
stereos_low true b = refl
stereos_low false true = refl
stereos_low false false = refl

pub centres_between : all_pass (is_between 1 13) centres ≡ true
unfolding all_pass
centres_between = refl

pub bond_is_lem : (n : ℕ) (l : Line) (b : Bond) → BondLine n l b → bond_of n l ≡ got b
unfolding bond_of
bond_is_lem n l b h =
    then_is _ _ _ (number_is h.first) ∙
    then_is _ _ _ (number_is h.second) ∙
    then_is _ _ _ (number_is h.type) ∙
    then_is _ _ _ (listed_is l _ _ _ _ _ (stereos_low (eqb b.type 1) (eqb b.type 2)) h.stereo) ∙
    then_is _ _ _ (number_is h.topology) ∙
    then_is _ _ _ (signed_listed_is l _ _ _ _ _ _ centres_between h.centre) ∙
    spaces_is l _ _ h.rest ∙
    need_is _ _ _ _ (ap not (ne_eqb b.first b.second h.ends_differ))

-- ---- 3. Atom lines

pub atom_is_lem : (n : ℕ) (l : Line) (a : Atom) → AtomLine n l a → atom_of n l ≡ got a
unfolding atom_of
atom_is_lem n l a h =
    then_is _ _ _ (coordinate_is l _ _ (ten_columns l 1) _ h.x) ∙
    then_is _ _ _ (coordinate_is l _ _ (ten_columns l 11) _ h.y) ∙
    then_is _ _ _ (coordinate_is l _ _ (ten_columns l 21) _ h.z) ∙
    space_is l _ _ h.space ∙
    then_is _ _ _ (symbol_is l _ _ _ h.symbol) ∙
    then_is _ _ _ (signed_is h.mass_difference) ∙
    then_is _ _ _ (number_is h.charge_code) ∙
    then_is _ _ _ (number_is h.parity) ∙
    then_is _ _ _ (number_is h.hydrogen_count) ∙
    then_is _ _ _ (number_is h.stereo_care) ∙
    then_is _ _ _ (number_is h.valence) ∙
    then_is _ _ _ (number_is h.H0) ∙
    then_is _ _ _ (number_is h.atom_map) ∙
    then_is _ _ _ (number_is h.inversion) ∙
    then_is _ _ _ (number_is h.exact_change) ∙
    spaces_is l _ _ h.rest
