-- The counts, bond and atom lines are judged as their rules say.
use Rattle.std.specs.Prelude.{ℕ, ◌*◌, ◌-◌, ◌≡◌, [], eqb}
use Rattle.std.proofs.Common.{arith, subst, leb-true}
use Rattle.std.proofs.lemmas.Bool.{eqb-false, not-true}
use Rattle.text.specs.Text.{Line}
use Rattle.text.specs.Columns.{Within}
use Rattle.field_numbers.specs.Number.{Number}
use Rattle.field_coordinates.specs.Agree.{ten_columns}
use Rattle.rules.specs.Forms.{Counts, CountsLine, Atom, AtomLine, Bond, BondLine}
use Rattle.judge_line.specs.Got.{got}
use Rattle.judge_line.specs.GotLaws.{got_inj}
use Rattle.judge_line.specs.Judge.{counts_of, atom_of, bond_of}
use Rattle.judge_line.specs.AgreeField.{on, after, number_got_lem, signed_got_lem, listed_got, signed_listed_got, coordinate_got_lem, symbol_got_lem, symbol_is, space_got, spaces_got, has_got}

-- a field that can only be zero
zero_only : {l : Line} {i j k : ℕ} → Number l i j 0 0 k → Number l i j 0 0 0
zero_only {l} {i} {j} {k} n =
    let high = n.high in
    let e : k ≡ 0 = omega arith in
    subst (λ (m : ℕ). Number l i j 0 0 m) e n

-- ---- 2. The counts line

pub counts_got_lem : (limit : ℕ) (l : Line) (c : Counts) → Within 80 l → counts_of limit l ≡ got c → CountsLine limit l c
unfolding counts_of
counts_got_lem limit l c w h =
    on _ _ c h (number_got_lem l _ _ _ _) λ n n_is h.
    on _ _ c h (number_got_lem l _ _ _ _) λ m m_is h.
    after _ _ _ _ c h λ pairs h.
    on _ _ c h (number_got_lem l _ _ _ _) λ lists lists-is h.
    on _ _ c h (number_got_lem l _ _ _ _) λ chiral chiral-is h.
    on _ _ c h (number_got_lem l _ _ _ _) λ stext stext-is h.
    after _ _ _ _ c h λ version h.
    spaces_got l _ _ c h λ rest h.
    subst (CountsLine limit l) (got_inj h)
    (record {
      line = w;
      atoms = n_is;
      bonds = m_is;
      pairs = leb-true (2 * m) (n * (n - 1)) pairs;
      atom_lists = zero_only lists-is;
      chiral = chiral-is;
      stext = zero_only stext-is;
      version = has_got l 34 39 " V2000" version;
      rest = rest;
    })

-- ---- 4. Bond lines

pub bond_got_lem : (n : ℕ) (l : Line) (b : Bond) → Within 80 l → bond_of n l ≡ got b → BondLine n l b
unfolding bond_of
bond_got_lem n l b w h =
    on _ _ b h (number_got_lem l _ _ _ _) λ first first_is h.
    on _ _ b h (number_got_lem l _ _ _ _) λ second second_is h.
    on _ _ b h (number_got_lem l _ _ _ _) λ type type_is h.
    on _ _ b h (listed_got l _ _ _ _) λ stereo stereo-is h.
    on _ _ b h (number_got_lem l _ _ _ _) λ topology topology-is h.
    on _ _ b h (signed_listed_got l _ _ _ _ _) λ centre centre-is h.
    spaces_got l _ _ b h λ rest h.
    after _ _ _ _ b h λ differ h.
    subst (BondLine n l) (got_inj h)
    (record {
      line = w;
      first = first_is;
      second = second_is;
      type = type_is;
      stereo = stereo-is;
      topology = topology-is;
      centre = centre-is;
      rest = rest;
      ends_differ = eqb-false first second (not-true (eqb first second) differ);
    })

-- ---- 3. Atom lines

pub atom_got_lem : (n : ℕ) (l : Line) (a : Atom) → Within 80 l → atom_of n l ≡ got a → AtomLine n l a
unfolding atom_of
atom_got_lem n l a w h =
    on _ _ a h (coordinate_got_lem l _ _ (ten_columns l 1)) λ x x_is h.
    on _ _ a h (coordinate_got_lem l _ _ (ten_columns l 11)) λ y y-is h.
    on _ _ a h (coordinate_got_lem l _ _ (ten_columns l 21)) λ z z-is h.
    space_got l _ _ a h λ space h.
    on _ _ a h (symbol_got_lem l _ _) λ symbol symbol_is h.
    on _ _ a h (signed_got_lem l _ _ _ _) λ mass mass-is h.
    on _ _ a h (number_got_lem l _ _ _ _) λ code code_is h.
    on _ _ a h (number_got_lem l _ _ _ _) λ parity parity-is h.
    on _ _ a h (number_got_lem l _ _ _ _) λ hydrogens hydrogens-is h.
    on _ _ a h (number_got_lem l _ _ _ _) λ care care-is h.
    on _ _ a h (number_got_lem l _ _ _ _) λ valence valence-is h.
    on _ _ a h (number_got_lem l _ _ _ _) λ h0 h0-is h.
    on _ _ a h (number_got_lem l _ _ _ _) λ map map_is h.
    on _ _ a h (number_got_lem l _ _ _ _) λ inversion inversion-is h.
    on _ _ a h (number_got_lem l _ _ _ _) λ exact exact-is h.
    spaces_got l _ _ a h λ rest h.
    subst (AtomLine n l) (got_inj h)
    (record {
      line = w;
      x = x_is;
      y = y-is;
      z = z-is;
      space = space;
      symbol = symbol_is;
      mass_difference = mass-is;
      charge_code = code_is;
      parity = parity-is;
      hydrogen_count = hydrogens-is;
      stereo_care = care-is;
      valence = valence-is;
      H0 = h0-is;
      atom_map = map_is;
      inversion = inversion-is;
      exact_change = exact-is;
      rest = rest;
    })
