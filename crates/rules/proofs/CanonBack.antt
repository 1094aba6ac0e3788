-- The record that is written for a reading means that reading.
use Rattle.std.specs.Prelude.{ℕ, zero, suc, ◌+◌, ◌≤◌, ◌≡◌, refl, ◌≢◌, List, [], ◌∷◌, map, Bool, true, false, cond, get_or, length, drop, ℤ, pos, negsuc, nat_abs}
use Rattle.std.proofs.Common.{arith, sym, ap, ap₂, ◌∙◌, drop_of_length-le, drop-cons}
use Rattle.text.specs.Laws.{or_false}
use Rattle.field_numbers.specs.Number.{OneOf}
use Rattle.field_symbols.specs.Symbol.{symbols_all}
use Rattle.rules.specs.Forms.{stereos, Kind, CHG, RAD, ISO, Entry}
use Rattle.rules.specs.Record.{Molecule}
use Rattle.rules.specs.Meaning.{charge_of_code, radical_of_code, among, has, codes_void, number_in, given, atom_numbers, atoms_from, bond_numbers, Reading, meaning}
use Rattle.rules.specs.Canon.{atom_row, bond_row, is_zero, is_two, charge_code, atom_of, bond_of, number_of, entries_from, properties_of, canon, FromTo, WritableAtom, WritableBond, Rows, Writable}
use Rattle.rules.specs.Fields.{Every, one_every}
use Rattle.rules.specs.Entries.{not_among, entries_first, entries_later}
use Rattle.rules.proofs.Entries.{properties_list, isotope_lines}

size_back : (least most : ℕ) (z : ℤ) → FromTo least most z → pos (nat_abs z) ≡ z
size_back least most (pos k) h = refl
size_back least most (negsuc k) h = absurd h

-- ---- A row of so many numbers is the list of them

abbrev shown : ℕ → ℕ → List ℤ → List ℤ
shown zero i t = []
shown (suc k) i t = get_or t i (pos 0) ∷ shown k (suc i) t

shown_from : (k i : ℕ) (t : List ℤ) → length t ≡ i + k → shown k i t ≡ drop i t
shown_from zero i t h = sym (drop_of_length-le t {i = i} (omega arith))
shown_from (suc k) i t h =
    ap (λ (x : List ℤ). get_or t i (pos 0) ∷ x) (shown_from k (suc i) t (omega arith)) ∙ sym (drop-cons t i (pos 0) (omega arith))

shown_all : (k : ℕ) (t : List ℤ) → length t ≡ k → shown k 0 t ≡ t
shown_all k t h = shown_from k 0 t (omega arith)

-- ---- Charges, radicals and mass differences, with or without lines of their kind

code_none : (r : ℤ) → charge_of_code (charge_code (pos 0) r) ≡ pos 0
unfolding charge_code
code_none r = go (is_zero r) (is_two r)
  where
    go : (s t : Bool) → charge_of_code (cond s 0 (cond t 4 0)) ≡ pos 0
    go true t = refl
    go false true = refl
    go false false = refl

charge_by_lem : (t : Bool) (g c r : ℤ) → (t ≡ false → g ≡ pos 0) → g ≡ c → cond t g (charge_of_code (charge_code c r)) ≡ c
charge_by_lem true g c r n e = e
charge_by_lem false g c r n e =
    let z : c ≡ pos 0 = sym e ∙ n refl in
    ap (λ (y : ℤ). charge_of_code (charge_code y r)) z ∙ code_none r ∙ sym z

code_charge : (c : ℤ) → radical_of_code (charge_code c (pos 0)) ≡ pos 0
unfolding charge_code
code_charge (pos zero) = refl
code_charge (pos (suc zero)) = refl
code_charge (pos (suc (suc zero))) = refl
code_charge (pos (suc (suc (suc zero)))) = refl
code_charge (pos (suc (suc (suc (suc k))))) = refl
code_charge (negsuc zero) = refl
code_charge (negsuc (suc zero)) = refl
code_charge (negsuc (suc (suc zero))) = refl
code_charge (negsuc (suc (suc (suc k)))) = refl

radical_by_lem : (t : Bool) (g c r : ℤ) → (t ≡ false → g ≡ pos 0) → g ≡ r → cond t g (radical_of_code (charge_code c r)) ≡ r
radical_by_lem true g c r n e = e
radical_by_lem false g c r n e =
    let z : r ≡ pos 0 = sym e ∙ n refl in
    ap (λ (y : ℤ). radical_of_code (charge_code c y)) z ∙ code_charge c ∙ sym z

mass_by_lem : (t : Bool) (d : ℤ) → (t ≡ true → d ≡ pos 0) → cond t (pos 0) d ≡ d
mass_by_lem true d h = sym (h refl)
mass_by_lem false d h = refl

nothing_given : (k : Kind) (m : Molecule) (i : ℕ) → has k m ≡ false → given k m i ≡ pos 0
unfolding number_in
nothing_given k m i h = ap (λ (es : List Entry). number_in es i) (not_among k m.properties h)

-- ---- Atoms

atom_back : (n : ℕ) (m : Molecule) (i : ℕ) (t : List ℤ) → length t ≡ 16 → WritableAtom n (atom_row t) →
    ((k : Kind) → given k m i ≡ number_of k (atom_row t)) → (has ISO m ≡ true → (atom_row t).mass_difference ≡ pos 0) →
    atom_numbers m i (atom_of (atom_row t)) ≡ t
unfolding atom_of
atom_back n m i t h w g z =
    let a = atom_row t in
    let symbol = size_back 1 symbols_all a.symbol w.symbol in
    let mass = mass_by_lem (has ISO m) a.mass_difference z in
    let charge = charge_by_lem (codes_void m) (given CHG m i) a.charge a.radical (λ e. nothing_given CHG m i (or_false (has CHG m) (has RAD m) e).0) (g CHG) in
    let radical = radical_by_lem (codes_void m) (given RAD m i) a.charge a.radical (λ e. nothing_given RAD m i (or_false (has CHG m) (has RAD m) e).1) (g RAD) in
    let isotope = g ISO in
    let parity = size_back 0 3 a.parity w.parity in
    let hydrogen = size_back 0 5 a.hydrogen_count w.hydrogen_count in
    let care = size_back 0 1 a.stereo_care w.stereo_care in
    let valence = size_back 0 15 a.valence w.valence in
    let H0 = size_back 0 1 a.H0 w.H0 in
    let atom_map = size_back 0 n a.atom_map w.atom_map in
    let inversion = size_back 0 2 a.inversion w.inversion in
    let exact = size_back 0 1 a.exact_change w.exact_change in
    let e : atom_numbers m i (atom_of a) ≡ shown 16 0 t =
    λ p. a.x ∷ a.y ∷ a.z ∷ symbol p ∷ mass p ∷ charge p ∷ radical p ∷ isotope p ∷
    parity p ∷ hydrogen p ∷ care p ∷ valence p ∷ H0 p ∷ atom_map p ∷ inversion p ∷ exact p ∷ []
    in
    e ∙ shown_all 16 t h

atoms_back : (n : ℕ) (m : Molecule) (i : ℕ) (ts : List (List ℤ)) →
    ((k : Kind) (j : ℕ) → i ≤ j → given k m j ≡ number_in (entries_from k i ts) j) →
    Rows 16 (λ t. WritableAtom n (atom_row t)) ts → (has ISO m ≡ true → Rows 16 (λ t. (atom_row t).mass_difference ≡ pos 0) ts) →
    atoms_from m i (map (λ (t : List ℤ). atom_of (atom_row t)) ts) ≡ ts
unfolding atoms_from Rows
atoms_back n m i [] g w z = refl
atoms_back n m i (t ∷ ts) g w z =
    ap₂ ◌∷◌
    (atom_back n m i t w.0.0 w.0.1 (λ k. g k i (omega arith) ∙ entries_first k i t ts) (λ h. (z h).0.1))
    (atoms_back n m (suc i) ts (λ k j l. g k j (omega arith) ∙ entries_later k i j t ts (omega arith)) w.1 (λ h. (z h).1))

-- ---- Bonds

all_sizes : (xs : List ℕ) → Every (λ (z : ℤ). pos (nat_abs z) ≡ z) (map pos xs)
unfolding Every
all_sizes [] = tt
all_sizes (x ∷ xs) = (refl, all_sizes xs)

listed_size : (z : ℤ) (xs : List ℕ) → OneOf z (map pos xs) → pos (nat_abs z) ≡ z
listed_size z xs o = one_every (λ (z : ℤ). pos (nat_abs z) ≡ z) o (all_sizes xs)

bond_back_lem : (n : ℕ) (t : List ℤ) → length t ≡ 6 → WritableBond n (bond_row t) → bond_numbers (bond_of (bond_row t)) ≡ t
unfolding bond_of
bond_back_lem n t h w =
    let b = bond_row t in
    let first = size_back 1 n b.first w.first in
    let second = size_back 1 n b.second w.second in
    let type = size_back 1 8 b.type w.type in
    let stereo = listed_size b.stereo (stereos (nat_abs b.type)) w.stereo in
    let topology = size_back 0 2 b.topology w.topology in
    let e : bond_numbers (bond_of b) ≡ shown 6 0 t = λ p. first p ∷ second p ∷ type p ∷ stereo p ∷ topology p ∷ b.centre ∷ [] in
    e ∙ shown_all 6 t h

bonds_back : (n : ℕ) (ts : List (List ℤ)) → Rows 6 (λ t. WritableBond n (bond_row t)) ts → map bond_numbers (map (λ (t : List ℤ). bond_of (bond_row t)) ts) ≡ ts
unfolding Rows
bonds_back n [] w = refl
bonds_back n (t ∷ ts) w = ap₂ ◌∷◌ (bond_back_lem n t w.0.0 w.0.1) (bonds_back n ts w.1)

-- ---- The whole reading

has_isotope : (ts : List (List ℤ)) → among ISO (properties_of ts) ≡ true → entries_from ISO 1 ts ≢ []
has_isotope ts h e = let f = isotope_lines ts e in let z : ◌≡◌ {A = ℕ} 0 1 = cc in omega arith

pub canon_back : (limit : ℕ) (x : Reading) → Writable limit x → meaning (canon x) ≡ x
unfolding meaning canon
canon_back limit x w =
    let m = (canon x).molecule in
    let a = atoms_back x.n m 1 x.atoms (λ k j l. ap (λ (es : List Entry). number_in es j) (properties_list k x.atoms)) w.atoms (λ h. w.masses (has_isotope x.atoms h)) in
    let b = bonds_back x.n x.bonds w.bonds in
    λ p. record { headers = x.headers; n = x.n; m = x.m; chiral = x.chiral; atoms = a p; bonds = b p; items = x.items }
