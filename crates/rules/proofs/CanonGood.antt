-- Canonical lines are well formed, and stand for the very reading they were written for.
use Rattle.std.specs.Prelude.{ℕ, zero, suc, ◌+◌, ◌≤◌, ◌≡◌, refl, ◌≢◌, List, [], ◌∷◌, ◌++◌, map, Bool, true, false, cond, ◌&&◌, length, take, drop, ℤ, pos, negsuc, nat_abs}
use Rattle.std.proofs.Common.{arith, sym, ap, ap₂, ◌∙◌, subst, length-take}
use Rattle.std.proofs.lemmas.List.{length-map}
use Rattle.text.specs.Written.{text}
use Rattle.field_numbers.specs.Number.{OneOf}
use Rattle.field_symbols.specs.Symbol.{names}
use Rattle.rules.specs.Forms.{stereos, Kind, CHG, RAD, ISO, Entry, Property}
use Rattle.rules.specs.Record.{Raw, Molfile, Record, SDfile, GoodSDfile, limit, listed, NoAtomTwice}
use Rattle.rules.specs.Meaning.{Reading, meaning}
use Rattle.rules.specs.Write.{molecule_lines}
use Rattle.rules.specs.Canon.{AtomRow, atom_row, BondRow, bond_row, code_of_charge, is_zero, is_two, charge_code, atom_of, bond_of, number_of, entries_from, eights, lines_of, properties_of, canon, canon_lines, canon_file}
use Rattle.rules.specs.Canon.{FromTo, WritableAtom, WritableBond, Rows, Good, AllGood}
use Rattle.rules.specs.Written.{GoodAtom, GoodAtoms, GoodBond, GoodBonds, Ranges, GoodEntries, GoodProperties, molecule_written, GoodRecord, GoodRecords}
use Rattle.rules.proofs.Written.{record_written, file_written}
use Rattle.rules.specs.Entries.{rising_once}
use Rattle.rules.proofs.Entries.{properties_list}
use Rattle.rules.proofs.CanonBack.{canon_back}
use Rattle.rules.specs.Texts.{sdfile_text}
use Rattle.rules.proofs.Unique.{one_sdfile}
use Rattle.rules.specs.CanonGood.{sized, one_map}

-- ---- Atoms

charge_small : (c : ℤ) → code_of_charge c ≤ 7
charge_small (pos zero) = omega arith
charge_small (pos (suc zero)) = omega arith
charge_small (pos (suc (suc zero))) = omega arith
charge_small (pos (suc (suc (suc zero)))) = omega arith
charge_small (pos (suc (suc (suc (suc k))))) = omega arith
charge_small (negsuc zero) = omega arith
charge_small (negsuc (suc zero)) = omega arith
charge_small (negsuc (suc (suc zero))) = omega arith
charge_small (negsuc (suc (suc (suc k)))) = omega arith

code_small : (c r : ℤ) → charge_code c r ≤ 7
unfolding charge_code
code_small c r = go (is_zero r) (is_zero c && is_two r)
  where
    go : (s t : Bool) → cond s (code_of_charge c) (cond t 4 0) ≤ 7
    go true t = charge_small c
    go false true = omega arith
    go false false = omega arith

good_atom : (n : ℕ) (a : AtomRow) → WritableAtom n a → GoodAtom n (atom_of a)
unfolding atom_of
good_atom n a w =
    record {
      x = w.x;
      y = w.y;
      z = w.z;
      symbol = sized 1 (length names) a.symbol w.symbol;
      mass_difference = w.mass_difference;
      charge_code = code_small a.charge a.radical;
      parity = (sized 0 3 a.parity w.parity).1;
      hydrogen_count = (sized 0 5 a.hydrogen_count w.hydrogen_count).1;
      stereo_care = (sized 0 1 a.stereo_care w.stereo_care).1;
      valence = (sized 0 15 a.valence w.valence).1;
      H0 = (sized 0 1 a.H0 w.H0).1;
      atom_map = (sized 0 n a.atom_map w.atom_map).1;
      inversion = (sized 0 2 a.inversion w.inversion).1;
      exact_change = (sized 0 1 a.exact_change w.exact_change).1;
    }

atoms_good : (n : ℕ) (ts : List (List ℤ)) → Rows 16 (λ t. WritableAtom n (atom_row t)) ts → GoodAtoms n (map (λ (t : List ℤ). atom_of (atom_row t)) ts)
unfolding Rows GoodAtoms
atoms_good n [] w = tt
atoms_good n (t ∷ ts) w = (good_atom n (atom_row t) w.0.1, atoms_good n ts w.1)

-- ---- Bonds

sizes : (xs : List ℕ) → map nat_abs (map pos xs) ≡ xs
sizes [] = refl
sizes (x ∷ xs) = ap (λ (ys : List ℕ). x ∷ ys) (sizes xs)

sizes_listed : (z : ℤ) (xs : List ℕ) → OneOf z (map pos xs) → OneOf (nat_abs z) xs
sizes_listed z xs o = subst (λ (ys : List ℕ). OneOf (nat_abs z) ys) (sizes xs) (one_map nat_abs o)

apart : (n : ℕ) (y z : ℤ) → FromTo 1 n y → FromTo 1 n z → y ≢ z → nat_abs y ≢ nat_abs z
apart n (pos j) (pos k) f g h e = h (ap pos e)
apart n (pos j) (negsuc k) f g h e = absurd g
apart n (negsuc j) (pos k) f g h e = absurd f
apart n (negsuc j) (negsuc k) f g h e = absurd f

good_bond : (n : ℕ) (b : BondRow) → WritableBond n b → GoodBond n (bond_of b)
unfolding bond_of
good_bond n b w =
    record {
      first = sized 1 n b.first w.first;
      second = sized 1 n b.second w.second;
      type = sized 1 8 b.type w.type;
      stereo = sizes_listed b.stereo (stereos (nat_abs b.type)) w.stereo;
      topology = (sized 0 2 b.topology w.topology).1;
      centre = w.centre;
      ends_differ = apart n b.first b.second w.first w.second w.ends_differ;
    }

bonds_good : (n : ℕ) (ts : List (List ℤ)) → Rows 6 (λ t. WritableBond n (bond_row t)) ts → GoodBonds n (map (λ (t : List ℤ). bond_of (bond_row t)) ts)
unfolding Rows GoodBonds
bonds_good n [] w = tt
bonds_good n (t ∷ ts) w = (good_bond n (bond_row t) w.0.1, bonds_good n ts w.1)

-- ---- Property lines

not_zero : (most : ℕ) (z : ℤ) → FromTo 0 most z → is_zero z ≡ false → FromTo 1 most z
not_zero most (pos zero) h e = absurd (let z : ◌≡◌ {A = ℕ} 0 1 = cc in omega arith)
not_zero most (pos (suc k)) h e = (omega arith, h.1)
not_zero most (negsuc k) h e = absurd h

in_range : (n : ℕ) (k : Kind) (a : AtomRow) → WritableAtom n a → is_zero (number_of k a) ≡ false → Ranges k (number_of k a)
in_range n CHG a w z = w.charge
in_range n RAD a w z = w.radical
in_range n ISO a w z = not_zero 999 a.isotope w.isotope z

entries_good : (n : ℕ) (k : Kind) (i : ℕ) (ts : List (List ℤ)) → 1 ≤ i → i + length ts ≤ suc n → Rows 16 (λ t. WritableAtom n (atom_row t)) ts →
    GoodEntries n k (entries_from k i ts)
unfolding entries_from GoodEntries Rows
entries_good n k i [] one h w = tt
entries_good n k i (t ∷ ts) one h w = go (is_zero (number_of k (atom_row t))) refl (entries_good n k (suc i) ts (omega arith) (omega arith) w.1)
  where
    go : (z : Bool) → is_zero (number_of k (atom_row t)) ≡ z → GoodEntries n k (entries_from k (suc i) ts) →
        GoodEntries n k (cond z (entries_from k (suc i) ts) (record { atom = i; number = number_of k (atom_row t) } ∷ entries_from k (suc i) ts))
    go true e r = r
    go false e r = (record { atom = (one, omega arith); number = in_range n k (atom_row t) w.0.1 e }, r)

take_good : (n : ℕ) (k : Kind) (j : ℕ) (es : List Entry) → GoodEntries n k es → GoodEntries n k (take j es) × GoodEntries n k (drop j es)
unfolding GoodEntries
take_good n k zero es g = (tt, g)
take_good n k (suc j) [] g = (tt, tt)
take_good n k (suc j) (e ∷ es) g = let r = take_good n k j es g.1 in ((g.0, r.0), r.1)

good_append : (n : ℕ) (ps qs : List Property) → GoodProperties n ps → GoodProperties n qs → GoodProperties n (ps ++ qs)
unfolding GoodProperties
good_append n [] qs g h = h
good_append n (p ∷ ps) qs g h = (g.0, good_append n ps qs g.1 h)

lines_good : (n : ℕ) (k : Kind) (j : ℕ) (es : List Entry) → GoodEntries n k es →
    GoodProperties n (map (λ (line : List Entry). record { kind = k; entries = line }) (eights j es))
unfolding eights GoodProperties
lines_good n k zero es g = tt
lines_good n k (suc j) [] g = tt
lines_good n k (suc j) (e ∷ es) g =
    let r = take_good n k 8 (e ∷ es) g in
    (record { some = omega (arith, length-take 8 (e ∷ es)); eight = omega (arith, length-take 8 (e ∷ es)); entries = r.0 }, lines_good n k j (drop 8 (e ∷ es)) r.1)

properties_good : (n : ℕ) (ts : List (List ℤ)) → length ts ≤ n → Rows 16 (λ t. WritableAtom n (atom_row t)) ts → GoodProperties n (properties_of ts)
unfolding properties_of
properties_good n ts h w =
    good_append n (lines_of CHG (entries_from CHG 1 ts)) (lines_of RAD (entries_from RAD 1 ts) ++ lines_of ISO (entries_from ISO 1 ts)) (of CHG)
    (good_append n (lines_of RAD (entries_from RAD 1 ts)) (lines_of ISO (entries_from ISO 1 ts)) (of RAD) (of ISO))
  where
    of : (k : Kind) → GoodProperties n (lines_of k (entries_from k 1 ts))
    of k = lines_good n k (length (entries_from k 1 ts)) (entries_from k 1 ts) (entries_good n k 1 ts (omega arith) (omega arith) w)

once : (ts : List (List ℤ)) (k : Kind) → NoAtomTwice (listed k (properties_of ts))
once ts k = subst NoAtomTwice (sym (properties_list k ts)) (rising_once k 1 ts)

-- ---- A record and a file

pub canon_is_good : (limit : ℕ) (x : Reading) → Good limit x → GoodRecord limit (canon x)
unfolding canon
canon_is_good limit x g =
    let w = g.writable in
    record {
      molecule = record {
        headers = g.headers;
        counts = record { atoms = w.n; bonds = w.m; pairs = w.pairs; chiral = w.chiral };
        n_atoms = length-map x.atoms (λ (t : List ℤ). atom_of (atom_row t)) ∙ w.n_atoms;
        atoms = atoms_good x.n x.atoms w.atoms;
        m_bonds = length-map x.bonds (λ (t : List ℤ). bond_of (bond_row t)) ∙ w.m_bonds;
        bonds = bonds_good x.n x.bonds w.bonds;
        no_pair_twice = w.no_pair_twice;
        properties = properties_good x.n x.atoms (omega (arith, w.n_atoms)) w.atoms;
        no_atom_twice = once x.atoms;
      };
      items = g.items;
    }

-- a reading that can be written is written as lines that stand for it
pub canon_good : (limit : ℕ) (x : Reading) → limit ≤ 999 → Good limit x → (r : Raw) × Record limit (canon_lines x) r [] × (meaning r ≡ x)
canon_good limit x small g = (canon x, record_written limit (canon x) small (canon_is_good limit x g), canon_back limit x g.writable)

-- without its items, as a molfile
pub canon_molfile : (limit : ℕ) (x : Reading) → limit ≤ 999 → Good limit x → Molfile limit (molecule_lines (canon x).molecule) (record { molecule = (canon x).molecule; items = [] })
canon_molfile limit x small g = Molfile.molfile (molecule_written limit (canon x).molecule small (canon_is_good limit x g).molecule)

all_good : (limit : ℕ) (xs : List Reading) → AllGood limit xs → GoodRecords limit (map canon xs)
unfolding AllGood GoodRecords
all_good limit [] g = tt
all_good limit (x ∷ xs) g = (canon_is_good limit x g.0, all_good limit xs g.1)

all_back : (limit : ℕ) (xs : List Reading) → AllGood limit xs → map meaning (map canon xs) ≡ xs
unfolding AllGood
all_back limit [] g = refl
all_back limit (x ∷ xs) g = ap₂ ◌∷◌ (canon_back limit x g.0.writable) (all_back limit xs g.1)

pub canon_file_lem : (limit : ℕ) (xs : List Reading) → limit ≤ 999 → AllGood limit xs → (rs : List Raw) × SDfile limit (canon_file xs) rs × (map meaning rs ≡ xs)
canon_file_lem limit xs small g = (map canon xs, file_written limit (map canon xs) small (all_good limit xs g), all_back limit xs g)

-- and their text is an SDfile of exactly these readings
pub canon_text_lem : (xs : List Reading) → AllGood limit xs → (rs : List Raw) × GoodSDfile (text (canon_file xs)) rs × (map meaning rs ≡ xs)
canon_text_lem xs g =
    let f = canon_file_lem limit xs (omega arith) g in
    (f.0, (canon_file xs, sdfile_text f.1, f.1), f.2)

-- and of no others
pub canon_only : (xs : List Reading) (rs : List Raw) → AllGood limit xs → GoodSDfile (text (canon_file xs)) rs → map meaning rs ≡ xs
canon_only xs rs g h =
    let f = canon_text_lem xs g in
    ap (map meaning) (one_sdfile (text (canon_file xs)) rs f.0 h f.1) ∙ f.2
