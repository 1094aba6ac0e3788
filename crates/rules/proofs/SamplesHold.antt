-- The samples hold.
use Rattle.std.specs.Prelude.{ℕ, suc, ◌*◌, ◌-◌, ◌≤◌, ◌≡◌, refl, List, [], ◌∷◌, ◌++◌, length, pos}
use Rattle.std.proofs.Common.{arith, sym, ap, ◌∙◌, subst}
use Rattle.text.specs.Text.{Bytes, Line, bytes, Each, Without}
use Rattle.text.specs.Columns.{columns_for, Within}
use Rattle.field_numbers.specs.Write.{text_by}
use Rattle.field_numbers.specs.Agree.{one_number}
use Rattle.field_coordinates.specs.Write.{point_text}
use Rattle.field_symbols.specs.Write.{symbol_text}
use Rattle.rules.specs.Forms.{FirstHeaderLine, Counts, CountsLine, Atom, Bond, BondLine, Kind, CHG, RAD, ISO, Property, DataHeader}
use Rattle.rules.specs.Record.{Molecule, Item, SamePair, NewPair, NoPairTwice, listed, NotListed, NoAtomTwice, Atoms, Bonds, Values, Items, Parts1to5, Molfile, Record, SDfile, limit, Raw}
use Rattle.rules.specs.Meaning.{Reading, meaning, atoms_from, among, number_in}
use Rattle.rules.specs.Write.{joined, counts_text, atom_text, entry_fields, property_text, molecule_lines, items_lines, record_lines, file_lines}
use Rattle.rules.specs.Canon.{charge_code, atom_of, entries_from, eights, properties_of, canon}
use Rattle.rules.specs.OneForm.{one_counts}
use Rattle.rules.specs.Unique.{parts_one}
use Rattle.rules.specs.After.{parts_after}
use Rattle.rules.specs.Fields.{Every, number_in_lem}
use Rattle.rules.specs.Written.{counts_written, GoodAtom, GoodAtoms, GoodBonds, GoodProperties, GoodEntries, GoodMolecule, molecule_written}
use Rattle.rules.specs.Samples.{Holds, samples}
use Rattle.rules.specs.Samples.{pair_twice, codes_alone, charges_listed, others_listed, radicals_listed, header_as_value, dollars_as_value, mixed_written}
use Rattle.rules.specs.SamplesHold.{coded}

-- ---- Lines by their first bytes

no_dollar : (l before after : Bytes) → Without 36 l → l ≡ before ++ (36 ∷ after) → ⊥
unfolding Each
no_dollar [] [] after w e = let z : ◌≡◌ {A = ℕ} 0 (suc (length after)) = ap length e in omega arith
no_dollar [] (x ∷ before) after w e = let z : ◌≡◌ {A = ℕ} 0 (suc (length (before ++ (36 ∷ after)))) = ap length e in omega arith
no_dollar (b ∷ l) [] after w e = w.0 cc
no_dollar (b ∷ l) (x ∷ before) after w e = no_dollar l before after w.1 cc

title : (l : Line) → Within 80 l → Without 36 l → FirstHeaderLine l
title l h d =
    record {
      line = h;
      no_end = λ c. no_dollar l c.0 _ d c.2;
      no_molfile = λ c. no_dollar l c.0 _ d c.2;
      no_rxnfile = λ c. no_dollar l c.0 _ d c.2;
      no_rdfile = λ c. no_dollar l c.0 _ d c.2;
    }

-- ---- What is written

mixed_written_lem : Holds mixed_written
unfolding file_lines record_lines molecule_lines items_lines counts_text atom_text property_text entry_fields joined text_by point_text symbol_text columns_for canon properties_of atom_of eights charge_code entries_from
mixed_written_lem = refl

-- ---- Codes, and property lines that make them void

coded_fine : (n mass code : ℕ) → mass ≤ 4 → code ≤ 7 → GoodAtom n (coded mass code)
coded_fine n mass code m c =
    record {
      x = omega arith;
      y = omega arith;
      z = omega arith;
      symbol = omega arith;
      mass_difference = m;
      charge_code = c;
      parity = omega arith;
      hydrogen_count = omega arith;
      stereo_care = omega arith;
      valence = omega arith;
      H0 = omega arith;
      atom_map = omega arith;
      inversion = omega arith;
      exact_change = omega arith;
    }

-- a molecule without bonds
abbrev loose : Line → List Atom → List Property → Molecule
loose first atoms ps =
    record {
      headers = record { first = first; second = []; third = [] };
      counts = record { atoms = length atoms; bonds = 0; chiral = 0 };
      atoms = atoms;
      bonds = [];
      properties = ps;
    }

loose_fine : (first : Line) (atoms : List Atom) (ps : List Property) → FirstHeaderLine first → length atoms ≤ limit →
    GoodAtoms (length atoms) atoms → GoodProperties (length atoms) ps → ((k : Kind) → NoAtomTwice (listed k ps)) → GoodMolecule limit (loose first atoms ps)
unfolding Each GoodBonds NoPairTwice
loose_fine first atoms ps f n a p o =
    record {
      headers = record { first = f; second = record { short = omega arith; allowed = tt }; third = record { short = omega arith; allowed = tt } };
      counts = record { atoms = n; bonds = omega arith; pairs = omega arith; chiral = omega arith };
      n_atoms = refl;
      atoms = a;
      m_bonds = refl;
      bonds = tt;
      no_pair_twice = tt;
      properties = p;
      no_atom_twice = o;
    }

raw_molfile : (m : Molecule) {t : List Line} {x : Reading} → GoodMolecule limit m → molecule_lines m ≡ t → meaning (record { molecule = m; items = [] }) ≡ x →
    (r : Raw) × Molfile limit t r × (meaning r ≡ x)
raw_molfile m g e f = (
  record { molecule = m; items = [] },
  subst (λ (t : List Line). Molfile limit t (record { molecule = m; items = [] })) e (Molfile.molfile (molecule_written limit m (omega arith) g)),
  f,
)

-- one entry, for atom 1
abbrev lists : Kind → ℕ → Property
lists kind k = record { kind = kind; entries = record { atom = 1; number = pos k } ∷ [] }

abbrev codes_molecule : Molecule
codes_molecule = loose (bytes "codes") (coded 1 0 ∷ coded 0 1 ∷ coded 0 2 ∷ coded 0 3 ∷ coded 0 4 ∷ coded 0 5 ∷ coded 0 6 ∷ coded 0 7 ∷ []) []

codes_fine : GoodMolecule limit codes_molecule
unfolding Each GoodAtoms GoodProperties listed NoAtomTwice
codes_fine =
    loose_fine (bytes "codes") codes_molecule.atoms [] (title (bytes "codes") (record { short = omega arith; allowed = omega arith }) (omega arith)) (omega arith)
    (coded_fine 8 1 0 (omega arith) (omega arith), (it 1 (omega arith), (it 2 (omega arith), (it 3 (omega arith), (it 4 (omega arith), (it 5 (omega arith), (it 6 (omega arith), (it 7 (omega arith), tt)))))))) tt (λ k. tt)
  where
    it : (code : ℕ) → code ≤ 7 → GoodAtom 8 (coded 0 code)
    it code c = coded_fine 8 0 code (omega arith) c

codes_good : Holds codes_alone
unfolding molecule_lines counts_text atom_text property_text entry_fields joined text_by point_text symbol_text columns_for meaning atoms_from number_in listed among
codes_good = raw_molfile codes_molecule codes_fine refl refl

abbrev unlisted_molecule : Molecule
unlisted_molecule = loose (bytes "unlisted") (coded 0 0 ∷ coded 0 5 ∷ coded 0 4 ∷ []) (lists CHG 1 ∷ [])

unlisted_fine : GoodMolecule limit unlisted_molecule
unfolding Each GoodAtoms GoodProperties GoodEntries listed NoAtomTwice NotListed
unlisted_fine =
    loose_fine (bytes "unlisted") unlisted_molecule.atoms unlisted_molecule.properties (title (bytes "unlisted") (record { short = omega arith; allowed = omega arith }) (omega arith)) (omega arith)
    (coded_fine 3 0 0 (omega arith) (omega arith), (coded_fine 3 0 5 (omega arith) (omega arith), (coded_fine 3 0 4 (omega arith) (omega arith), tt)))
    (record { some = omega arith; eight = omega arith; entries = (record { atom = omega arith; number = omega arith }, tt) }, tt)
    once
  where
    once : (k : Kind) → NoAtomTwice (listed k unlisted_molecule.properties)
    once CHG = (tt, tt)
    once RAD = tt
    once ISO = tt

unlisted_good : Holds charges_listed
unfolding molecule_lines counts_text atom_text property_text entry_fields joined text_by point_text symbol_text columns_for meaning atoms_from number_in listed among
unlisted_good = raw_molfile unlisted_molecule unlisted_fine refl refl

abbrev superseded_molecule : Molecule
superseded_molecule = loose (bytes "superseded") (coded 1 3 ∷ coded 0 4 ∷ []) (lists RAD 3 ∷ lists ISO 13 ∷ [])

superseded_fine : GoodMolecule limit superseded_molecule
unfolding Each GoodAtoms GoodProperties GoodEntries listed NoAtomTwice NotListed
superseded_fine =
    loose_fine (bytes "superseded") superseded_molecule.atoms superseded_molecule.properties (title (bytes "superseded") (record { short = omega arith; allowed = omega arith }) (omega arith)) (omega arith)
    (coded_fine 2 1 3 (omega arith) (omega arith), (coded_fine 2 0 4 (omega arith) (omega arith), tt)) (
      record { some = omega arith; eight = omega arith; entries = (record { atom = omega arith; number = omega arith }, tt) },
      (record { some = omega arith; eight = omega arith; entries = (record { atom = omega arith; number = omega arith }, tt) }, tt),
    )
    once
  where
    once : (k : Kind) → NoAtomTwice (listed k superseded_molecule.properties)
    once CHG = tt
    once RAD = (tt, tt)
    once ISO = (tt, tt)

superseded_good : Holds others_listed
unfolding molecule_lines counts_text atom_text property_text entry_fields joined text_by point_text symbol_text columns_for meaning atoms_from number_in listed among
superseded_good = raw_molfile superseded_molecule superseded_fine refl refl

abbrev uncharged_molecule : Molecule
uncharged_molecule = loose (bytes "uncharged") (coded 0 5 ∷ coded 0 4 ∷ []) (lists RAD 1 ∷ [])

uncharged_fine : GoodMolecule limit uncharged_molecule
unfolding Each GoodAtoms GoodProperties GoodEntries listed NoAtomTwice NotListed
uncharged_fine =
    loose_fine (bytes "uncharged") uncharged_molecule.atoms uncharged_molecule.properties (title (bytes "uncharged") (record { short = omega arith; allowed = omega arith }) (omega arith)) (omega arith)
    (coded_fine 2 0 5 (omega arith) (omega arith), (coded_fine 2 0 4 (omega arith) (omega arith), tt))
    (record { some = omega arith; eight = omega arith; entries = (record { atom = omega arith; number = omega arith }, tt) }, tt)
    once
  where
    once : (k : Kind) → NoAtomTwice (listed k uncharged_molecule.properties)
    once CHG = tt
    once RAD = (tt, tt)
    once ISO = tt

uncharged_good : Holds radicals_listed
unfolding molecule_lines counts_text atom_text property_text entry_fields joined text_by point_text symbol_text columns_for meaning atoms_from number_in listed among
uncharged_good = raw_molfile uncharged_molecule uncharged_fine refl refl

-- ---- Lines that nothing can finish

counts_of : (n m : ℕ) → n ≤ limit → m ≤ limit → 2 * m ≤ n * (n - 1) → CountsLine limit (counts_text (record { atoms = n; bonds = m; chiral = 0 })) (record { atoms = n; bonds = m; chiral = 0 })
counts_of n m h k p = counts_written limit (record { atoms = n; bonds = m; chiral = 0 }) (omega arith) (record { atoms = h; bonds = k; pairs = p; chiral = omega arith })

again_bad : Holds pair_twice
unfolding counts_text joined text_by columns_for NoPairTwice NewPair
again_bad more (x, Molfile.molfile (Parts1to5.parts {t = t} {u = u} {v = v} {xs = xs} {bs = bs} f g h c a b w p o)) =
    let e = one_counts c (counts_of 3 2 (omega arith) (omega arith) (omega arith)) in
    go (subst (λ (z : Counts). Atoms z.atoms z.atoms t xs u) e a) (subst (λ (z : Counts). Bonds z.atoms z.bonds u bs v) e b) w
  where
    j : Line
    j = bytes "  1  2  1  0  0  0  0"

    k : Line
    k = bytes "  2  1  1  0  0  0  0"

    same : (b c : Bond) → BondLine 3 j b → BondLine 3 k c → SamePair b c
    same b c p q =
        let one = one_number p.first (number_in_lem j 1 3 3 1 1 1 refl (omega arith) (omega arith) (omega arith)) in
        let two = one_number p.second (number_in_lem j 4 6 3 2 2 2 refl (omega arith) (omega arith) (omega arith)) in
        let two' = one_number q.first (number_in_lem k 1 3 3 2 2 2 refl (omega arith) (omega arith) (omega arith)) in
        let one' = one_number q.second (number_in_lem k 4 6 3 1 1 1 refl (omega arith) (omega arith) (omega arith)) in
        SamePair.against (one ∙ sym one') (two ∙ sym two')

    atom_line : Line
    atom_line = bytes "    0.0000    0.0000    0.0000 C   0  0  0  0  0  0  0  0  0  0  0  0"

    go : {xs : List Atom} {bs : List Bond} {u v : List Line} → Atoms 3 3 (atom_line ∷ atom_line ∷ atom_line ∷ j ∷ k ∷ more) xs u → Bonds 3 2 u bs v → NoPairTwice bs → ⊥
    go (Atoms.more f (Atoms.more g (Atoms.more h Atoms.none))) (Bonds.more {b = b} p (Bonds.more {b = c} q Bonds.none)) w = w.0.0 (same b c p q)

lot_header : DataHeader (bytes ">  <LOT>") (bytes "LOT")
unfolding Each
lot_header =
    record {
      line = record { short = omega arith; allowed = omega arith };
      between = 2;
      after = 0;
      some = omega arith;
      parts = refl;
      name_low = omega arith;
      name_high = omega arith;
      no_open = omega arith;
      no_close = omega arith;
    }

no_header : {is : List Item} {r more : List Line} → Items (bytes ">  <PURITY>" ∷ bytes ">  <LOT>" ∷ more) is r → ⊥
unfolding Each columns_for
no_header (Items.end h) = let e = h.tagged in let z : ◌≡◌ {A = ℕ} 62 36 = cc in omega arith
no_header (Items.more h (Values.end k) p) = let z : ◌≡◌ {A = ℕ} 62 32 = k.blank.0 in omega arith
no_header (Items.more h (Values.more k q) p) = k.no_header (bytes "LOT") lot_header

no_dollars : {is : List Item} {r more : List Line} → Items (bytes ">  <PURITY>" ∷ bytes "$$$$" ∷ more) is r → ⊥
unfolding Each columns_for
no_dollars (Items.end h) = let e = h.tagged in let z : ◌≡◌ {A = ℕ} 62 36 = cc in omega arith
no_dollars (Items.more h (Values.end k) p) = let z : ◌≡◌ {A = ℕ} 36 32 = k.blank.0 in omega arith
no_dollars (Items.more h (Values.more k q) p) = k.no_end ([], refl)

-- a molecule without atoms
abbrev pure_molecule : Molecule
pure_molecule = loose (bytes "pure") [] []

pure_fine : GoodMolecule limit pure_molecule
unfolding Each GoodAtoms GoodProperties listed NoAtomTwice
pure_fine =
    loose_fine (bytes "pure") [] [] (title (bytes "pure") (record { short = omega arith; allowed = omega arith }) (omega arith)) (omega arith) tt tt (λ k. tt)

-- its items are what follows it
pure_items : {rest r : List Line} {m : Molecule} {t : List Line} {is : List Item} →
    Parts1to5 limit (molecule_lines pure_molecule ++ rest) m t → Items t is r → Items rest is r
pure_items {rest} {r} {is = is} p i =
    subst (λ (z : List Line). Items z is r) (parts_one p (parts_after (molecule_written limit pure_molecule (omega arith) pure_fine) rest)).1 i

header_bad : Holds header_as_value
unfolding molecule_lines counts_text joined text_by columns_for
header_bad more ([], s) = elim s [ ]
header_bad more (x ∷ xs, SDfile.more (Record.record_of p i) s) = no_header (pure_items {rest = bytes ">  <PURITY>" ∷ bytes ">  <LOT>" ∷ more} p i)

dollars_bad : Holds dollars_as_value
unfolding molecule_lines counts_text joined text_by columns_for
dollars_bad more ([], s) = elim s [ ]
dollars_bad more (x ∷ xs, SDfile.more (Record.record_of p i) s) = no_dollars (pure_items {rest = bytes ">  <PURITY>" ∷ bytes "$$$$" ∷ more} p i)

-- ---- The table holds

pub samples_hold : Every Holds samples
unfolding Every
samples_hold = (again_bad, (codes_good, (unlisted_good, (superseded_good, (uncharged_good, (header_bad, (dollars_bad, (mixed_written_lem, tt))))))))
