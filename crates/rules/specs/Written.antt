-- What is written for a record in its ranges is well formed, and stands for that record.
use Rattle.std.specs.Prelude.{ℕ, suc, ◌+◌, ◌*◌, ◌-◌, ◌^◌, ◌≤◌, ◌<◌, ◌≡◌, refl, ◌≢◌, List, [], ◌∷◌, ◌++◌, map, Bool, true, false, cond, eqb, get_or, length, ℤ, pos, negsuc}
use Rattle.std.proofs.Common.{arith, sym, ap, ◌∙◌, subst, append_assoc, length-append}
use Rattle.text.specs.Laws.{each_append}
use Rattle.text.specs.Text.{Bytes, Line, bytes, Each}
use Rattle.text.specs.Columns.{column, columns, columns_for, Allowed}
use Rattle.field_numbers.specs.Number.{Between, OneOf}
use Rattle.field_numbers.specs.Write.{text_by, number_text, signed_text, Fitting}
use Rattle.field_numbers.specs.Written.{number_length, number_allowed, signed_length, signed_allowed}
use Rattle.field_coordinates.specs.Coordinate.{Coordinate}
use Rattle.field_coordinates.specs.Write.{coordinate_text}
use Rattle.field_coordinates.specs.Written.{coordinate_length, coordinate_allowed, coordinate_back}
use Rattle.field_symbols.specs.Symbol.{names, Symbol}
use Rattle.field_symbols.specs.Write.{symbol_back, symbol_length, symbol_allowed}
use Rattle.rules.specs.Forms.{Counts, CountsLine, Atom, AtomLine, Bond, BondLine, stereos, centres}
use Rattle.rules.specs.Forms.{Kind, CHG, RAD, ISO, tag, Entry, EntryNumber, EntriesFrom, Property, PropertyLine, EndLine, DataHeader, BlankLine, RecordEnd}
use Rattle.rules.specs.Record.{Molecule, Raw, NoPairTwice, listed, NoAtomTwice, Atoms, Bonds, Properties, Parts1to5}
use Rattle.rules.specs.Write.{joined, counts_fields, counts_text, atom_fields, atom_text, bond_fields, bond_text, entry_fields, property_fields, property_text, end_text, header_text, close_text}
use Rattle.rules.specs.Write.{molecule_lines}
use Rattle.rules.specs.Fields.{Every, one_every, Fields, upto, total, joined_within, joined_past, field_at, field_after, number_in_lem, listed_in, signed_in_lem, signed_listed_in}
use Rattle.rules.specs.Canon.{FromTo, GoodHeaders, GoodName, GoodItems}

three : (k : ℕ) → (length (number_text 3 k) ≡ 3) × Each Allowed (number_text 3 k)
three k = (number_length 3 k, number_allowed 3 k)

zero_text : number_text 3 0 ≡ bytes "  0"
unfolding text_by
zero_text = refl

fitting : (w below above : ℕ) (z : ℤ) → above < 10 ^ w → below < 10 ^ (w - 1) → Between below above z → Fitting w z
fitting w below above (pos k) h g b = let c : k ≤ above = b in omega arith
fitting w below above (negsuc k) h g b = let c : suc k ≤ below = b in omega arith

-- ---- The counts line

pub record GoodCounts (limit : ℕ) (c : Counts) : Type 0 where
  pub atoms : c.atoms ≤ limit
  pub bonds : c.bonds ≤ limit
  pub pairs : 2 * c.bonds ≤ c.atoms * (c.atoms - 1)
  pub chiral : c.chiral ≤ 1

abbrev counts_widths : List ℕ
counts_widths = 3 ∷ 3 ∷ 3 ∷ 3 ∷ 3 ∷ 3 ∷ 15 ∷ 6 ∷ []

counts_fields_lem : (c : Counts) → Fields (counts_fields c) counts_widths
unfolding Fields Each
counts_fields_lem c =
    (three c.atoms, (three c.bonds, ((refl, omega arith), ((refl, omega arith), (three c.chiral, ((refl, omega arith), ((refl, omega arith), ((refl, omega arith), tt))))))))

pub counts_written : (limit : ℕ) (c : Counts) → limit ≤ 999 → GoodCounts limit c → CountsLine limit (counts_text c) c
unfolding counts_text
counts_written limit c small g =
    let l = joined (counts_fields c) in
    let h = counts_fields_lem c in
    let at = field_at (counts_fields c) counts_widths h in
    record {
      line = joined_within 80 (counts_fields c) counts_widths h (omega arith);
      atoms = number_in_lem l 1 3 3 0 limit c.atoms (at 0 (omega arith)) (omega (arith, g.atoms)) (omega arith) g.atoms;
      bonds = number_in_lem l 4 6 3 0 limit c.bonds (at 1 (omega arith)) (omega (arith, g.bonds)) (omega arith) g.bonds;
      pairs = g.pairs;
      atom_lists = number_in_lem l 7 9 3 0 0 0 (at 2 (omega arith) ∙ sym zero_text) (omega arith) (omega arith) (omega arith);
      chiral = number_in_lem l 13 15 3 0 1 c.chiral (at 4 (omega arith)) (omega (arith, g.chiral)) (omega arith) g.chiral;
      stext = number_in_lem l 16 18 3 0 0 0 (at 5 (omega arith) ∙ sym zero_text) (omega arith) (omega arith) (omega arith);
      version = at 7 (omega arith);
      rest = joined_past 40 (counts_fields c) counts_widths h (omega arith);
    }

-- ---- Atom lines

pub record GoodAtom (n : ℕ) (a : Atom) : Type 0 where
  pub x : Between 99999999 999999999 a.x
  pub y : Between 99999999 999999999 a.y
  pub z : Between 99999999 999999999 a.z
  pub symbol : (1 ≤ a.symbol) × (a.symbol ≤ length names)
  pub mass_difference : Between 3 4 a.mass_difference
  pub charge_code : a.charge_code ≤ 7
  pub parity : a.parity ≤ 3
  pub hydrogen_count : a.hydrogen_count ≤ 5
  pub stereo_care : a.stereo_care ≤ 1
  pub valence : a.valence ≤ 15
  pub H0 : a.H0 ≤ 1
  pub atom_map : a.atom_map ≤ n
  pub inversion : a.inversion ≤ 2
  pub exact_change : a.exact_change ≤ 1

abbrev atom_widths : List ℕ
atom_widths = 10 ∷ 10 ∷ 10 ∷ 1 ∷ 3 ∷ 2 ∷ 3 ∷ 3 ∷ 3 ∷ 3 ∷ 3 ∷ 3 ∷ 6 ∷ 3 ∷ 3 ∷ 3 ∷ []

ten : (z : ℤ) → (length (coordinate_text z) ≡ 10) × Each Allowed (coordinate_text z)
ten z = (coordinate_length z, coordinate_allowed z)

atom_fields_lem : (a : Atom) → Fields (atom_fields a) atom_widths
unfolding Fields Each
atom_fields_lem a = (
  ten a.x,
  (
    ten a.y,
    (
      ten a.z,
      (
        (refl, omega arith),
        (
          (symbol_length a.symbol, symbol_allowed a.symbol),
          (
            (signed_length 2 a.mass_difference, signed_allowed 2 a.mass_difference),
            (
              three a.charge_code,
              (
                three a.parity,
                (
                  three a.hydrogen_count,
                  (
                    three a.stereo_care,
                    (
                      three a.valence,
                      (
                        three a.H0,
                        (
                          (refl, omega arith),
                          (three a.atom_map, (three a.inversion, (three a.exact_change, tt))),
                        ),
                      ),
                    ),
                  ),
                ),
              ),
            ),
          ),
        ),
      ),
    ),
  ),
)

only_byte : (b : ℕ) (l : Line) (i w : ℕ) → w ≡ 1 → columns_for l i w ≡ b ∷ [] → column l i ≡ b
unfolding columns_for
only_byte b l i w h e =
    let f : column l i ∷ [] ≡ b ∷ [] = subst (λ (v : ℕ). columns_for l i v ≡ b ∷ []) h e in
    cc

first_byte : (b : ℕ) (l : Line) (i : ℕ) → columns l i i ≡ b ∷ [] → column l i ≡ b
first_byte b l i e = only_byte b l i (suc i - i) (omega arith) e

pub atom_written : (n : ℕ) (a : Atom) → n ≤ 999 → GoodAtom n a → AtomLine n (atom_text a) a
unfolding atom_text
atom_written n a small g =
    let l = joined (atom_fields a) in
    let h = atom_fields_lem a in
    let at = field_at (atom_fields a) atom_widths h in
    record {
      line = joined_within 80 (atom_fields a) atom_widths h (omega arith);
      x = subst (λ (cs : Bytes). Coordinate cs a.x) (sym (at 0 (omega arith))) (coordinate_back a.x g.x);
      y = subst (λ (cs : Bytes). Coordinate cs a.y) (sym (at 1 (omega arith))) (coordinate_back a.y g.y);
      z = subst (λ (cs : Bytes). Coordinate cs a.z) (sym (at 2 (omega arith))) (coordinate_back a.z g.z);
      space = first_byte 32 l 31 (at 3 (omega arith));
      symbol = subst (λ (cs : Bytes). Symbol cs a.symbol) (sym (at 4 (omega arith))) (symbol_back a.symbol g.symbol.0 g.symbol.1);
      mass_difference = signed_in_lem l 35 36 2 3 4 a.mass_difference (at 5 (omega arith)) (fitting 2 3 4 a.mass_difference (omega arith) (omega arith) g.mass_difference) g.mass_difference;
      charge_code = number_in_lem l 37 39 3 0 7 a.charge_code (at 6 (omega arith)) (omega (arith, g.charge_code)) (omega arith) g.charge_code;
      parity = number_in_lem l 40 42 3 0 3 a.parity (at 7 (omega arith)) (omega (arith, g.parity)) (omega arith) g.parity;
      hydrogen_count = number_in_lem l 43 45 3 0 5 a.hydrogen_count (at 8 (omega arith)) (omega (arith, g.hydrogen_count)) (omega arith) g.hydrogen_count;
      stereo_care = number_in_lem l 46 48 3 0 1 a.stereo_care (at 9 (omega arith)) (omega (arith, g.stereo_care)) (omega arith) g.stereo_care;
      valence = number_in_lem l 49 51 3 0 15 a.valence (at 10 (omega arith)) (omega (arith, g.valence)) (omega arith) g.valence;
      H0 = number_in_lem l 52 54 3 0 1 a.H0 (at 11 (omega arith)) (omega (arith, g.H0)) (omega arith) g.H0;
      atom_map = number_in_lem l 61 63 3 0 n a.atom_map (at 13 (omega arith)) (omega (arith, g.atom_map)) (omega arith) g.atom_map;
      inversion = number_in_lem l 64 66 3 0 2 a.inversion (at 14 (omega arith)) (omega (arith, g.inversion)) (omega arith) g.inversion;
      exact_change = number_in_lem l 67 69 3 0 1 a.exact_change (at 15 (omega arith)) (omega (arith, g.exact_change)) (omega arith) g.exact_change;
      rest = joined_past 70 (atom_fields a) atom_widths h (omega arith);
    }

-- ---- Bond lines

pub record GoodBond (n : ℕ) (b : Bond) : Type 0 where
  pub first : (1 ≤ b.first) × (b.first ≤ n)
  pub second : (1 ≤ b.second) × (b.second ≤ n)
  pub type : (1 ≤ b.type) × (b.type ≤ 8)
  pub stereo : OneOf b.stereo (stereos b.type)
  pub topology : b.topology ≤ 2
  pub centre : OneOf b.centre centres
  pub ends_differ : b.first ≢ b.second

stereo_small : (t k : ℕ) → OneOf k (stereos t) → k < 10 ^ 3
unfolding Every
stereo_small t k o = go (eqb t 1) (eqb t 2) o
  where
    go : (one two : Bool) → OneOf k (cond one (0 ∷ 1 ∷ 4 ∷ 6 ∷ []) (cond two (0 ∷ 3 ∷ []) (0 ∷ []))) → k < 10 ^ 3
    go true two o = one_every (λ k. k < 1000) o (omega arith)
    go false true o = one_every (λ k. k < 1000) o (omega arith)
    go false false o = one_every (λ k. k < 1000) o (omega arith)

centre_fits : (z : ℤ) → OneOf z centres → Fitting 3 z
unfolding Every
centre_fits z o = one_every (Fitting 3) o (omega arith)

abbrev bond_widths : List ℕ
bond_widths = 3 ∷ 3 ∷ 3 ∷ 3 ∷ 3 ∷ 3 ∷ 3 ∷ []

bond_fields_lem : (b : Bond) → Fields (bond_fields b) bond_widths
unfolding Fields Each
bond_fields_lem b = (
  three b.first,
  (
    three b.second,
    (
      three b.type,
      (
        three b.stereo,
        (
          (refl, omega arith),
          (
            three b.topology,
            ((signed_length 3 b.centre, signed_allowed 3 b.centre), tt),
          ),
        ),
      ),
    ),
  ),
)

pub bond_written : (n : ℕ) (b : Bond) → n ≤ 999 → GoodBond n b → BondLine n (bond_text b) b
unfolding bond_text
bond_written n b small g =
    let l = joined (bond_fields b) in
    let h = bond_fields_lem b in
    let at = field_at (bond_fields b) bond_widths h in
    record {
      line = joined_within 80 (bond_fields b) bond_widths h (omega arith);
      first = number_in_lem l 1 3 3 1 n b.first (at 0 (omega arith)) (omega (arith, g.first.1)) g.first.0 g.first.1;
      second = number_in_lem l 4 6 3 1 n b.second (at 1 (omega arith)) (omega (arith, g.second.1)) g.second.0 g.second.1;
      type = number_in_lem l 7 9 3 1 8 b.type (at 2 (omega arith)) (omega (arith, g.type.1)) g.type.0 g.type.1;
      stereo = listed_in l 10 12 3 (stereos b.type) b.stereo (at 3 (omega arith)) (stereo_small b.type b.stereo g.stereo) g.stereo;
      topology = number_in_lem l 16 18 3 0 2 b.topology (at 5 (omega arith)) (omega (arith, g.topology)) (omega arith) g.topology;
      centre = signed_listed_in l 19 21 3 centres b.centre (at 6 (omega arith)) (centre_fits b.centre g.centre) g.centre;
      rest = joined_past 22 (bond_fields b) bond_widths h (omega arith);
      ends_differ = g.ends_differ;
    }

-- ---- Property lines

-- the range of an entry's number
abbrev pub Ranges : Kind → ℤ → Type 0
Ranges CHG z = Between 15 15 z
Ranges RAD z = FromTo 0 3 z
Ranges ISO z = FromTo 1 999 z

pub record GoodEntry (n : ℕ) (kind : Kind) (e : Entry) : Type 0 where
  pub atom : (1 ≤ e.atom) × (e.atom ≤ n)
  pub number : Ranges kind e.number

unfoldable pub GoodEntries : ℕ → Kind → List Entry → Type 0
GoodEntries n kind [] = Unit {0}
GoodEntries n kind (e ∷ es) = GoodEntry n kind e × GoodEntries n kind es

unfoldable entry_widths : List Entry → List ℕ
entry_widths [] = []
entry_widths (e ∷ es) = 1 ∷ 3 ∷ 1 ∷ 3 ∷ entry_widths es

entry_fields_lem : (es : List Entry) → Fields (entry_fields es) (entry_widths es)
unfolding Fields Each entry_fields entry_widths
entry_fields_lem [] = tt
entry_fields_lem (e ∷ es) =
    ((refl, omega arith), (three e.atom, ((refl, omega arith), ((signed_length 3 e.number, signed_allowed 3 e.number), entry_fields_lem es))))

entry_total : (es : List Entry) → total (entry_widths es) ≡ 8 * length es
unfolding entry_widths
entry_total [] = refl
entry_total (e ∷ es) = omega (arith, entry_total es)

number_by : (l : Line) (i j : ℕ) (kind : Kind) (z : ℤ) → columns l i j ≡ signed_text 3 z → Ranges kind z → EntryNumber l i j kind z
number_by l i j CHG z e r = EntryNumber.charge (signed_in_lem l i j 3 15 15 z e (fitting 3 15 15 z (omega arith) (omega arith) r) r)
number_by l i j RAD (pos k) e r = EntryNumber.radical (number_in_lem l i j 3 0 3 k e (omega (arith, r.1)) (omega arith) r.1)
number_by l i j RAD (negsuc k) e r = absurd r
number_by l i j ISO (pos k) e r = EntryNumber.isotope (number_in_lem l i j 3 1 999 k e (omega (arith, r.1)) r.0 r.1)
number_by l i j ISO (negsuc k) e r = absurd r

entries_written : (n : ℕ) (kind : Kind) (a : Bytes) (es : List Entry) (i : ℕ) → n ≤ 999 → i ≡ suc (length a) → GoodEntries n kind es →
    EntriesFrom n kind (a ++ joined (entry_fields es)) i es
unfolding EntriesFrom GoodEntries entry_fields entry_widths joined
entries_written n kind a [] i small p g = tt
entries_written n kind a (e ∷ es) i small p g = (
  record {
    space = first_byte 32 l i (at 0 i i (omega arith) (omega arith) (omega arith));
    atom = number_in_lem l (i + 1) (i + 3) 3 1 n e.atom (at 1 (i + 1) (i + 3) (omega arith) (omega arith) (omega arith)) (omega (arith, g.0.atom.1)) g.0.atom.0 g.0.atom.1;
    space_between = first_byte 32 l (i + 4) (at 2 (i + 4) (i + 4) (omega arith) (omega arith) (omega arith));
    number = number_by l (i + 5) (i + 7) kind e.number (at 3 (i + 5) (i + 7) (omega arith) (omega arith) (omega arith)) g.0.number;
  },
  subst (λ (x : Line). EntriesFrom n kind x (i + 8) es) (append_assoc a (32 ∷ (N ++ (32 ∷ S))) J ∙ ap (λ (y : Bytes). a ++ (32 ∷ y)) (append_assoc N (32 ∷ S) J))
      (entries_written n kind (a ++ (32 ∷ (N ++ (32 ∷ S)))) es (i + 8) small
      (omega (arith, length-append a (32 ∷ (N ++ (32 ∷ S))), length-append N (32 ∷ S), number_length 3 e.atom, signed_length 3 e.number)) g.1),
)
  where
    N : Bytes
    N = number_text 3 e.atom

    S : Bytes
    S = signed_text 3 e.number

    J : Bytes
    J = joined (entry_fields es)

    l : Line
    l = a ++ joined (entry_fields (e ∷ es))

    at : (k j m : ℕ) → k < length (entry_fields (e ∷ es)) → j ≡ suc (length a + upto k (entry_widths (e ∷ es))) → m ≡ length a + upto (suc k) (entry_widths (e ∷ es)) →
        columns l j m ≡ get_or (entry_fields (e ∷ es)) k []
    at k j m = field_after a (entry_fields (e ∷ es)) (entry_widths (e ∷ es)) k j m (entry_fields_lem (e ∷ es))

tag_six : (k : Kind) → (length (bytes (tag k)) ≡ 6) × Each Allowed (bytes (tag k))
unfolding Each
tag_six CHG = (refl, omega arith)
tag_six RAD = (refl, omega arith)
tag_six ISO = (refl, omega arith)

pub record GoodProperty (n : ℕ) (p : Property) : Type 0 where
  pub some : 1 ≤ length p.entries
  pub eight : length p.entries ≤ 8
  pub entries : GoodEntries n p.kind p.entries

pub property_written : (n : ℕ) (p : Property) → n ≤ 999 → GoodProperty n p → PropertyLine n (property_text p) p
unfolding property_text joined Fields
property_written n p small g =
    let fs = property_fields p in
    let ws : List ℕ = 6 ∷ 3 ∷ entry_widths p.entries in
    let h : Fields fs ws = (tag_six p.kind, (three (length p.entries), entry_fields_lem p.entries)) in
    let w = entry_total p.entries in
    let T = bytes (tag p.kind) in
    let C = number_text 3 (length p.entries) in
    record {
      line = joined_within 80 fs ws h (omega (arith, g.eight));
      tagged = field_at fs ws h 0 (omega arith);
      count = number_in_lem (joined fs) 7 9 3 1 8 (length p.entries) (field_at fs ws h 1 (omega arith)) (omega (arith, g.eight)) g.some g.eight;
      entries =
          subst (λ (x : Line). EntriesFrom n p.kind x 10 p.entries) (append_assoc T C (joined (entry_fields p.entries)))
          (entries_written n p.kind (T ++ C) p.entries 10 small
          (omega (arith, length-append T C, (tag_six p.kind).0, number_length 3 (length p.entries))) g.entries);
      rest = joined_past (10 + 8 * length p.entries) fs ws h (omega arith);
    }

pub end_written : EndLine end_text
unfolding columns_for Each
end_written = record { line = record { short = omega arith; allowed = omega arith }; tagged = refl; rest = tt }

-- ---- Data items

pub header_written : (name : Bytes) → GoodName name → DataHeader (header_text name) name
unfolding header_text Each
header_written name g =
    record {
      line = record {
        short = omega (arith, length-append name (bytes ">"), g.high);
        allowed = each_append Allowed (bytes ">  <") (name ++ bytes ">") (omega arith) (each_append Allowed name (bytes ">") g.allowed (omega arith));
      };
      between = 2;
      after = 0;
      some = omega arith;
      parts = refl;
      name_low = g.low;
      name_high = g.high;
      no_open = g.no_open;
      no_close = g.no_close;
    }

pub blank_written : BlankLine []
unfolding Each
blank_written = record { line = record { short = omega arith; allowed = tt }; blank = tt }

pub close_written : RecordEnd close_text
unfolding columns_for Each
close_written = record { line = record { short = omega arith; allowed = omega arith }; tagged = refl; rest = tt }

-- ---- Records

unfoldable pub GoodAtoms : ℕ → List Atom → Type 0
GoodAtoms n [] = Unit {0}
GoodAtoms n (a ∷ xs) = GoodAtom n a × GoodAtoms n xs

unfoldable pub GoodBonds : ℕ → List Bond → Type 0
GoodBonds n [] = Unit {0}
GoodBonds n (b ∷ bs) = GoodBond n b × GoodBonds n bs

unfoldable pub GoodProperties : ℕ → List Property → Type 0
GoodProperties n [] = Unit {0}
GoodProperties n (p ∷ ps) = GoodProperty n p × GoodProperties n ps

pub record GoodMolecule (limit : ℕ) (m : Molecule) : Type 0 where
  pub headers : GoodHeaders m.headers
  pub counts : GoodCounts limit m.counts
  pub n_atoms : length m.atoms ≡ m.counts.atoms
  pub atoms : GoodAtoms m.counts.atoms m.atoms
  pub m_bonds : length m.bonds ≡ m.counts.bonds
  pub bonds : GoodBonds m.counts.atoms m.bonds
  pub no_pair_twice : NoPairTwice m.bonds
  pub properties : GoodProperties m.counts.atoms m.properties
  pub no_atom_twice : (k : Kind) → NoAtomTwice (listed k m.properties)

atoms_written : (n : ℕ) (xs : List Atom) (rest : List Line) → n ≤ 999 → GoodAtoms n xs → Atoms n (length xs) (map atom_text xs ++ rest) xs rest
unfolding GoodAtoms
atoms_written n [] rest small g = Atoms.none
atoms_written n (a ∷ xs) rest small g = Atoms.more (atom_written n a small g.0) (atoms_written n xs rest small g.1)

bonds_written : (n : ℕ) (bs : List Bond) (rest : List Line) → n ≤ 999 → GoodBonds n bs → Bonds n (length bs) (map bond_text bs ++ rest) bs rest
unfolding GoodBonds
bonds_written n [] rest small g = Bonds.none
bonds_written n (b ∷ bs) rest small g = Bonds.more (bond_written n b small g.0) (bonds_written n bs rest small g.1)

properties_written : (n : ℕ) (ps : List Property) → n ≤ 999 → GoodProperties n ps → Properties n (map property_text ps ++ (end_text ∷ [])) ps []
unfolding GoodProperties
properties_written n [] small g = Properties.end end_written
properties_written n (p ∷ ps) small g = Properties.more (property_written n p small g.0) (properties_written n ps small g.1)

pub molecule_written : (limit : ℕ) (m : Molecule) → limit ≤ 999 → GoodMolecule limit m → Parts1to5 limit (molecule_lines m) m []
unfolding molecule_lines
molecule_written limit m small g =
    let n = m.counts.atoms in
    let n_small : n ≤ 999 = omega (arith, g.counts.atoms) in
    let after_bonds = map property_text m.properties ++ (end_text ∷ []) in
    let after_atoms = map bond_text m.bonds ++ after_bonds in
    Parts1to5.parts g.headers.first g.headers.second g.headers.third
    (counts_written limit m.counts small g.counts)
    (subst (λ (k : ℕ). Atoms n k (map atom_text m.atoms ++ after_atoms) m.atoms after_atoms) g.n_atoms (atoms_written n m.atoms after_atoms n_small g.atoms))
    (subst (λ (k : ℕ). Bonds n k after_atoms m.bonds after_bonds) g.m_bonds (bonds_written n m.bonds after_bonds n_small g.bonds))
    g.no_pair_twice (properties_written n m.properties n_small g.properties) g.no_atom_twice

pub record GoodRecord (limit : ℕ) (x : Raw) : Type 0 where
  pub molecule : GoodMolecule limit x.molecule
  pub items : GoodItems x.items

unfoldable pub GoodRecords : ℕ → List Raw → Type 0
GoodRecords limit [] = Unit {0}
GoodRecords limit (x ∷ xs) = GoodRecord limit x × GoodRecords limit xs
