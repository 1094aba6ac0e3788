-- What stands in a file can be written: the reading of a record is writable, and its header lines and items are good.
use Rattle.std.specs.Prelude.{ℕ, suc, ◌+◌, ◌≤◌, ◌≡◌, refl, ◌≢◌, List, [], ◌∷◌, ◌++◌, map, Bool, true, false, cond, eqb, length, ℤ, pos}
use Rattle.std.proofs.Common.{arith, sym, ap, subst}
use Rattle.text.specs.Text.{Line}
use Rattle.field_numbers.specs.Number.{Between}
use Rattle.field_coordinates.specs.Agree.{coordinate_range}
use Rattle.rules.specs.Forms.{Atom, AtomLine, Bond, BondLine, Kind, CHG, RAD, ISO, same_kind, Entry, EntryNumber, EntriesFrom, Property}
use Rattle.rules.specs.Record.{Molecule, Item, Raw, Atoms, Bonds, Properties, Values, Items, Parts1to5, Record, SDfile, listed, NoPairTwice}
use Rattle.rules.specs.Meaning.{charges_of_codes, charge_of_code, radical_of_code, has, codes_void, number_in, given, atom_numbers, atoms_from, bond_numbers, meaning}
use Rattle.rules.specs.Canon.{atom_row, bond_row, bond_of, entries_from, canon, canon_file, FromTo, WritableAtom, WritableBond, Rows, GoodValues, GoodItems, Good, AllGood}
use Rattle.rules.specs.Fields.{Every, every_at}
use Rattle.rules.specs.Entries.{not_among}
use Rattle.rules.specs.CanonGood.{one_map}
use Rattle.rules.proofs.CanonGood.{canon_file_lem}
use Rattle.rules.specs.Rewritten.{good_name}

-- ---- The numbers that property lines give

-- what lines of a kind may give an atom: 0 where it is not listed
abbrev Given : Kind → ℤ → Type 0
Given CHG z = Between 15 15 z
Given RAD z = FromTo 0 3 z
Given ISO z = FromTo 0 999 z

unfoldable AllGiven : Kind → List Entry → Type 0
AllGiven k [] = Unit {0}
AllGiven k (e ∷ es) = Given k e.number × AllGiven k es

entry_given : {l : Line} {i j : ℕ} {k : Kind} {z : ℤ} → EntryNumber l i j k z → Given k z
entry_given (EntryNumber.charge s) = s.range
entry_given (EntryNumber.radical s) = (s.low, s.high)
entry_given (EntryNumber.isotope s) = (omega arith, s.high)

entries_given : (n : ℕ) (k : Kind) (l : Line) (i : ℕ) (es : List Entry) → EntriesFrom n k l i es → AllGiven k es
unfolding EntriesFrom AllGiven
entries_given n k l i [] h = tt
entries_given n k l i (e ∷ es) h = (entry_given h.0.number, entries_given n k l (i + 8) es h.1)

given_append : (k : Kind) (es fs : List Entry) → AllGiven k es → AllGiven k fs → AllGiven k (es ++ fs)
unfolding AllGiven
given_append k [] fs g h = h
given_append k (e ∷ es) fs g h = (g.0, given_append k es fs g.1 h)

kind_given : (j k : Kind) (es : List Entry) → AllGiven k es → AllGiven j (cond (same_kind j k) es [])
unfolding AllGiven
kind_given CHG CHG es g = g
kind_given RAD RAD es g = g
kind_given ISO ISO es g = g
kind_given CHG RAD es g = tt
kind_given CHG ISO es g = tt
kind_given RAD CHG es g = tt
kind_given RAD ISO es g = tt
kind_given ISO CHG es g = tt
kind_given ISO RAD es g = tt

properties_given : {n : ℕ} {t r : List Line} {ps : List Property} → Properties n t ps r → (k : Kind) → AllGiven k (listed k ps)
unfolding listed AllGiven
properties_given (Properties.end h) k = tt
properties_given {n} (Properties.more {l = l} {p = p} {ps = ps} h q) k =
    given_append k (cond (same_kind k p.kind) p.entries []) (listed k ps)
    (kind_given k p.kind p.entries (entries_given n p.kind l 10 p.entries h.entries))
    (properties_given q k)

none_given : (k : Kind) → Given k (pos 0)
none_given CHG = omega arith
none_given RAD = omega arith
none_given ISO = omega arith

number_given : (k : Kind) (es : List Entry) (i : ℕ) → AllGiven k es → Given k (number_in es i)
unfolding number_in AllGiven
number_given k [] i g = none_given k
number_given k (e ∷ es) i g = go (eqb e.atom i) (number_given k es i g.1)
  where
    go : (t : Bool) → Given k (number_in es i) → Given k (cond t e.number (number_in es i))
    go true r = g.0
    go false r = r

-- ---- and those that codes give

code_charge : (c : ℕ) → Between 15 15 (charge_of_code c)
unfolding Every
code_charge c = every_at (Between 15 15) charges_of_codes c (pos 0) (omega arith) (omega arith)

code_radical : (t : Bool) → FromTo 0 3 (cond t (pos 2) (pos 0))
code_radical true = omega arith
code_radical false = omega arith

either : (P : ℤ → Type 0) (t : Bool) (x y : ℤ) → P x → P y → P (cond t x y)
either P true x y p q = p
either P false x y p q = q

-- ---- Atoms

atom_writable : (n : ℕ) (m : Molecule) (i : ℕ) (l : Line) (a : Atom) → ((k : Kind) → AllGiven k (listed k m.properties)) → AtomLine n l a →
    WritableAtom n (atom_row (atom_numbers m i a))
atom_writable n m i l a g h =
    let of : (k : Kind) → Given k (given k m i) = λ k. number_given k (listed k m.properties) i (g k) in
    record {
      x = coordinate_range h.x;
      y = coordinate_range h.y;
      z = coordinate_range h.z;
      symbol = (h.symbol.low, h.symbol.high);
      mass_difference = either (Between 3 4) (has ISO m) (pos 0) a.mass_difference (omega arith) h.mass_difference.range;
      charge = either (Between 15 15) (codes_void m) (given CHG m i) (charge_of_code a.charge_code) (of CHG) (code_charge a.charge_code);
      radical = either (FromTo 0 3) (codes_void m) (given RAD m i) (radical_of_code a.charge_code) (of RAD) (code_radical (eqb a.charge_code 4));
      isotope = of ISO;
      parity = (h.parity.low, h.parity.high);
      hydrogen_count = (h.hydrogen_count.low, h.hydrogen_count.high);
      stereo_care = (h.stereo_care.low, h.stereo_care.high);
      valence = (h.valence.low, h.valence.high);
      H0 = (h.H0.low, h.H0.high);
      atom_map = (h.atom_map.low, h.atom_map.high);
      inversion = (h.inversion.low, h.inversion.high);
      exact_change = (h.exact_change.low, h.exact_change.high);
    }

atoms_writable : {n k : ℕ} {t r : List Line} {xs : List Atom} (m : Molecule) (i : ℕ) → ((k : Kind) → AllGiven k (listed k m.properties)) →
    Atoms n k t xs r → Rows 16 (λ t. WritableAtom n (atom_row t)) (atoms_from m i xs)
unfolding Rows atoms_from
atoms_writable m i g Atoms.none = tt
atoms_writable {n} m i g (Atoms.more {l = l} {a = a} h p) = ((refl, atom_writable n m i l a g h), atoms_writable m (suc i) g p)

atoms_number_lem : {n k : ℕ} {t r : List Line} {xs : List Atom} (m : Molecule) (i : ℕ) → Atoms n k t xs r → length (atoms_from m i xs) ≡ k
unfolding atoms_from
atoms_number_lem m i Atoms.none = refl
atoms_number_lem m i (Atoms.more h p) = ap suc (atoms_number_lem m (suc i) p)

masses_by : (m : Molecule) (i : ℕ) (xs : List Atom) → has ISO m ≡ true → Rows 16 (λ t. (atom_row t).mass_difference ≡ pos 0) (atoms_from m i xs)
unfolding Rows atoms_from
masses_by m i [] h = tt
masses_by m i (a ∷ xs) h = ((refl, rw h), masses_by m (suc i) xs h)

no_isotopes : (m : Molecule) (i : ℕ) (xs : List Atom) → has ISO m ≡ false → entries_from ISO i (atoms_from m i xs) ≡ []
unfolding entries_from atoms_from number_in
no_isotopes m i [] h = refl
no_isotopes m i (a ∷ xs) h =
    let e : given ISO m i ≡ pos 0 = ap (λ (es : List Entry). number_in es i) (not_among ISO m.properties h) in
    rw e (no_isotopes m (suc i) xs h)

masses_good : (m : Molecule) (xs : List Atom) (t : Bool) → has ISO m ≡ t → entries_from ISO 1 (atoms_from m 1 xs) ≢ [] → Rows 16 (λ t. (atom_row t).mass_difference ≡ pos 0) (atoms_from m 1 xs)
masses_good m xs true e h = masses_by m 1 xs e
masses_good m xs false e h = absurd (h (no_isotopes m 1 xs e))

-- ---- Bonds

bond_writable : (n : ℕ) (l : Line) (b : Bond) → BondLine n l b → WritableBond n (bond_row (bond_numbers b))
bond_writable n l b h =
    record {
      first = (h.first.low, h.first.high);
      second = (h.second.low, h.second.high);
      type = (h.type.low, h.type.high);
      stereo = one_map pos h.stereo.listed;
      topology = (h.topology.low, h.topology.high);
      centre = h.centre.listed;
      ends_differ = λ e. h.ends_differ (cc);
    }

bonds_writable : {n k : ℕ} {t r : List Line} {bs : List Bond} → Bonds n k t bs r → Rows 6 (λ t. WritableBond n (bond_row t)) (map bond_numbers bs)
unfolding Rows
bonds_writable Bonds.none = tt
bonds_writable {n} (Bonds.more {l = l} {b = b} h p) = ((refl, bond_writable n l b h), bonds_writable p)

bonds_number_lem : {n k : ℕ} {t r : List Line} {bs : List Bond} → Bonds n k t bs r → length (map bond_numbers bs) ≡ k
bonds_number_lem Bonds.none = refl
bonds_number_lem (Bonds.more h p) = ap suc (bonds_number_lem p)

bonds_same : (bs : List Bond) → map (λ (t : List ℤ). bond_of (bond_row t)) (map bond_numbers bs) ≡ bs
unfolding bond_of
bonds_same [] = refl
bonds_same (b ∷ bs) = ap (λ (cs : List Bond). b ∷ cs) (bonds_same bs)

-- ---- Items

pub good_values : {t vs r : List Line} → Values t vs r → GoodValues vs
unfolding GoodValues
good_values (Values.end h) = tt
good_values (Values.more h p) = (h, good_values p)

good_items : {t r : List Line} {is : List Item} → Items t is r → GoodItems is
unfolding GoodItems
good_items (Items.end h) = tt
good_items (Items.more h v p) = (record { name = good_name h; values = good_values v }, good_items p)

-- ---- A record and a file

pub record_good : {limit : ℕ} {t r : List Line} {x : Raw} → Record limit t x r → Good limit (meaning x)
unfolding meaning canon
record_good (Record.record_of {m = m} p i) = go p i
  where
    go : {limit : ℕ} {t u r : List Line} {m : Molecule} {is : List Item} → Parts1to5 limit t m u → Items u is r → Good limit (meaning (record { molecule = m; items = is }))
    go (Parts1to5.parts {h₁ = h₁} {h₂ = h₂} {h₃ = h₃} {c = c} {xs = xs} {bs = bs} {ps = ps} f g h l a b w q o) i =
        let m : Molecule = record { headers = record { first = h₁; second = h₂; third = h₃ }; counts = c; atoms = xs; bonds = bs; properties = ps } in
        record {
          writable = record {
            n = l.atoms.high;
            m = l.bonds.high;
            pairs = l.pairs;
            chiral = l.chiral.high;
            n_atoms = atoms_number_lem m 1 a;
            m_bonds = bonds_number_lem b;
            atoms = atoms_writable m 1 (properties_given q) a;
            bonds = bonds_writable b;
            no_pair_twice = subst NoPairTwice (sym (bonds_same bs)) w;
            masses = masses_good m xs (has ISO m) refl;
          };
          headers = record { first = f; second = g; third = h };
          items = good_items i;
        }

pub sdfile_good : {limit : ℕ} {t : List Line} {xs : List Raw} → SDfile limit t xs → AllGood limit (map meaning xs)
unfolding AllGood
sdfile_good SDfile.none = tt
sdfile_good (SDfile.more p ps) = (record_good p, sdfile_good ps)

-- so a file has a canonical form, which stands for the same readings
pub rewritten : (limit : ℕ) (t : List Line) (xs : List Raw) → limit ≤ 999 → SDfile limit t xs →
    (rs : List Raw) × SDfile limit (canon_file (map meaning xs)) rs × (map meaning rs ≡ map meaning xs)
rewritten limit t xs small f = canon_file_lem limit (map meaning xs) small (sdfile_good f)
