-- A line of a form stands for one value, and where two forms may stand no line has both.
use Rattle.std.specs.Prelude.{ℕ, zero, suc, ◌+◌, ◌≡◌, refl, List, [], ◌∷◌, ◌++◌, get_or, length, ℤ, pos}
use Rattle.std.proofs.Common.{arith, sym, ap, ◌∙◌, subst}
use Rattle.text.specs.Text.{Bytes, Line, bytes, Each, Without}
use Rattle.text.specs.Columns.{columns_for, spaces, Has}
use Rattle.field_numbers.specs.Agree.{one_number, one_listed, one_signed, one_signed_listed}
use Rattle.field_coordinates.specs.Agree.{one_coordinate}
use Rattle.field_symbols.specs.Agree.{one_symbol}
use Rattle.rules.specs.Forms.{Counts, CountsLine, Atom, AtomLine, Bond, BondLine, Kind, CHG, RAD, ISO, tag, Entry, EntryNumber, EntriesFrom}
use Rattle.rules.specs.Forms.{Property, PropertyLine, EndLine, DataHeader, RecordEnd}

pub one_counts : {limit : ℕ} {l : Line} {c d : Counts} → CountsLine limit l c → CountsLine limit l d → c ≡ d
one_counts p q = λ i. record { atoms = one_number p.atoms q.atoms i; bonds = one_number p.bonds q.bonds i; chiral = one_number p.chiral q.chiral i }

pub one_atom_lem : {n : ℕ} {l : Line} {a b : Atom} → AtomLine n l a → AtomLine n l b → a ≡ b
one_atom_lem p q = λ i. record {
  x = one_coordinate p.x q.x i;
  y = one_coordinate p.y q.y i;
  z = one_coordinate p.z q.z i;
  symbol = one_symbol p.symbol q.symbol i;
  mass_difference = one_signed p.mass_difference q.mass_difference i;
  charge_code = one_number p.charge_code q.charge_code i;
  parity = one_number p.parity q.parity i;
  hydrogen_count = one_number p.hydrogen_count q.hydrogen_count i;
  stereo_care = one_number p.stereo_care q.stereo_care i;
  valence = one_number p.valence q.valence i;
  H0 = one_number p.H0 q.H0 i;
  atom_map = one_number p.atom_map q.atom_map i;
  inversion = one_number p.inversion q.inversion i;
  exact_change = one_number p.exact_change q.exact_change i;
}

pub one_bond : {n : ℕ} {l : Line} {b c : Bond} → BondLine n l b → BondLine n l c → b ≡ c
one_bond p q = λ i. record {
  first = one_number p.first q.first i;
  second = one_number p.second q.second i;
  type = one_number p.type q.type i;
  stereo = one_listed p.stereo q.stereo i;
  topology = one_number p.topology q.topology i;
  centre = one_signed_listed p.centre q.centre i;
}

-- ---- property lines
pub one_kind : (l : Line) (j k : Kind) → Has l 1 6 (tag j) → Has l 1 6 (tag k) → j ≡ k
one_kind l CHG CHG p q = refl
one_kind l RAD RAD p q = refl
one_kind l ISO ISO p q = refl
one_kind l CHG RAD p q = let e : bytes "M  CHG" ≡ bytes "M  RAD" = sym p ∙ q in absurd (let z : ◌≡◌ {A = ℕ} 67 82 = cc in omega arith)
one_kind l CHG ISO p q = let e : bytes "M  CHG" ≡ bytes "M  ISO" = sym p ∙ q in absurd (let z : ◌≡◌ {A = ℕ} 67 73 = cc in omega arith)
one_kind l RAD CHG p q = let e : bytes "M  RAD" ≡ bytes "M  CHG" = sym p ∙ q in absurd (let z : ◌≡◌ {A = ℕ} 82 67 = cc in omega arith)
one_kind l RAD ISO p q = let e : bytes "M  RAD" ≡ bytes "M  ISO" = sym p ∙ q in absurd (let z : ◌≡◌ {A = ℕ} 82 73 = cc in omega arith)
one_kind l ISO CHG p q = let e : bytes "M  ISO" ≡ bytes "M  CHG" = sym p ∙ q in absurd (let z : ◌≡◌ {A = ℕ} 73 67 = cc in omega arith)
one_kind l ISO RAD p q = let e : bytes "M  ISO" ≡ bytes "M  RAD" = sym p ∙ q in absurd (let z : ◌≡◌ {A = ℕ} 73 82 = cc in omega arith)

pub no_end : {X : Type 0} (l : Line) (k : Kind) → Has l 1 6 (tag k) → Has l 1 6 "M  END" → X
no_end l CHG p q = let e : bytes "M  CHG" ≡ bytes "M  END" = sym p ∙ q in absurd (let z : ◌≡◌ {A = ℕ} 67 69 = cc in omega arith)
no_end l RAD p q = let e : bytes "M  RAD" ≡ bytes "M  END" = sym p ∙ q in absurd (let z : ◌≡◌ {A = ℕ} 82 69 = cc in omega arith)
no_end l ISO p q = let e : bytes "M  ISO" ≡ bytes "M  END" = sym p ∙ q in absurd (let z : ◌≡◌ {A = ℕ} 73 69 = cc in omega arith)

pub property_or_end : {X : Type 0} {n : ℕ} {l : Line} {p : Property} → PropertyLine n l p → EndLine l → X
property_or_end {l = l} {p = p} a b = no_end l p.kind a.tagged b.tagged

one_entry_number : {l : Line} {i e : ℕ} {k : Kind} {y z : ℤ} → EntryNumber l i e k y → EntryNumber l i e k z → y ≡ z
one_entry_number (EntryNumber.charge a) (EntryNumber.charge b) = one_signed a b
one_entry_number (EntryNumber.radical a) (EntryNumber.radical b) = ap pos (one_number a b)
one_entry_number (EntryNumber.isotope a) (EntryNumber.isotope b) = ap pos (one_number a b)

one_entries : (n : ℕ) (k : Kind) (l : Line) (i : ℕ) (xs ys : List Entry) → length xs ≡ length ys → EntriesFrom n k l i xs → EntriesFrom n k l i ys → xs ≡ ys
unfolding EntriesFrom
one_entries n k l i [] [] e p q = refl
one_entries n k l i [] (y ∷ ys) e p q = absurd (omega arith)
one_entries n k l i (x ∷ xs) [] e p q = absurd (omega arith)
one_entries n k l i (x ∷ xs) (y ∷ ys) e p q =
    let a = one_number p.0.atom q.0.atom in
    let b = one_entry_number p.0.number q.0.number in
    let r = one_entries n k l (i + 8) xs ys (omega arith) p.1 q.1 in
    λ t. record { atom = a t; number = b t } ∷ r t

pub one_property : {n : ℕ} {l : Line} {x y : Property} → PropertyLine n l x → PropertyLine n l y → x ≡ y
one_property {n} {l} {x} {y} p q =
    let k = one_kind l x.kind y.kind p.tagged q.tagged in
    let r = one_entries n x.kind l 10 x.entries y.entries (one_number p.count q.count) p.entries (subst (λ (j : Kind). EntriesFrom n j l 10 y.entries) (sym k) q.entries) in
    λ i. record { kind = k i; entries = r i }

-- the first byte
pub header_or_end_lem : {X : Type 0} {l : Line} {name : Bytes} → DataHeader l name → RecordEnd l → X
unfolding columns_for
header_or_end_lem {l = l} d e =
    let a : get_or l 0 32 ≡ 62 = ap (λ (x : Bytes). get_or x 0 32) d.parts in
    let b : get_or l 0 32 ≡ 36 = ap (λ (x : Bytes). get_or x 0 32) e.tagged in
    absurd (omega arith)

-- after the leading spaces a header has its `<`; a name has no `>`
same_after : (i j : ℕ) (s t : Bytes) → spaces i ++ (60 ∷ s) ≡ spaces j ++ (60 ∷ t) → s ≡ t
same_after zero zero s t e = cc
same_after zero (suc j) s t e = absurd (let z : ◌≡◌ {A = ℕ} 60 32 = cc in omega arith)
same_after (suc i) zero s t e = absurd (let z : ◌≡◌ {A = ℕ} 32 60 = cc in omega arith)
same_after (suc i) (suc j) s t e = same_after i j s t cc

same_upto : (a b s t : Bytes) → Without 62 a → Without 62 b → a ++ (62 ∷ s) ≡ b ++ (62 ∷ t) → a ≡ b
unfolding Each
same_upto [] [] s t f g e = refl
same_upto [] (y ∷ b) s t f g e = absurd (g.0 cc)
same_upto (x ∷ a) [] s t f g e = absurd (f.0 cc)
same_upto (x ∷ a) (y ∷ b) s t f g e =
    let p : x ≡ y = cc in
    let q : a ++ (62 ∷ s) ≡ b ++ (62 ∷ t) = cc in
    let r = same_upto a b s t f.1 g.1 q in
    λ i. p i ∷ r i

pub one_header : {l : Line} {m n : Bytes} → DataHeader l m → DataHeader l n → m ≡ n
one_header {l} {m} {n} p q =
    let e : 62 ∷ (spaces p.between ++ (60 ∷ (m ++ (62 ∷ spaces p.after)))) ≡ 62 ∷ (spaces q.between ++ (60 ∷ (n ++ (62 ∷ spaces q.after)))) = sym p.parts ∙ q.parts in
    let f = same_after p.between q.between (m ++ (62 ∷ spaces p.after)) (n ++ (62 ∷ spaces q.after)) cc in
    same_upto m n (spaces p.after) (spaces q.after) p.no_close q.no_close f
