-- What stands before a line of a record, part by part as the rules have the parts; and that lines which lead to a place are these.
use Prim.Native.Nat.{ℕ, zero, suc, ◌+◌}
use Rattle.std.proofs.Common.{arith, sym, ap, ◌∙◌}
use Rattle.std.specs.Prelude.{◌≡◌, refl}
use Rattle.std.proofs.Math.Path.{subst}
use mathlib.Core.List.{List, [], ◌∷◌, ◌++◌, append_assoc, append-nil}
use Rattle.text.specs.Text.{Bytes, Line}
use Rattle.rules.specs.Forms.{FirstHeaderLine, HeaderLine, Counts, CountsLine, Atom, AtomLine, Bond, BondLine, Property, PropertyLine, EndLine, DataHeader, ValueLine, BlankLine}
use Rattle.rules.specs.Record.{Headers, Molecule, Item, Raw, Atoms, Bonds, Properties, Values, Parts1to5, Record, SDfile}
use Rattle.rules.specs.Canon.{ItemPart}
use Rattle.rules.specs.After.{values_after, parts_after, sdfile_append}
use Rattle.rules.specs.Handed.{closed_items}
use Rattle.judge_file.specs.Sound.{Sound, sound_takes}
use Rattle.judge_refusals.specs.Because.{Leads}
use Rattle.judge_file.specs.Place.{FileKind, molfile, sdfile, after_end, to_atoms, to_bonds, Place, first, second, third, counts, atoms, bonds, properties, over, items, values, Turn, next, done}
use Rattle.judge_file.specs.Takes.{Takes}

-- three header lines
pub record Headed (hs : Headers) : Type 0 where
  pub first : FirstHeaderLine hs.first
  pub second : HeaderLine hs.second
  pub third : HeaderLine hs.third

abbrev pub heads : Headers → List Line → List Line
heads hs t = hs.first ∷ (hs.second ∷ (hs.third ∷ t))

-- property lines, not yet ended
pub data Listings (n : ℕ) : List Line → List Property → Type 0 where
  none : Listings n [] []
  more : {l : Line} {p : Property} {t : List Line} {ps : List Property} → PropertyLine n l p → Listings n t ps → Listings n (l ∷ t) (p ∷ ps)

-- value lines
pub data EachValue : List Line → Type 0 where
  none : EachValue []
  more : {l : Line} {t : List Line} → ValueLine l → EachValue t → EachValue (l ∷ t)

-- the lines of a record so far; the place is that of the next line
pub data Before (limit : ℕ) : List Line → Place → Type 0 where
  first_header : Before limit [] first
  second_header : {h₁ : Line} → FirstHeaderLine h₁ → Before limit (h₁ ∷ []) (second h₁)
  third_header : {h₁ h₂ : Line} → FirstHeaderLine h₁ → HeaderLine h₂ → Before limit (h₁ ∷ (h₂ ∷ [])) (third h₁ h₂)
  counts_line : {hs : Headers} → Headed hs → Before limit (heads hs []) (counts hs)
  an_atom_lem : {hs : Headers} {l : Line} {c : Counts} {j k : ℕ} {t : List Line} {xs : List Atom} →
      Headed hs → CountsLine limit l c → Atoms c.atoms j t xs [] → j + suc k ≡ c.atoms → Before limit (heads hs (l ∷ t)) (atoms hs c k xs)
  a_bond_lem : {hs : Headers} {l : Line} {c : Counts} {j k : ℕ} {t u : List Line} {xs : List Atom} {bs : List Bond} →
      Headed hs → CountsLine limit l c → Atoms c.atoms c.atoms t xs [] → Bonds c.atoms j u bs [] → j + suc k ≡ c.bonds →
      Before limit (heads hs (l ∷ (t ++ u))) (bonds hs c xs k bs)
  a_property : {hs : Headers} {l : Line} {c : Counts} {t u v : List Line} {xs : List Atom} {bs : List Bond} {ps : List Property} →
      Headed hs → CountsLine limit l c → Atoms c.atoms c.atoms t xs [] → Bonds c.atoms c.bonds u bs [] → Listings c.atoms v ps →
      Before limit (heads hs (l ∷ (t ++ (u ++ v)))) (properties hs c xs bs ps)
  after_end_lem : {t : List Line} {m : Molecule} → Parts1to5 limit t m [] → Before limit t (over m)
  an_item : {t u : List Line} {m : Molecule} {is : List Item} → Parts1to5 limit t m [] → ItemPart u is → Before limit (t ++ u) (items m is)
  a_value : {t u vs : List Line} {m : Molecule} {is : List Item} {l : Line} {name : Bytes} →
      Parts1to5 limit t m [] → ItemPart u is → DataHeader l name → EachValue vs → Before limit (t ++ (u ++ (l ∷ vs))) (values m is name vs)

-- ---- one line more

abbrev add : Line → List Line → List Line
add l t = t ++ (l ∷ [])

atoms_add : {n k : ℕ} {t : List Line} {xs : List Atom} {l : Line} {a : Atom} → Atoms n k t xs [] → AtomLine n l a → Atoms n (suc k) (add l t) (xs ++ (a ∷ [])) []
atoms_add Atoms.none h = Atoms.more h Atoms.none
atoms_add (Atoms.more g p) h = Atoms.more g (atoms_add p h)

bonds_add : {n k : ℕ} {t : List Line} {bs : List Bond} {l : Line} {b : Bond} → Bonds n k t bs [] → BondLine n l b → Bonds n (suc k) (add l t) (bs ++ (b ∷ [])) []
bonds_add Bonds.none h = Bonds.more h Bonds.none
bonds_add (Bonds.more g p) h = Bonds.more g (bonds_add p h)

listings_add : {n : ℕ} {t : List Line} {ps : List Property} {l : Line} {p : Property} → Listings n t ps → PropertyLine n l p → Listings n (add l t) (ps ++ (p ∷ []))
listings_add Listings.none h = Listings.more h Listings.none
listings_add (Listings.more g p) h = Listings.more g (listings_add p h)

module _ (limit : ℕ) where
  to_bonds_lem : {hs : Headers} {l : Line} {c : Counts} (j k : ℕ) {t u : List Line} {xs : List Atom} {bs : List Bond} →
      Headed hs → CountsLine limit l c → Atoms c.atoms c.atoms t xs [] → Bonds c.atoms j u bs [] → j + k ≡ c.bonds →
      Before limit (heads hs (l ∷ (t ++ u))) (to_bonds hs c xs k bs)
  unfolding to_bonds
  to_bonds_lem {hs} {l} {c} j zero {t} {u} {xs} {bs} h f a b e =
      let same : j ≡ c.bonds = omega (arith, e) in
      subst (λ (v : List Line). Before limit (heads hs (l ∷ (t ++ v))) (properties hs c xs bs [])) (append-nil u)
      (Before.a_property h f a (subst (λ (m : ℕ). Bonds c.atoms m u bs []) same b) Listings.none)
  to_bonds_lem j (suc k) h f a b e = Before.a_bond_lem h f a b e

  to_atoms_lem : {hs : Headers} {l : Line} {c : Counts} (j k : ℕ) {t : List Line} {xs : List Atom} →
      Headed hs → CountsLine limit l c → Atoms c.atoms j t xs [] → j + k ≡ c.atoms → Before limit (heads hs (l ∷ t)) (to_atoms hs c k xs)
  unfolding to_atoms
  to_atoms_lem {hs} {l} {c} j zero {t} {xs} h f a e =
      let same : j ≡ c.atoms = omega (arith, e) in
      subst (λ (v : List Line). Before limit (heads hs (l ∷ v)) (to_bonds hs c xs c.bonds [])) (append-nil t)
      (to_bonds_lem 0 c.bonds h f (subst (λ (m : ℕ). Atoms c.atoms m t xs []) same a) Bonds.none (omega arith))
  to_atoms_lem j (suc k) h f a e = Before.an_atom_lem h f a e

-- ---- parts before others

atoms_then : {n k : ℕ} {t : List Line} {xs : List Atom} → Atoms n k t xs [] → (s : List Line) → Atoms n k (t ++ s) xs s
atoms_then Atoms.none s = Atoms.none
atoms_then (Atoms.more g p) s = Atoms.more g (atoms_then p s)

bonds_then : {n k : ℕ} {t : List Line} {bs : List Bond} → Bonds n k t bs [] → (s : List Line) → Bonds n k (t ++ s) bs s
bonds_then Bonds.none s = Bonds.none
bonds_then (Bonds.more g p) s = Bonds.more g (bonds_then p s)

listings_end : {n : ℕ} {t : List Line} {ps : List Property} {l : Line} → Listings n t ps → EndLine l → Properties n (add l t) ps []
listings_end Listings.none h = Properties.end h
listings_end (Listings.more g p) h = Properties.more g (listings_end p h)

values_add : {vs : List Line} {l : Line} → EachValue vs → ValueLine l → EachValue (add l vs)
values_add EachValue.none h = EachValue.more h EachValue.none
values_add (EachValue.more g p) h = EachValue.more g (values_add p h)

values_end : {vs : List Line} {l : Line} → EachValue vs → BlankLine l → Values (add l vs) vs []
values_end EachValue.none h = Values.end h
values_end (EachValue.more g p) h = Values.more g (values_end p h)

item_add : {u t vs : List Line} {is : List Item} {l : Line} {name : Bytes} → ItemPart u is → DataHeader l name → Values t vs [] →
    ItemPart (u ++ (l ∷ t)) (is ++ (record { name = name; values = vs } ∷ []))
item_add ItemPart.none h v = ItemPart.more h v ItemPart.none
item_add {t = t} {l = l} (ItemPart.more g w p) h v = ItemPart.more g (values_after w (l ∷ t)) (item_add p h v)

-- ---- the step

-- what a turn leaves before the next line; or a whole record
abbrev pub After : ℕ → List Line → Turn → Type 0
After limit ls (next q) = Before limit ls q
After limit ls (done x) = Record limit ls x []

module _ (kind : FileKind) (limit : ℕ) where
  ended : {t : List Line} {m : Molecule} → Parts1to5 limit t m [] → Before limit t (after_end kind m)
  ended {t} {m} p = go kind
    where
      go : (k : FileKind) → Before limit t (after_end k m)
      go molfile = Before.after_end_lem p
      go sdfile = subst (λ (x : List Line). Before limit x (items m [])) (append-nil t) (Before.an_item p ItemPart.none)

  pub step : {p : Place} {ls : List Line} {l : Line} {t : Turn} → Sound kind limit p → Before limit ls p → Takes kind limit p l t → After limit (add l ls) t
  step s Before.first_header (Takes.first_header h) = Before.second_header h
  step s (Before.second_header f) (Takes.second_header h) = Before.third_header f h
  step s (Before.third_header f g) (Takes.third_header h) = Before.counts_line (record { first = f; second = g; third = h })
  step s (Before.counts_line f) (Takes.counts_line {c = c} h) = to_atoms_lem limit 0 c.atoms f h Atoms.none (omega arith)
  step s (Before.an_atom_lem {j = j} f c a e) (Takes.atom_line_lem {k = k} h) = to_atoms_lem limit (suc j) k f c (atoms_add a h) (omega (arith, e))
  step {l = l} s (Before.a_bond_lem {j = j} {t = t} {u = u} f c a b e) (Takes.bond_line_lem {hs = hs} {k = k} h new) =
      rw (append_assoc t u (l ∷ [])) (to_bonds_lem limit (suc j) k f c a (bonds_add b h) (omega (arith, e)))
  step {l = l} s (Before.a_property {t = t} {u = u} {v = v} f c a b ps) (Takes.property_line h new) =
      rw (append_assoc t (u ++ v) (l ∷ []), append_assoc u v (l ∷ [])) (Before.a_property f c a b (listings_add ps h))
  step {l = l} s (Before.a_property {t = t} {u = u} {v = v} f c a b ps) (Takes.end_line h) =
      rw (append_assoc t (u ++ v) (l ∷ []), append_assoc u v (l ∷ []))
      (ended
      (Parts1to5.parts f.first f.second f.third c (atoms_then a (u ++ add l v)) (bonds_then b (add l v)) s.pairs (listings_end ps h) s.atoms))
  step s (Before.after_end_lem _) h = elim h [ ]
  step {l = l} s (Before.an_item {t = t} {u = u} p i) (Takes.data_header h) = rw (append_assoc t u (l ∷ [])) (Before.a_value p i h EachValue.none)
  step {l = l} s (Before.an_item {t = t} {u = u} p i) (Takes.record_end h) =
      rw (append_assoc t u (l ∷ [])) (Record.record_of (parts_after p (u ++ (l ∷ []))) (closed_items i h))
  step {l = l} s (Before.a_value {t = t} {u = u} {vs = vs} {l = k} p i d v) (Takes.value_line h) =
      rw (append_assoc t (u ++ (k ∷ vs)) (l ∷ []), append_assoc u (k ∷ vs) (l ∷ [])) (Before.a_value p i d (values_add v h))
  step {l = l} s (Before.a_value {t = t} {u = u} {vs = vs} {l = k} p i d v) (Takes.blank_line h) =
      rw (append_assoc t (u ++ (k ∷ vs)) (l ∷ []), append_assoc u (k ∷ vs) (l ∷ [])) (Before.an_item p (item_add i d (values_end v h)))

-- ---- the lines before any line of a file

-- whole records, of an SDfile
abbrev pub Finished : FileKind → ℕ → List Line → List Raw → Type 0
Finished molfile limit t xs = (t ≡ []) × (xs ≡ [])
Finished sdfile limit t xs = SDfile limit t xs

-- whole records, and then the lines of a record so far
pub record Standing (kind : FileKind) (limit : ℕ) (ls : List Line) (p : Place) (xs : List Raw) : Type 0 where
  pub records : List Line
  pub own : List Line
  pub lines : ls ≡ records ++ own
  pub finished : Finished kind limit records xs
  pub so_far : Before limit own p

module _ (kind : FileKind) (limit : ℕ) where
  -- a molfile finishes no record on the way
  finish : {p : Place} {l : Line} {x : Raw} (records own : List Line) (xs : List Raw) → Sound kind limit p → Takes kind limit p l (done x) →
      Finished kind limit records xs → Record limit own x [] → Finished kind limit (records ++ own) (xs ++ (x ∷ []))
  finish records own xs s t f r = go kind s t f r
    where
      go : (k : FileKind) {p : Place} {l : Line} {x : Raw} → Sound k limit p → Takes k limit p l (done x) → Finished k limit records xs → Record limit own x [] →
          Finished k limit (records ++ own) (xs ++ (x ∷ []))
      go molfile s (Takes.record_end h) f r = absurd s
      go sdfile s t f r = sdfile_append f (SDfile.more r SDfile.none)

  on : {p q : Place} {xs ys : List Raw} {ls : List Line} (records own : List Line) → Sound kind limit p → Leads kind limit p xs ls q ys →
      Finished kind limit records xs → Before limit own p → Standing kind limit ((records ++ own) ++ ls) q ys
  on records own s Leads.none f b = record { records = records; own = own; lines = append-nil (records ++ own); finished = f; so_far = b }
  on records own s (Leads.on {l = l} {ls = ls} t h) f b =
      let r = on records (add l own) (sound_takes kind limit s t) h f (step kind limit s b t) in
      let e : (records ++ add l own) ++ ls ≡ (records ++ own) ++ (l ∷ ls) =
      append_assoc records (add l own) ls ∙ ap (λ (x : List Line). records ++ x) (append_assoc own (l ∷ []) ls) ∙ sym (append_assoc records own (l ∷ ls)) in
      record { records = r.records; own = r.own; lines = sym e ∙ r.lines; finished = r.finished; so_far = r.so_far }
  on {xs = xs} records own s (Leads.over {l = l} {ls = ls} t h) f b =
      let r = on (records ++ add l own) [] tt h (finish records (add l own) xs s t f (step kind limit s b t)) Before.first_header in
      let e : ((records ++ add l own) ++ []) ++ ls ≡ (records ++ own) ++ (l ∷ ls) =
      ap (λ (x : List Line). x ++ ls) (append-nil (records ++ add l own)) ∙ append_assoc records (add l own) ls
      ∙ ap (λ (x : List Line). records ++ x) (append_assoc own (l ∷ []) ls) ∙ sym (append_assoc records own (l ∷ ls)) in
      record { records = r.records; own = r.own; lines = sym e ∙ r.lines; finished = r.finished; so_far = r.so_far }

  pub standing : {q : Place} {ys : List Raw} {ls : List Line} → Leads kind limit first [] ls q ys → Standing kind limit ls q ys
  standing h = on [] [] tt h (begun kind) Before.first_header
    where
      begun : (k : FileKind) → Finished k limit [] []
      begun molfile = (refl, refl)
      begun sdfile = SDfile.none
