-- What follows a part of a file does not matter to that part.
use Rattle.std.specs.Prelude.{ℕ, List, [], ◌++◌}
use Rattle.text.specs.Text.{Line}
use Rattle.rules.specs.Forms.{Atom, Bond, Property}
use Rattle.rules.specs.Record.{Molecule, Item, Raw, Atoms, Bonds, Properties, Values, Items, Parts1to5, Record, SDfile}

atoms_after_lem : {n k : ℕ} {t r : List Line} {xs : List Atom} → Atoms n k t xs r → (s : List Line) → Atoms n k (t ++ s) xs (r ++ s)
atoms_after_lem Atoms.none s = Atoms.none
atoms_after_lem (Atoms.more h p) s = Atoms.more h (atoms_after_lem p s)

bonds_after_lem : {n k : ℕ} {t r : List Line} {xs : List Bond} → Bonds n k t xs r → (s : List Line) → Bonds n k (t ++ s) xs (r ++ s)
bonds_after_lem Bonds.none s = Bonds.none
bonds_after_lem (Bonds.more h p) s = Bonds.more h (bonds_after_lem p s)

properties_after : {n : ℕ} {t r : List Line} {ps : List Property} → Properties n t ps r → (s : List Line) → Properties n (t ++ s) ps (r ++ s)
properties_after (Properties.end h) s = Properties.end h
properties_after (Properties.more h p) s = Properties.more h (properties_after p s)

pub values_after : {t vs r : List Line} → Values t vs r → (s : List Line) → Values (t ++ s) vs (r ++ s)
values_after (Values.end h) s = Values.end h
values_after (Values.more h p) s = Values.more h (values_after p s)

items_after : {t r : List Line} {is : List Item} → Items t is r → (s : List Line) → Items (t ++ s) is (r ++ s)
items_after (Items.end h) s = Items.end h
items_after (Items.more h v p) s = Items.more h (values_after v s) (items_after p s)

pub parts_after : {limit : ℕ} {t r : List Line} {m : Molecule} → Parts1to5 limit t m r → (s : List Line) → Parts1to5 limit (t ++ s) m (r ++ s)
parts_after (Parts1to5.parts f g h c a b w p o) s =
    Parts1to5.parts f g h c (atoms_after_lem a s) (bonds_after_lem b s) w (properties_after p s) o

pub record_after : {limit : ℕ} {t r : List Line} {x : Raw} → Record limit t x r → (s : List Line) → Record limit (t ++ s) x (r ++ s)
record_after (Record.record_of p i) s = Record.record_of (parts_after p s) (items_after i s)

-- one file after the other is a file
pub sdfile_append : {limit : ℕ} {t u : List Line} {xs ys : List Raw} → SDfile limit t xs → SDfile limit u ys → SDfile limit (t ++ u) (xs ++ ys)
sdfile_append SDfile.none q = q
sdfile_append {u = u} (SDfile.more p ps) q = SDfile.more (record_after p u) (sdfile_append ps q)
