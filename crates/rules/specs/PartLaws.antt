-- Laws on the parts of a record: none is read from no lines, lists are as long as the counts say, and a file of one record is that record.
use Rattle.std.specs.Prelude.{ℕ, suc, ◌≡◌, refl, List, [], ◌∷◌, length}
use Rattle.std.proofs.Common.{ap}
use Rattle.text.specs.Text.{Line}
use Rattle.rules.specs.Forms.{Atom, Bond, Property}
use Rattle.rules.specs.Record.{Molecule, Item, Raw, Atoms, Bonds, Properties, Values, Items, Parts1to5, Record, SDfile}

-- ---- No lines

pub no_atoms_lem : {X : Type 0} {n k : ℕ} {xs : List Atom} {r : List Line} → Atoms n (suc k) [] xs r → X
no_atoms_lem h = elim h [ ]

pub no_bonds : {X : Type 0} {n k : ℕ} {bs : List Bond} {r : List Line} → Bonds n (suc k) [] bs r → X
no_bonds h = elim h [ ]

pub no_properties : {X : Type 0} {n : ℕ} {ps : List Property} {r : List Line} → Properties n [] ps r → X
no_properties h = elim h [ ]

pub no_values : {X : Type 0} {vs r : List Line} → Values [] vs r → X
no_values h = elim h [ ]

pub no_items : {X : Type 0} {is : List Item} {r : List Line} → Items [] is r → X
no_items h = elim h [ ]

pub no_parts : {X : Type 0} {limit : ℕ} {m : Molecule} {r : List Line} → Parts1to5 limit [] m r → X
no_parts h = elim h [ ]

pub no_record : {X : Type 0} {limit : ℕ} {x : Raw} {r : List Line} → Record limit [] x r → X
no_record (Record.record_of p is) = no_parts p

-- ---- As many as the counts say

pub many_atoms : {n k : ℕ} {t r : List Line} {xs : List Atom} → Atoms n k t xs r → length xs ≡ k
many_atoms Atoms.none = refl
many_atoms (Atoms.more h a) = ap suc (many_atoms a)

pub many_bonds : {n k : ℕ} {t r : List Line} {bs : List Bond} → Bonds n k t bs r → length bs ≡ k
many_bonds Bonds.none = refl
many_bonds (Bonds.more h b) = ap suc (many_bonds b)

-- ---- A file of one record

pub file_record : {limit : ℕ} {ls : List Line} {x : Raw} → SDfile limit ls (x ∷ []) → Record limit ls x []
file_record (SDfile.more r SDfile.none) = r
