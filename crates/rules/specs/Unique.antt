-- A text stands for one list of records at most.
use Rattle.std.specs.Prelude.{ℕ, ◌≡◌, refl, List, [], ◌∷◌}
use Rattle.std.proofs.Common.{sym, ap₂, subst}
use Rattle.text.specs.Text.{Bytes, Line}
use Rattle.text.specs.Cut.{lines_same}
use Rattle.rules.specs.Forms.{Counts, Atom, Bond, Property}
use Rattle.rules.specs.Record.{Molecule, Raw, Atoms, Bonds, Properties, Parts1to5, Molfile, GoodMolfile, limit}
use Rattle.rules.specs.OneForm.{one_counts, one_atom_lem, one_bond, one_property, property_or_end}

-- ---- parts of a record
atoms_one : {n k : ℕ} {t r q : List Line} {xs ys : List Atom} → Atoms n k t xs r → Atoms n k t ys q → (xs ≡ ys) × (r ≡ q)
atoms_one Atoms.none Atoms.none = (refl, refl)
atoms_one (Atoms.more h p) (Atoms.more k q) = let e = atoms_one p q in (ap₂ ◌∷◌ (one_atom_lem h k) e.0, e.1)

bonds_one : {n k : ℕ} {t r q : List Line} {xs ys : List Bond} → Bonds n k t xs r → Bonds n k t ys q → (xs ≡ ys) × (r ≡ q)
bonds_one Bonds.none Bonds.none = (refl, refl)
bonds_one (Bonds.more h p) (Bonds.more k q) = let e = bonds_one p q in (ap₂ ◌∷◌ (one_bond h k) e.0, e.1)

properties_one : {n : ℕ} {t r q : List Line} {xs ys : List Property} → Properties n t xs r → Properties n t ys q → (xs ≡ ys) × (r ≡ q)
properties_one (Properties.end h) (Properties.end k) = (refl, refl)
properties_one (Properties.end h) (Properties.more k q) = property_or_end k h
properties_one (Properties.more h p) (Properties.end k) = property_or_end h k
properties_one (Properties.more h p) (Properties.more k q) = let e = properties_one p q in (ap₂ ◌∷◌ (one_property h k) e.0, e.1)

pub parts_one : {limit : ℕ} {t r q : List Line} {x y : Molecule} → Parts1to5 limit t x r → Parts1to5 limit t y q → (x ≡ y) × (r ≡ q)
parts_one (Parts1to5.parts {h₁ = h₁} {h₂ = h₂} {h₃ = h₃} {c = c} f₁ g₁ k₁ c₁ a₁ b₁ n₁ p₁ o₁) (Parts1to5.parts {c = d} {t = t} {u = u} {v = v} {r = r} {xs = xs} {bs = bs} {ps = ps} f₂ g₂ k₂ c₂ a₂ b₂ n₂ p₂ o₂) =
    let e = one_counts c₁ c₂ in
    let a = atoms_one a₁ (subst (λ (z : Counts). Atoms z.atoms z.atoms t xs u) (sym e) a₂) in
    let b₃ = subst (λ (z : Counts). Bonds z.atoms z.bonds u bs v) (sym e) b₂ in
    let b = bonds_one b₁ (subst (λ (z : List Line). Bonds c.atoms c.bonds z bs v) (sym a.1) b₃) in
    let p₃ = subst (λ (z : Counts). Properties z.atoms v ps r) (sym e) p₂ in
    let p = properties_one p₁ (subst (λ (z : List Line). Properties c.atoms z ps r) (sym b.1) p₃) in
    (λ i. record { headers = record { first = h₁; second = h₂; third = h₃ }; counts = e i; atoms = a.0 i; bonds = b.0 i; properties = p.0 i }, p.1)

-- ---- files
pub molfile_one : {limit : ℕ} {t : List Line} {x y : Raw} → Molfile limit t x → Molfile limit t y → x ≡ y
molfile_one (Molfile.molfile p) (Molfile.molfile q) = λ i. record { molecule = (parts_one p q).0 i; items = [] }

-- a text is at most one molfile, and at most one SDfile
pub one_molfile : (text : Bytes) (x y : Raw) → GoodMolfile text x → GoodMolfile text y → x ≡ y
one_molfile text x y p q = molfile_one p.2 (subst (λ (z : List Line). Molfile limit z y) (sym (lines_same p.1 q.1).0) q.2)
