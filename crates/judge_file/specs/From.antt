-- What may follow each place of the judge, by the rules: the rest of the file from there, and the records that end in it.
use Rattle.std.specs.Prelude.{ℕ, suc, ◌≡◌, List, [], ◌∷◌, ◌++◌}
use Rattle.text.specs.Text.{Bytes, Line}
use Rattle.rules.specs.Forms.{HeaderLine, Counts, CountsLine, Atom, Bond, Kind, Property}
use Rattle.rules.specs.Record.{Headers, Molecule, Item, Raw, listed, NoPairTwice, NoAtomTwice}
use Rattle.rules.specs.Record.{Atoms, Bonds, Properties, Values, Items, Parts1to5, SDfile}
use Rattle.judge_file.specs.Place.{FileKind, molfile, sdfile}
use Rattle.judge_file.specs.Place.{Place, first, second, third, counts, atoms, bonds, properties, over, items, values, Turn, next, done}

-- a molecule alone, as the record of a molfile
abbrev pub alone : Molecule → Raw
alone m = record { molecule = m; items = [] }

-- where a record may begin
abbrev pub FromFirst : FileKind → ℕ → List Line → List Raw → Type 0
FromFirst molfile limit t rs = (m : Molecule) × Parts1to5 limit t m [] × (rs ≡ alone m ∷ [])
FromFirst sdfile limit t rs = SDfile limit t rs

-- after a molfile's `M  END`; an SDfile has no such place
abbrev pub FromOver : FileKind → Molecule → List Line → List Raw → Type 0
FromOver molfile m t rs = (t ≡ []) × (rs ≡ alone m ∷ [])
FromOver sdfile m t rs = ⊥

-- among the items, after those read
pub record FromItems (kind : FileKind) (limit : ℕ) (m : Molecule) (is : List Item) (t : List Line) (rs : List Raw) : Type 0 where
  pub js : List Item
  pub u : List Line
  pub ys : List Raw
  pub here : Items t js u
  pub after : FromFirst kind limit u ys
  pub all : rs ≡ record { molecule = m; items = is ++ js } ∷ ys

-- among the values of an item, after those read
pub record FromValues (kind : FileKind) (limit : ℕ) (m : Molecule) (is : List Item) (name : Bytes) (vs : List Line) (t : List Line) (rs : List Raw) : Type 0 where
  pub ws : List Line
  pub u : List Line
  pub here : Values t ws u
  pub after : FromItems kind limit m (is ++ (record { name = name; values = vs ++ ws } ∷ [])) u rs

-- after `M  END`
abbrev pub FromEnd : FileKind → ℕ → Molecule → List Line → List Raw → Type 0
FromEnd molfile limit m t rs = FromOver molfile m t rs
FromEnd sdfile limit m t rs = FromItems sdfile limit m [] t rs

-- among the property lines, after those read
pub record FromProperties (kind : FileKind) (limit : ℕ) (hs : Headers) (c : Counts) (xs : List Atom) (bs : List Bond) (ps : List Property)
    (t : List Line) (rs : List Raw) : Type 0 where
  pub qs : List Property
  pub u : List Line
  pub here : Properties c.atoms t qs u
  pub once : (k : Kind) → NoAtomTwice (listed k (ps ++ qs))
  pub after : FromEnd kind limit (record { headers = hs; counts = c; atoms = xs; bonds = bs; properties = ps ++ qs }) u rs

-- with so many bond lines owed, after the bonds read
pub record FromBonds (kind : FileKind) (limit : ℕ) (hs : Headers) (c : Counts) (xs : List Atom) (k : ℕ) (bs : List Bond)
    (t : List Line) (rs : List Raw) : Type 0 where
  pub ys : List Bond
  pub u : List Line
  pub here : Bonds c.atoms k t ys u
  pub once : NoPairTwice (bs ++ ys)
  pub after : FromProperties kind limit hs c xs (bs ++ ys) [] u rs

-- with so many atom lines owed, after the atoms read
pub record FromAtoms (kind : FileKind) (limit : ℕ) (hs : Headers) (c : Counts) (k : ℕ) (xs : List Atom) (t : List Line) (rs : List Raw) : Type 0 where
  pub ys : List Atom
  pub u : List Line
  pub here : Atoms c.atoms k t ys u
  pub after : FromBonds kind limit hs c (xs ++ ys) c.bonds [] u rs

abbrev pub FromCounts : FileKind → ℕ → Headers → List Line → List Raw → Type 0
FromCounts kind limit hs [] rs = ⊥
FromCounts kind limit hs (l ∷ t) rs = (c : Counts) × CountsLine limit l c × FromAtoms kind limit hs c c.atoms [] t rs

abbrev pub FromThird : FileKind → ℕ → Line → Line → List Line → List Raw → Type 0
FromThird kind limit h₁ h₂ [] rs = ⊥
FromThird kind limit h₁ h₂ (l ∷ t) rs = HeaderLine l × FromCounts kind limit (record { first = h₁; second = h₂; third = l }) t rs

abbrev pub FromSecond : FileKind → ℕ → Line → List Line → List Raw → Type 0
FromSecond kind limit h₁ [] rs = ⊥
FromSecond kind limit h₁ (l ∷ t) rs = HeaderLine l × FromThird kind limit h₁ l t rs

-- parts 1 to 5, and what follows them in a file of the kind
pub record FromParts (kind : FileKind) (limit : ℕ) (t : List Line) (rs : List Raw) : Type 0 where
  pub m : Molecule
  pub u : List Line
  pub here : Parts1to5 limit t m u
  pub after : FromEnd kind limit m u rs

-- the lines may follow the place, and then the records that end in them are rs
abbrev pub From : FileKind → ℕ → Place → List Line → List Raw → Type 0
From kind limit first t rs = FromFirst kind limit t rs
From kind limit (second h₁) t rs = FromSecond kind limit h₁ t rs
From kind limit (third h₁ h₂) t rs = FromThird kind limit h₁ h₂ t rs
From kind limit (counts hs) t rs = FromCounts kind limit hs t rs
From kind limit (atoms hs c k xs) t rs = FromAtoms kind limit hs c (suc k) xs t rs
From kind limit (bonds hs c xs k bs) t rs = FromBonds kind limit hs c xs (suc k) bs t rs
From kind limit (properties hs c xs bs ps) t rs = FromProperties kind limit hs c xs bs ps t rs
From kind limit (over m) t rs = FromOver kind m t rs
From kind limit (items m is) t rs = FromItems kind limit m is t rs
From kind limit (values m is name vs) t rs = FromValues kind limit m is name vs t rs

-- what a turn leaves to follow
abbrev pub Left : FileKind → ℕ → Turn → List Line → List Raw → Type 0
Left kind limit (next q) t rs = From kind limit q t rs
Left kind limit (done x) t rs = (ys : List Raw) × FromFirst kind limit t ys × (rs ≡ x ∷ ys)
