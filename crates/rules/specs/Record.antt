-- The format: which lines are a molfile or an SDfile, and which records they stand for.
-- `Part lines value rest` reads: the lines start with such a part, it stands for the value, and the rest comes after it.
use Rattle.std.specs.Prelude.{ℕ, suc, ◌*◌, ◌≡◌, ◌≢◌, List, [], ◌∷◌, ◌++◌, cond}
use Rattle.text.specs.Text.{Bytes, Line, Lines}
use Rattle.rules.specs.Forms.{FirstHeaderLine, HeaderLine, Counts, CountsLine, Atom, AtomLine, Bond, BondLine}
use Rattle.rules.specs.Forms.{Kind, same_kind, Entry, Property, PropertyLine, EndLine, DataHeader, BlankLine, ValueLine, RecordEnd}

-- ---- What a record holds, as written; `Meaning` says what its codes come to

pub record Headers : Type 0 where
  pub first : Line
  pub second : Line
  pub third : Line

pub record Molecule : Type 0 where
  pub headers : Headers
  pub counts : Counts
  pub atoms : List Atom
  pub bonds : List Bond
  pub properties : List Property

-- a data item: its name and its value lines
pub record Item : Type 0 where
  pub name : Bytes
  pub values : List Line

pub record Raw : Type 0 where
  pub molecule : Molecule
  pub items : List Item

-- ---- What may not stand twice

-- two bonds have the same two ends: 1-2 is the pair 2-1
pub data SamePair (b c : Bond) : Type 0 where
  along : b.first ≡ c.first → b.second ≡ c.second → SamePair b c
  against : b.first ≡ c.second → b.second ≡ c.first → SamePair b c

-- none of these bonds has the same two ends as b
unfoldable pub NewPair : Bond → List Bond → Type 0
NewPair b [] = Unit {0}
NewPair b (c ∷ cs) = ¬ SamePair b c × NewPair b cs

-- any two of these bonds differ in their ends
unfoldable pub NoPairTwice : List Bond → Type 0
NoPairTwice [] = Unit {0}
NoPairTwice (b ∷ bs) = NewPair b bs × NoPairTwice bs

-- what the lines of one kind list, taken together
unfoldable pub listed : Kind → List Property → List Entry
listed k [] = []
listed k (p ∷ ps) = cond (same_kind k p.kind) p.entries [] ++ listed k ps

-- no entry is of this atom
unfoldable pub NotListed : ℕ → List Entry → Type 0
NotListed atom [] = Unit {0}
NotListed atom (e ∷ es) = (atom ≢ e.atom) × NotListed atom es

-- any two of these entries are of different atoms
unfoldable pub NoAtomTwice : List Entry → Type 0
NoAtomTwice [] = Unit {0}
NoAtomTwice (e ∷ es) = NotListed e.atom es × NoAtomTwice es

-- ---- The parts of a record

-- k atom lines; n is the number of atoms of the record
pub data Atoms (n : ℕ) : ℕ → List Line → List Atom → List Line → Type 0 where
  none : {t : List Line} → Atoms n 0 t [] t
  more : {k : ℕ} {l : Line} {a : Atom} {t r : List Line} {xs : List Atom} →
      AtomLine n l a → Atoms n k t xs r → Atoms n (suc k) (l ∷ t) (a ∷ xs) r

-- k bond lines
pub data Bonds (n : ℕ) : ℕ → List Line → List Bond → List Line → Type 0 where
  none : {t : List Line} → Bonds n 0 t [] t
  more : {k : ℕ} {l : Line} {b : Bond} {t r : List Line} {bs : List Bond} →
      BondLine n l b → Bonds n k t bs r → Bonds n (suc k) (l ∷ t) (b ∷ bs) r

-- any number of property lines, then the line that ends them
pub data Properties (n : ℕ) : List Line → List Property → List Line → Type 0 where
  end : {l : Line} {t : List Line} → EndLine l → Properties n (l ∷ t) [] t
  more : {l : Line} {p : Property} {t r : List Line} {ps : List Property} →
      PropertyLine n l p → Properties n t ps r → Properties n (l ∷ t) (p ∷ ps) r

-- any number of value lines, then the blank line that ends the item
pub data Values : List Line → List Line → List Line → Type 0 where
  end : {l : Line} {t : List Line} → BlankLine l → Values (l ∷ t) [] t
  more : {l : Line} {t vs r : List Line} →
      ValueLine l → Values t vs r → Values (l ∷ t) (l ∷ vs) r

-- any number of items, then the line that ends the record
pub data Items : List Line → List Item → List Line → Type 0 where
  end : {l : Line} {t : List Line} → RecordEnd l → Items (l ∷ t) [] t
  more : {l : Line} {name : Bytes} {t u r vs : List Line} {is : List Item} →
      DataHeader l name → Values t vs u → Items u is r →
      Items (l ∷ t) (record { name = name; values = vs } ∷ is) r

-- a molecule: all of a record but its items. Neither count is above the limit.
pub data Parts1to5 (limit : ℕ) : List Line → Molecule → List Line → Type 0 where
  parts : {h₁ h₂ h₃ l : Line} {c : Counts} {t u v r : List Line} {xs : List Atom} {bs : List Bond} {ps : List Property} →
      FirstHeaderLine h₁ → HeaderLine h₂ → HeaderLine h₃ →
      CountsLine limit l c →
      Atoms c.atoms c.atoms t xs u →
      Bonds c.atoms c.bonds u bs v →
      NoPairTwice bs →
      Properties c.atoms v ps r →
      ((k : Kind) → NoAtomTwice (listed k ps)) →
      Parts1to5 limit (h₁ ∷ h₂ ∷ h₃ ∷ l ∷ t)
      (record { headers = record { first = h₁; second = h₂; third = h₃ }; counts = c; atoms = xs; bonds = bs; properties = ps }) r

-- ---- Files

-- one molecule, and no line after it
pub data Molfile (limit : ℕ) : List Line → Raw → Type 0 where
  molfile : {t : List Line} {m : Molecule} →
      Parts1to5 limit t m [] → Molfile limit t (record { molecule = m; items = [] })

-- a molecule with its items
pub data Record (limit : ℕ) : List Line → Raw → List Line → Type 0 where
  record_of : {t u r : List Line} {m : Molecule} {is : List Item} →
      Parts1to5 limit t m u → Items u is r → Record limit t (record { molecule = m; items = is }) r

-- any number of records, also none
pub data SDfile (limit : ℕ) : List Line → List Raw → Type 0 where
  none : SDfile limit [] []
  more : {t u : List Line} {x : Raw} {xs : List Raw} →
      Record limit t x u → SDfile limit u xs → SDfile limit t (x ∷ xs)

-- the most atoms and the most bonds of a record; theorems hold for any limit that three columns can hold
abbrev pub limit : ℕ
limit = 999

-- the places of tables that hold so many: sixteen numbers to an atom, six to a bond
abbrev pub atom_places : ℕ
atom_places = 16 * limit

abbrev pub bond_places : ℕ
bond_places = 6 * limit

-- the text's complete lines are such a file, and nothing follows them
abbrev pub GoodMolfile : Bytes → Raw → Type 0
GoodMolfile text x = (ls : List Line) × Lines text ls [] × Molfile limit ls x

abbrev pub GoodSDfile : Bytes → List Raw → Type 0
GoodSDfile text xs = (ls : List Line) × Lines text ls [] × SDfile limit ls xs
