-- The table of listed numbers, lent to the reader: a place for each kind and atom, 0 where the atom is not listed, else its number and 16 more.
use Rattle.std.specs.Prelude.{ℕ, zero, suc, ◌+◌, ◌-◌, ◌*◌, ◌≤◌, ◌≡◌, List, [], ◌∷◌, cond, eqb, get_or, set, length, ℤ, pos, negsuc}
use Rattle.rules.specs.Forms.{Kind, CHG, RAD, ISO, Entry, Property}
use Rattle.rules.specs.Record.{listed, limit}

-- places of one kind: atoms 0 to the limit
abbrev pub places : ℕ
places = suc limit

abbrev pub base : Kind → ℕ
base CHG = 0
base RAD = places
base ISO = 2 * places

-- where the number of an atom stands
abbrev pub slot : Kind → ℕ → ℕ
slot kind atom = base kind + atom

-- a number as the table keeps it; the least one is -15
abbrev pub noted : ℤ → ℕ
noted (pos k) = k + 16
noted (negsuc k) = 15 - k

-- the table after these entries of a kind
unfoldable pub enter : Kind → List ℕ → List Entry → List ℕ
enter kind t [] = t
enter kind t (e ∷ es) = enter kind (set t (slot kind e.atom) (noted e.number)) es

-- the table with nothing listed for the atoms before k
unfoldable pub emptied : ℕ → List ℕ → List ℕ
emptied zero t = t
emptied (suc k) t = set (set (set (emptied k t) k 0) (places + k) 0) (2 * places + k) 0

-- the atoms from 1 to n that the table lists
unfoldable pub listed_to : Kind → List ℕ → ℕ → List ℕ
listed_to kind t zero = []
listed_to kind t (suc a) = cond (eqb (get_or t (slot kind (suc a)) 0) 0) (listed_to kind t a) (suc a ∷ listed_to kind t a)

abbrev pub seen_of : ℕ → List ℕ → Kind → List ℕ
seen_of n t kind = listed_to kind t n

-- what the table keeps for an atom among these entries
unfoldable pub noted_in : List Entry → ℕ → ℕ
noted_in [] atom = 0
noted_in (e ∷ es) atom = cond (eqb e.atom atom) (noted e.number) (noted_in es atom)

-- the table shows the property lines of a record of n atoms
pub record Shows (n : ℕ) (t : List ℕ) (ps : List Property) : Type 0 where
  pub size : length t ≡ 3 * places
  pub each : (kind : Kind) (atom : ℕ) → atom ≤ n → get_or t (slot kind atom) 0 ≡ noted_in (listed kind ps) atom
