-- The symbols in a table of atoms, and how many there are of each.
use Rattle.std.specs.Prelude.{ℕ, zero, suc, ◌+◌, ◌*◌, List, [], ◌∷◌, Bool, true, cond, ◌&&◌, eqb, leb, get_or, set, ℤ, pos, negsuc}
use Rattle.formula_rules.specs.Formula.{elements}
use Rattle.formula_rules.specs.Sums.{sat}

-- no symbol is below zero
abbrev pub plain : ℤ → ℕ
plain (pos k) = k
plain (negsuc k) = 0

-- an atom has sixteen numbers, and its symbol is the fourth
abbrev pub symbol_at : List ℤ → ℕ → ℕ
symbol_at t i = plain (get_or t (16 * i + 3) (pos 0))

-- of n atoms, the first of them atom i
unfoldable pub symbols_from : List ℤ → ℕ → ℕ → List ℕ
symbols_from t i zero = []
symbols_from t i (suc n) = symbol_at t i ∷ symbols_from t (i + 1) n

unfoldable pub only_elements : List ℕ → Bool
only_elements [] = true
only_elements (k ∷ ks) = leb k elements && only_elements ks

-- how many of these symbols are j
unfoldable pub how_many : List ℕ → ℕ → ℕ
how_many [] j = 0
how_many (k ∷ ks) j = cond (eqb k j) 1 0 + how_many ks j

-- added to a table, one after the other, up to the first that is no element
unfoldable pub tallied : List ℕ → List ℕ → List ℕ
tallied [] t = t
tallied (k ∷ ks) t = cond (leb k elements) (tallied ks (set t k (sat (get_or t k 0 + 1)))) t
