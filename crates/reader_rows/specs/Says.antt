-- Rows of bits that say which atoms are bonded: a row for each atom, 16 words of 64 bits, atom 1 the lowest bit of the first word.
use Rattle.std.specs.Prelude.{ℕ, ◌*◌, ◌≤◌, ◌<◌, ◌^◌, ◌≡◌, List, [], ◌∷◌, ◌++◌, Bool, true, false, cond, ◌&&◌, ◌||◌, eqb, get_or, drop, replicate}
use Rattle.rules.specs.Forms.{Bond}
use Rattle.rules.specs.Record.{limit}
use Rattle.sets_words.specs.Bits.{has_bit, in_row}

-- the words of as many rows as a record may have atoms
abbrev pub row_places : ℕ
row_places = 16 * limit

-- the bond joins a and b, in either direction
abbrev pub joins : ℕ → ℕ → Bond → Bool
joins a b c = (eqb a c.first && eqb b c.second) || (eqb a c.second && eqb b c.first)

-- a bond of the list joins a and b
unfoldable pub joined : ℕ → ℕ → List Bond → Bool
joined a b [] = false
joined a b (c ∷ cs) = cond (joins a b c) true (joined a b cs)

-- rows and list say the same pairs, in all bits of all rows
pub record Says (ws : List ℕ) (bs : List Bond) : Type 0 where
  pub words : (i : ℕ) → i < row_places → get_or ws i 0 < 2 ^ 64
  pub pairs : (a b : ℕ) → 1 ≤ a → a ≤ limit → 1 ≤ b → b ≤ 1024 → has_bit ws (in_row a b) ≡ joined a b bs

-- rows that say nothing, and what stood past them before
unfoldable pub emptied : List ℕ → List ℕ
emptied ws = replicate row_places 0 ++ drop row_places ws
