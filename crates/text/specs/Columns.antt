-- The columns of a line, counted from 1. A column past the end of the line reads as a space.
use Rattle.std.specs.Prelude.{ℕ, zero, suc, ◌-◌, ◌≤◌, ◌≡◌, List, [], ◌∷◌, get_or, length, replicate, drop}
use Prim.Native.String.{String}
use Rattle.text.specs.Text.{Bytes, Line, bytes, byte, Each}

-- `column l 31` is column 31 of l
abbrev pub column : Line → ℕ → ℕ
column l i = get_or l (i - 1) (byte " ")

unfoldable pub columns_for : Line → ℕ → ℕ → Bytes
columns_for l i zero = []
columns_for l i (suc width) = column l i ∷ columns_for l (suc i) width

-- `columns l 7 9` are columns 7, 8 and 9 of l
abbrev pub columns : Line → ℕ → ℕ → Bytes
columns l i j = columns_for l i (suc j - i)

abbrev pub spaces : ℕ → Bytes
spaces k = replicate k (byte " ")

abbrev pub Space : ℕ → Type 0
Space b = b ≡ byte " "

-- a blank line is empty or spaces only
abbrev pub Blank : Line → Type 0
Blank l = Each Space l

-- column i and all after it are spaces
abbrev pub SpacesFrom : Line → ℕ → Type 0
SpacesFrom l i = Each Space (drop (i - 1) l)

-- the line has this text in columns i to j
abbrev pub Has : Line → ℕ → ℕ → String → Type 0
Has l i j text = columns l i j ≡ bytes text

-- allowed bytes are 32 to 126
abbrev pub Allowed : ℕ → Type 0
Allowed b = (32 ≤ b) × (b ≤ 126)

-- a line of allowed bytes, so many at most
pub record Within (longest : ℕ) (l : Line) : Type 0 where
  pub short : length l ≤ longest
  pub allowed : Each Allowed l
