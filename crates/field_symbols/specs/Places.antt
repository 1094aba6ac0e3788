-- Where a symbol is looked for: the first letter tells a row, the second a place in it. Computed from the names but for where the rows start.
use Rattle.std.specs.Prelude.{ℕ, zero, suc, ◌+◌, ◌*◌, ◌/◌, ◌%◌, List, [], ◌∷◌, cond, eqb, get_or}
use Rattle.field_symbols.specs.Symbol.{symbols_all}
use Rattle.field_symbols.specs.Codes.{codes}

-- what a `match` answers: of the first pair that begins with s, or else d
unfoldable pub pick : ℕ → ℕ → List (ℕ × ℕ) → ℕ
pick d s [] = d
pick d s (e ∷ es) = cond (eqb e.0 s) e.1 (pick d s es)

-- where the row of each first letter starts: chosen so that no two symbols have one place
unfoldable pub rows : List (ℕ × ℕ)
rows =
    (0, 0) ∷ (1, 23) ∷ (2, 100) ∷ (3, 0) ∷ (4, 30) ∷ (5, 95) ∷ (6, 69) ∷ (7, 122) ∷
    (8, 88) ∷ (9, 92) ∷ (10, 51) ∷ (11, 99) ∷ (12, 103) ∷ (13, 82) ∷ (14, 75) ∷ (15, 10) ∷
    (16, 7) ∷ (17, 3) ∷ (18, 32) ∷ (19, 45) ∷ (20, 59) ∷ (21, 24) ∷ (22, 2) ∷ (23, 31) ∷
    (24, 11) ∷ (25, 120) ∷ (26, 52) ∷ (27, 0) ∷ (28, 0) ∷ (29, 0) ∷ (30, 0) ∷ (31, 0) ∷
    []

-- divided by 32, a letter leaves its number in the alphabet; a space leaves 0
unfoldable pub place_of : ℕ → ℕ
place_of x = pick 0 (x % 32) rows + x / 256 % 32

unfoldable pub entries_from : ℕ → List ℕ → List (ℕ × ℕ)
entries_from k [] = []
entries_from k (x ∷ xs) = (place_of x, x * 256 + k) ∷ entries_from (suc k) xs

-- each code with its number, at its place
unfoldable pub entries : List (ℕ × ℕ)
entries = entries_from 1 codes

-- what is answered where no symbol stands: an entry as good as any
abbrev pub carbon_entry : ℕ
carbon_entry = 0x20204306

-- ---- For writing: the first two bytes of four symbols as one number

abbrev pub two_of : ℕ → ℕ
two_of i = get_or codes i 0 % 65536

unfoldable pub word_of : ℕ → ℕ
word_of j = two_of (4 * j) + two_of (4 * j + 1) * 65536 + two_of (4 * j + 2) * 4294967296 + two_of (4 * j + 3) * 281474976710656

unfoldable pub words_from : ℕ → ℕ → List (ℕ × ℕ)
words_from j zero = []
words_from j (suc n) = (j, word_of j) ∷ words_from (suc j) n

unfoldable pub words : List (ℕ × ℕ)
words = words_from 0 ((symbols_all + 3) / 4)
