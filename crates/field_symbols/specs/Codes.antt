-- The names as numbers: three bytes are one number, the first lowest, so that the code compares them at once.
use Rattle.std.specs.Prelude.{Option, Some, None, ℕ, suc, ◌+◌, ◌*◌, List, [], ◌∷◌, map, cond, eqb, get_or}
use Rattle.text.specs.Text.{Bytes, bytes}
use Rattle.text.specs.Columns.{columns}
use Rattle.field_symbols.specs.Symbol.{names}

abbrev pub code_of : Bytes → ℕ
code_of cs = get_or cs 0 0 + get_or cs 1 0 * 256 + get_or cs 2 0 * 65536

unfoldable pub codes : List ℕ
codes = map (λ s. code_of (columns (bytes s) 1 3)) names

-- the number of the first entry that is x, where the first entry has number k
unfoldable pub number_of : ℕ → ℕ → List ℕ → Option ℕ
number_of x k [] = None
number_of x k (y ∷ ys) = cond (eqb y x) (Some k) (number_of x (suc k) ys)
