-- Three columns looked up in the names, from the first name on. `Symbol` has the rule; `Agree` proves that they say the same.
use Rattle.std.specs.Prelude.{Option, Some, None, ℕ, suc, List, [], ◌∷◌, cond}
use Prim.Native.String.{String}
use Rattle.text.specs.Text.{Bytes, bytes}
use Rattle.text.specs.Columns.{columns}
use Rattle.text.specs.Find.{same_bytes}
use Rattle.field_symbols.specs.Symbol.{names}

-- among these names, of which the first has number k
unfoldable pub among : Bytes → ℕ → List String → Option ℕ
among cs k [] = None
among cs k (s ∷ ss) = cond (same_bytes cs (columns (bytes s) 1 3)) (Some k) (among cs (suc k) ss)

unfoldable pub symbol_in : Bytes → Option ℕ
symbol_in cs = among cs 1 names
