-- The number that a count stands for, where one stands.
use Rattle.std.specs.Prelude.{ℕ, ◌+◌, ◌*◌, ◌-◌, List, cond}
use Rattle.formula_rules.specs.Formula.{byte_at, is_digit}
use Rattle.formula_rules.specs.Parse.{symbol_end}

unfoldable pub count_value : List ℕ → ℕ → ℕ
count_value s a =
    cond (is_digit (byte_at s a))
    (cond (is_digit (byte_at s (a + 1)))
    (cond (is_digit (byte_at s (a + 2)))
    (100 * (byte_at s a - 48) + 10 * (byte_at s (a + 1) - 48) + (byte_at s (a + 2) - 48))
    (10 * (byte_at s a - 48) + (byte_at s (a + 1) - 48)))
    (byte_at s a - 48))
    1

-- of the symbol that starts here
unfoldable pub symbol_count : List ℕ → ℕ → ℕ
symbol_count s a = count_value s (symbol_end s a)
