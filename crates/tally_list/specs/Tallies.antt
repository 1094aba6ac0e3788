-- The place of a name in a list of tallies, and a place made there.
use Rattle.std.specs.Prelude.{ℕ, zero, suc, ◌+◌, List, [], ◌∷◌, Bool, cond, get_or, set}
use Rattle.text.specs.Text.{Bytes}
use Rattle.tally_rules.specs.declared.Tally.{Tally}
use Rattle.tally_rules.specs.Tally.{order, name_of}
use Rattle.tally_good.specs.Judge as J
use Rattle.tally_flat.specs.Slots.{no_tally}

unfoldable pub is_before : Tally → Bytes → Bool
is_before t n = J.is_before (order (name_of t) n)

unfoldable pub place_from : Bytes → ℕ → List Tally → ℕ
place_from n i [] = i
place_from n i (t ∷ ts) = cond (is_before t n) (place_from n (suc i) ts) i

-- k tallies from place `from` on, the last first, each one place up
unfoldable pub shifted : ℕ → ℕ → List Tally → List Tally
shifted zero from ts = ts
shifted (suc k) from ts = shifted k from (set ts (suc (from + k)) (get_or ts (from + k) no_tally))
