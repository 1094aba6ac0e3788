-- Whether a pair of atoms is bonded already: computed.
use Rattle.std.specs.Prelude.{List, [], ◌∷◌, Bool, true, false, cond, ◌&&◌, ◌||◌, eqb}
use Rattle.rules.specs.Forms.{Bond}

-- two bonds join the same pair of atoms, in either direction
abbrev pub same_pair : Bond → Bond → Bool
same_pair b c =
    (eqb b.first c.first && eqb b.second c.second) || (eqb b.first c.second && eqb b.second c.first)

-- the bond joins a pair that one of the list joins
unfoldable pub pair_taken : Bond → List Bond → Bool
pair_taken b [] = false
pair_taken b (c ∷ cs) = cond (same_pair b c) true (pair_taken b cs)
