-- The place of a lot that the store has.
use Rattle.std.specs.Prelude.{suc, ◌<◌, ◌≡◌, [], ◌∷◌, Bool, true, false, cond, length}
use Rattle.std.proofs.Common.{arith}
use Rattle.std.proofs.lemmas.Bool.{false≢true}
use Rattle.store_log.specs.Log.{Bytes}
use Rattle.store_log.specs.Store.{Store, same_bytes, known, place_of}

pub place_below : (k : Bytes) (ls : Store) → known k ls ≡ true → place_of k ls < length ls
unfolding known place_of
place_below k [] h = absurd (false≢true h)
place_below k (l ∷ ls) h = go (same_bytes k l.key) h (place_below k ls)
  where
    go : (b : Bool) → cond b true (known k ls) ≡ true → (known k ls ≡ true → place_of k ls < length ls) → cond b 0 (suc (place_of k ls)) < suc (length ls)
    go true q again = omega arith
    go false q again = let l = again q in omega arith
