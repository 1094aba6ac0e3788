-- Keys and papers in memory: three words a key, one number a paper.
use Rattle.std.specs.Prelude.{ℕ, zero, suc, ◌+◌, List, Bool, cond, ◌&&◌, eqb, ltb, get_or, set}
use Rattle.store_event.specs.declared.Key.{Key}

abbrev pub Words : Type 0
Words = List ℕ

-- the lot at place i has this key
unfoldable pub same_key_at : Words → Key → ℕ → Bool
same_key_at keys k i = eqb (get_or keys (1024 + i) 0) k.second && (eqb (get_or keys (512 + i) 0) k.first && eqb (get_or keys i 0) k.supplier)

-- the first of n places from i on that has this key, and the place after them if none has
unfoldable pub place_from : Words → Key → ℕ → ℕ → ℕ
place_from keys k i zero = i
place_from keys k i (suc n) = cond (same_key_at keys k i) i (place_from keys k (i + 1) n)

-- at the place of a lot, among so many lots
unfoldable pub paper_at : Words → ℕ → ℕ → ℕ
paper_at papers lot lots = cond (ltb lot lots) (get_or papers lot 0) 0

unfoldable pub put_key : Words → ℕ → Key → Words
put_key keys i k = set (set (set keys i k.supplier) (512 + i) k.first) (1024 + i) k.second
