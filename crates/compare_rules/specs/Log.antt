-- A lent list that fills with differences, seven numbers each, as far as it has room; and how many there were, up to 2 ^ 60. Some may be passed over first.
use Rattle.std.specs.Prelude.{ℕ, zero, suc, ◌+◌, ◌*◌, ◌/◌, ◌^◌, ◌<◌, List, [], ◌∷◌, cond, ltb, length, ℤ}
use Rattle.std.proofs.lemmas.List.Edits.{sets}
use Rattle.compare_rules.specs.declared.Place.{Place}
use Rattle.compare_rules.specs.declared.Count.{Count}
use Rattle.compare_rules.specs.Differences.{Difference, row}

pub record Log : Type 0 where
  pub list : List ℤ
  pub count : Count

abbrev pub log : List ℤ → Count → Log
log l c = record { list = l; count = c }

-- none is passed over any more
abbrev pub seen : ℕ → Count
seen k = record { skip = 0; seen = k }

-- no list has room for 2 ^ 60
unfoldable pub up : ℕ → ℕ
up k = cond (ltb k (2 ^ 60)) (k + 1) k

-- row k, where there is room for it
unfoldable pub put_at : List ℤ → ℕ → List ℤ → List ℤ
put_at l k t = cond (ltb k (length l / 7)) (sets l (7 * k) t) l

-- one difference: passed over, or put and counted
abbrev pub one : List ℤ → ℕ → ℕ → Difference → Log
one l zero k d = log (put_at l k (row d)) (seen (up k))
one l (suc s) k d = log l (record { skip = s; seen = k })

unfoldable pub noted : Log → List Difference → Log
noted g [] = g
noted g (d ∷ ds) = noted (one g.list g.count.skip g.count.seen d) ds

-- numbers that an i64 holds
pub record Small (p : Place) : Type 0 where
  pub position : p.position < 2 ^ 63
  pub part : p.part < 2 ^ 63
  pub index : p.index < 2 ^ 63
  pub field : p.field < 2 ^ 63
