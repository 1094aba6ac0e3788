-- The two loops of a look; and one answer for every text and name.
use Rattle.std.specs.Prelude.{ℕ, ◌≡◌}
use Rattle.std.proofs.Common.{sym}
use Rattle.std.proofs.Math.Path.{ap}
use Rattle.reader_look.specs.declared.Sought.{Sought}
use Rattle.reader_look.specs.Look.{keep_first}
use Rattle.reader_look.specs.Looking.{first_new, kept_named, kept_other}

-- ---- The small functions

module _ (q : Sought) (from to : ℕ) where
  pub first_kept : (a b : ℕ) → q ≡ Sought.At a b → Sought.At a b ≡ keep_first q from to
  unfolding keep_first
  first_kept a b h = ap (λ (x : Sought). keep_first x from to) (sym h)

pub ruleset keep_laws = (first_kept, first_new, kept_named, kept_other)
