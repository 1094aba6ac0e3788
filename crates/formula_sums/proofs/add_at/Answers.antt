use Prim.Native.Nat.{ℕ}
use mathlib.Core.Path.{ap}
use lib.ListN.{set}
use Rattle.formula_sums.proofs.add_at.Goals as goal

pub returns : goal.returns
returns c = ap (λ (v : ℕ). set c.args.counts.now c.args.at v) c.capped-sum.ensures
