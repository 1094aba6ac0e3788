-- `line_counts_bonds::centre_allowed` meets its contract.
use native.Mathlib.Omega.{arith}
use mathlib.Core.Path.{ap, ◌∙◌}
use lib.IntN.{ℤ, nat_abs}
use Rattle.judge_line.specs.Field.{elem}
use Rattle.line_counts_bonds.specs.Answer.{next_centres}
use Rattle.line_counts_bonds.specs.Lists.{next_fits, next_number, next_small, centre_next}
use borrow.Author.Rules.{rules}
use Rattle.line_counts_bonds.proofs.centre_allowed.Goals as goal

pub overflow_add-centre : goal.overflow_add-centre
overflow_add-centre c = next_fits c.args.centre c.requires c.ranges.centre

pub overflow_cast-centre : goal.overflow_cast-centre
overflow_cast-centre c = rw (next_number c.args.centre c.requires c.ranges.centre) (tt, record { fits = omega (arith, next_small c.args.centre c.requires) })

pub returns : goal.returns
returns c = c.next_allowed.ensures
    ∙ ap (λ (z : ℤ). elem (nat_abs z) next_centres) (next_number c.args.centre c.requires c.ranges.centre)
    ∙ centre_next c.args.centre c.requires
