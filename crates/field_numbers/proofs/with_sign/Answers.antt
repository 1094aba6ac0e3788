-- `field_numbers::with_sign` meets its contract.
use borrow.Author.Rules.{rules}
use native.Mathlib.Omega.{arith}
use mathlib.Core.Path.{sym, ap, ◌∙◌}
use mathlib.Core.Bool.{Bool}
use Rattle.field_numbers.specs.Read.{signed}
use mir.Syntax.{w32}
use mir.Facts.{to_z_pos}
use Rattle.field_numbers.proofs.Signs.{negated_fits, negated}
use Rattle.field_numbers.proofs.with_sign.Goals as goal

pub overflow_sub-result : goal.overflow_sub-result
overflow_sub-result c = negated_fits w32 {n = c.args.k} (omega arith)

pub returns-then-minus : goal.returns-then-minus
returns-then-minus c = negated w32 {n = c.args.k} (omega arith) ∙ ap (λ (b : Bool). signed b c.args.k) (sym c.if-minus.true)

pub returns-else-minus : goal.returns-else-minus
returns-else-minus c = to_z_pos w32 {n = c.args.k} (omega arith) ∙ ap (λ (b : Bool). signed b c.args.k) (sym c.if-minus.false)
