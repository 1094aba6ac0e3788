-- `line_usual_position::decimals` meets its contract.
use borrow.Author.Rules.{rules}
use Rattle.field_numbers.specs.Number.{decimal_after}
use Rattle.line_usual_position.specs.Usual.{decimals_of}
use Rattle.line_usual_position.proofs.decimals.Goals as goal

pub returns : goal.returns
unfolding decimals_of decimal_after
returns c = search rules
