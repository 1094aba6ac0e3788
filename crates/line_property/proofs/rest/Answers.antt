-- `line_property::rest` meets its contract.
use Rattle.std.specs.Prelude.{Some, None}
use Rattle.line_property.specs.Entering.{rest_good, rest_ink}
use borrow.Author.Rules.{rules}
use Rattle.line_property.proofs.rest.Goals as goal

pub returns-in-None : goal.returns-in-None
returns-in-None c = search (rules, rest_good)

pub returns-in-Some : goal.returns-in-Some
returns-in-Some c = search (rules, rest_ink)
