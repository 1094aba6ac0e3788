-- `field_numbers::any_signed` meets its contract.
use Rattle.std.specs.Prelude.{Some, None}
use Rattle.field_numbers.proofs.Fields.{range_laws}
use borrow.Author.Rules.{rules}
use Rattle.field_numbers_read.proofs.any_signed.Goals as goal

pub between-requires : goal.between-requires
between-requires c = search (rules, range_laws)

pub returns-in-Some : goal.returns-in-Some
returns-in-Some c = search (rules, range_laws)

pub returns-in-None : goal.returns-in-None
returns-in-None c = search (rules, range_laws)
