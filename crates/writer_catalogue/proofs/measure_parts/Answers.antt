-- `writer_catalogue::measure_parts` meets its contract.
use borrow.Author.Rules.{rules}
use Rattle.writer_catalogue.specs.Sizes.{size_laws}
use Rattle.writer_catalogue.proofs.measure_parts.Goals as goal

pub overflow_add-result : goal.overflow_add-result
overflow_add-result c = search (rules, size_laws)

pub returns-in-Ok : goal.returns-in-Ok
returns-in-Ok c = search (rules, size_laws)

pub returns-in-Err : goal.returns-in-Err
returns-in-Err c = search (rules, size_laws)
