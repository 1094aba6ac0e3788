-- `writer_catalogue::measure_record` meets its contract.
use borrow.Author.Rules.{rules}
use Rattle.writer_catalogue.specs.Sizes.{size_laws}
use Rattle.writer_catalogue.proofs.measure_record.Goals as goal

pub returns-then-room-needed : goal.returns-then-room-needed
returns-then-room-needed c = search (rules, size_laws)
