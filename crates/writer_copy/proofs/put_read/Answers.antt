-- `writer_copy::put_read` meets its contract.
use borrow.Author.Rules.{rules}
use Rattle.writer_copy.specs.Copying.{sure_ready, sure_done}
use Rattle.writer_copy.proofs.put_read.Goals as goal

pub lay_record-requires : goal.lay_record-requires
lay_record-requires c = search (rules, sure_ready)

pub returns-then-suffices : goal.returns-then-suffices
returns-then-suffices c = search (rules, sure_done)
