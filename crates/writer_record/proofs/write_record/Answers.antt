-- `writer_record::write_record` meets its contract.
use Rattle.writer_record.specs.Measure.{ready_by}
use Rattle.writer_record.specs.Promise.{promise_done, promise_refused}
use borrow.Author.Rules.{rules}
use Rattle.writer_record.proofs.write_record.Goals as goal

pub lay_record-requires : goal.lay_record-requires
lay_record-requires c = search (rules, ready_by)

pub returns-in-Ok : goal.returns-in-Ok
returns-in-Ok c = search (rules, promise_done)

pub returns-in-Err : goal.returns-in-Err
returns-in-Err c = search (rules, promise_refused)
