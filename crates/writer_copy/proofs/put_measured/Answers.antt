-- `writer_copy::put_measured` meets its contract.
use borrow.Author.Rules.{rules}
use Rattle.writer_copy.specs.Copying.{sound_small, sound_parts, sound_ready, sound_done, sound_refused}
use Rattle.writer_copy.proofs.put_measured.Goals as goal

pub measure_parts-requires : goal.measure_parts-requires
measure_parts-requires c = search (rules, sound_small, sound_parts)

pub lay_record-requires : goal.lay_record-requires
lay_record-requires c = search (rules, sound_ready)

pub returns-in-Ok : goal.returns-in-Ok
returns-in-Ok c = search (rules, sound_done)

pub returns-in-Err : goal.returns-in-Err
returns-in-Err c = search (rules, sound_refused)
