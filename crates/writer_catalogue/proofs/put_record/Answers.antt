-- `writer_catalogue::put_record` meets its contract.
use borrow.Author.Rules.{rules}
use Rattle.writer_catalogue.specs.Writing.{put_ready, put_fits, put_laid}
use Rattle.writer_catalogue.proofs.put_record.Goals as goal

pub lay_record-requires : goal.lay_record-requires
lay_record-requires c = search (rules, put_ready)

pub overflow_add-result : goal.overflow_add-result
overflow_add-result c = search (rules, put_fits)

pub returns : goal.returns
returns c = search (rules, put_laid)
