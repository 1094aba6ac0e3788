-- `writer_copy::copy_record` meets its contract.
use Rattle.writer_copy.specs.Copying.{copy_readable, copy_done}
use borrow.Author.Rules.{rules}
use Rattle.writer_copy.proofs.copy_record.Goals as goal

pub put_got-requires : goal.put_got-requires
put_got-requires c = search copy_readable

pub returns : goal.returns
returns c = search copy_done
