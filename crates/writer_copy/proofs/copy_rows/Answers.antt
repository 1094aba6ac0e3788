-- `writer_copy::copy_rows` meets its contract.
use Rattle.writer_copy.specs.Copying.{rows_readable, rows_copied}
use borrow.Author.Rules.{rules}
use Rattle.writer_copy.proofs.copy_rows.Goals as goal

pub put_got-requires : goal.put_got-requires
put_got-requires c = search rows_readable

pub returns : goal.returns
returns c = search rows_copied
