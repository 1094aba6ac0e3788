-- `writer_catalogue::write_next` meets its contract.
use borrow.Author.Rules.{rules}
use Rattle.writer_catalogue.specs.Writing.{wrote_laws}
use Rattle.writer_catalogue.proofs.write_next.Goals as goal

pub put_record-requires : goal.put_record-requires
put_record-requires c = search (rules, wrote_laws)

pub returns : goal.returns
returns c = record { wrote_next = search wrote_laws; beside = search wrote_laws; beside_2 = search wrote_laws }
