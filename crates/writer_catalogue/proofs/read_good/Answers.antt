-- `writer_catalogue::read_good` meets its contract.
use borrow.Author.Rules.{rules}
use Rattle.writer_catalogue.specs.Writing.{again_laws}
use Rattle.writer_catalogue.proofs.read_good.Goals as goal

pub returns-in-Read : goal.returns-in-Read
returns-in-Read c = search (rules, again_laws)

pub returns-in-Refused : goal.returns-in-Refused
returns-in-Refused c = search (rules, again_laws)
