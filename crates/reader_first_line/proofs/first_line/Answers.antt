use Rattle.reader_first_line.specs.Agree.{first_laws}
use borrow.Author.Rules.{rules}
use Rattle.reader_first_line.proofs.first_line.Goals as goal

pub returns-in-Item : goal.returns-in-Item
returns-in-Item c = search (rules, first_laws)

pub returns-in-Refused : goal.returns-in-Refused
returns-in-Refused c = search (rules, first_laws)
