-- `reader_file::read_at` meets its contract.
use borrow.Author.Rules.{rules}
use Rattle.reader_file.specs.Stepping.{step_laws}
use Rattle.reader_file.proofs.read_at.Goals as goal

pub past-requires : goal.past-requires
past-requires c = search (rules, step_laws)

pub line_of-requires : goal.line_of-requires
line_of-requires c = search (rules, step_laws)

pub returns-in-Read : goal.returns-in-Read
returns-in-Read c = search (rules, step_laws)

pub returns-in-Refused : goal.returns-in-Refused
returns-in-Refused c = search (rules, step_laws)
