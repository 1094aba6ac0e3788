-- `reader_check::check_sdfile` meets its contract.
use borrow.Author.Rules.{rules}
use Rattle.reader_check.specs.Answers.{sd_laws}
use Rattle.reader_check.proofs.check_sdfile.Goals as goal

pub returns-in-Over : goal.returns-in-Over
returns-in-Over c = search (rules, sd_laws)

pub returns-in-Short : goal.returns-in-Short
returns-in-Short c = search (rules, sd_laws)

pub returns-in-Refused : goal.returns-in-Refused
returns-in-Refused c = search (rules, sd_laws)
