use Rattle.compare_files.specs.Pair.{shape_laws}
use borrow.Author.Rules.{rules}
use Rattle.compare_files.proofs.shape_of.Goals as goal

pub returns-in-Read : goal.returns-in-Read
returns-in-Read c = search (rules, shape_laws)

pub returns-in-Refused : goal.returns-in-Refused
returns-in-Refused c = search (rules, shape_laws)
