use Rattle.capellanote.specs.Compare.{files_array}
use borrow.Author.Rules.{rules}
use Rattle.capellanote.proofs.compare.of_files.Goals as goal

pub returns-in-Ok : goal.returns-in-Ok
returns-in-Ok c = search (rules, files_array)

pub returns-in-Err : goal.returns-in-Err
returns-in-Err c = search (rules, files_array)
