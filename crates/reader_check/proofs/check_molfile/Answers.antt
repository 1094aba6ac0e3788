-- `reader_check::check_molfile` meets its contract.
use borrow.Author.Rules.{rules}
use Rattle.reader_check.specs.Answers.{mol_laws}
use Rattle.reader_check.proofs.check_molfile.Goals as goal

pub returns-in-Whole : goal.returns-in-Whole
returns-in-Whole c = search mol_laws

pub returns-in-Refused : goal.returns-in-Refused
returns-in-Refused c = search mol_laws
