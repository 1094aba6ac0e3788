use Rattle.mend_file.specs.Promised.{promise_laws}
use borrow.Author.Rules.{rules}
use Rattle.mend_file.proofs.mend_file.Goals as goal

pub write-requires : goal.write-requires
write-requires c = search (rules, promise_laws)

pub returns-in-Refused : goal.returns-in-Refused
returns-in-Refused c = search (rules, promise_laws)
