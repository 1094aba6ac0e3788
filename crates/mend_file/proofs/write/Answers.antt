use Rattle.mend_file.specs.Promised.{promise_laws}
use borrow.Author.Rules.{rules}
use Rattle.mend_file.proofs.write.Goals as goal

pub returns-then-room-length : goal.returns-then-room-length
returns-then-room-length c = search (rules, promise_laws)

pub returns-then-list-repairs : goal.returns-then-list-repairs
returns-then-list-repairs c = search (rules, promise_laws)

pub returns : goal.returns
returns c = search (rules, promise_laws)
