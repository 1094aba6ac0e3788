use Rattle.mend_out.specs.Out.{keep_laws}
use borrow.Author.Rules.{rules}
use Rattle.mend_out.proofs.keep_line.Goals as goal

pub end_line-requires : goal.end_line-requires
end_line-requires c = search (rules, keep_laws)

pub returns-then-p : goal.returns-then-p
returns-then-p c = search (rules, keep_laws)

pub passed-requires : goal.passed-requires
passed-requires c = search (rules, keep_laws)

pub returns : goal.returns
returns c = search (rules, keep_laws)
