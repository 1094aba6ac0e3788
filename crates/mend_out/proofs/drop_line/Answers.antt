use Rattle.mend_out.specs.Out.{out_laws}
use borrow.Author.Rules.{rules}
use Rattle.mend_out.proofs.drop_line.Goals as goal

pub passed-requires : goal.passed-requires
passed-requires c = search (rules, out_laws)

pub returns : goal.returns
returns c = search (rules, out_laws)
