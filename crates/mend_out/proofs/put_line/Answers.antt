use Rattle.mend_out.specs.Out.{out_laws}
use borrow.Author.Rules.{rules}
use Rattle.mend_out.proofs.put_line.Goals as goal

pub laid-requires : goal.laid-requires
laid-requires c = search (rules, out_laws)

pub returns : goal.returns
returns c = search (rules, out_laws)
