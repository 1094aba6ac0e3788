use Rattle.mend_out.specs.Out.{out_laws}
use borrow.Author.Rules.{rules}
use Rattle.mend_out.proofs.note.Goals as goal

pub returns : goal.returns
returns c = search (rules, out_laws)
