use Rattle.mend_out.specs.Out.{out_laws}
use borrow.Author.Rules.{rules}
use Rattle.mend_out.proofs.end_line.Goals as goal

pub note-n-requires : goal.note-n-requires
note-n-requires c = search (rules, out_laws)

pub laid-l-requires : goal.laid-l-requires
laid-l-requires c = search (rules, out_laws)

pub passed-requires : goal.passed-requires
passed-requires c = search (rules, out_laws)

pub returns : goal.returns
returns c = search (rules, out_laws)
