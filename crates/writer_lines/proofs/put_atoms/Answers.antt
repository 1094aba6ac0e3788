-- `writer_lines::put_atoms` meets its contract.
use borrow.Author.Rules.{rules}
use Rattle.writer_lines.specs.Walks.{laying_laws}
use Rattle.writer_lines.proofs.put_atoms.Goals as goal

pub loop-i-init : goal.loop-i-init
loop-i-init c = search (rules, laying_laws)

pub loop-i-preserved : goal.loop-i-preserved
loop-i-preserved c = search (rules, laying_laws)

pub returns : goal.returns
returns c = search (rules, laying_laws)
