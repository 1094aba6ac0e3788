-- `line_judged::find` meets its contract.
use borrow.Author.Rules.{rules}
use Prim.Native.Nat.{◌-◌}
use lib.ListN.{length}
use Rattle.line_judged.proofs.Looking.{Seeking, seeking_laws}
use Rattle.line_judged.proofs.find.Goals as goal

pub loop-i-init : goal.loop-i-init
loop-i-init c = search (rules, seeking_laws)

pub bounds-line-i : goal.bounds-line-i
bounds-line-i c = search (rules, seeking_laws)

pub returns-then-line-i : goal.returns-then-line-i
returns-then-line-i c = search (rules, seeking_laws)

pub overflow_add-i : goal.overflow_add-i
overflow_add-i c = search (rules, seeking_laws)

pub loop-i-smaller : goal.loop-i-smaller
loop-i-smaller c = search (rules, seeking_laws)

pub loop-i-preserved : goal.loop-i-preserved
loop-i-preserved c = search (rules, seeking_laws)
