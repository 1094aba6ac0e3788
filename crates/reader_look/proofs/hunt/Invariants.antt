use borrow.Author.Rules.{rules}
use Prim.Native.Nat.{◌-◌}
use lib.ListN.{length}
use Rattle.reader_look.specs.Looking.{Looking, looking_laws}
use Rattle.reader_look.proofs.hunt.Given as goal

abbrev pub invariant-loop-name_from : goal.invariant-loop-name_from
invariant-loop-name_from l = Looking l.s l.name l.start l.before l.at l.lines l.sought

abbrev pub decreases-loop-name_from : goal.decreases-loop-name_from
decreases-loop-name_from l = length l.s - l.at
