use borrow.Author.Rules.{rules}
use Prim.Native.Nat.{◌-◌}
use lib.ListN.{length}
use Rattle.tally_flat.specs.Flat.{memory}
use Rattle.tally_file.specs.Counting.{Counting, counting_start, counting_ready, counting_fits, counting_over, counting_past, counting_stop, counting_less, counting_next}
use Rattle.tally_file.proofs.count_records.Given as goal

abbrev pub invariant-loop-cursor : goal.invariant-loop-cursor
invariant-loop-cursor l = Counting l.s (memory l.initial.names l.initial.lengths l.initial.counts) l.initial.sums (memory l.names l.lengths l.counts) l.sums l.cursor

abbrev pub decreases-loop-cursor : goal.decreases-loop-cursor
decreases-loop-cursor l = length l.s - l.cursor.at
