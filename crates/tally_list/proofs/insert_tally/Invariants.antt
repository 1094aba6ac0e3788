-- What is left to move is what the list as it is now is moved by.
use Rattle.std.proofs.Common.{◌-◌, ◌≡◌, ◌≤◌}
use Rattle.tally_list.specs.Tallies.{shifted}
use Rattle.tally_list.proofs.insert_tally.Given as goal

abbrev pub invariant-loop-k : goal.invariant-loop-k
invariant-loop-k l = record {
  low : l.from ≤ l.k;
  high : l.k ≤ l.used;
  same : shifted (l.used - l.from) l.from l.initial.list ≡ shifted (l.k - l.from) l.from l.list;
}
