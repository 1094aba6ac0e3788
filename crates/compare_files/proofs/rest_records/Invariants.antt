use Rattle.compare_rules.specs.Log.{log}
use Rattle.compare_files.specs.Walking.{Resting}
use Rattle.compare_files.proofs.rest_records.Given as goal

abbrev pub invariant-loop-k : goal.invariant-loop-k
invariant-loop-k l = Resting l.side l.from l.to (log l.initial.list l.initial.c) (log l.list l.c) l.k
