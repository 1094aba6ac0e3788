use borrow.Author.Rules.{rules}
use native.Mathlib.Omega.{arith}
use Prim.Native.Nat.{◌-◌}
use Rattle.compare_rules.specs.Log.{log, seen}
use Rattle.compare_files.specs.Compare.{work}
use Rattle.compare_files.specs.Walking.{Walking, walking_laws, walking_long, walking_old_past, walking_new_past, walking_less, walking_next, walking_rest_old, walking_rest_new, walking_kept, walking_end}
use Rattle.compare_files.proofs.files_apart.Given as goal

abbrev pub invariant-loop-a : goal.invariant-loop-a
invariant-loop-a l = Walking l.old l.n l.new l.m l.both (work l.initial.ta l.initial.tb l.initial.ua l.initial.ub) (log l.initial.list (seen 0)) (work l.ta l.tb l.ua l.ub) (log l.list l.c) l.a l.b

abbrev pub decreases-loop-a : goal.decreases-loop-a
decreases-loop-a l = l.both - l.a.records
