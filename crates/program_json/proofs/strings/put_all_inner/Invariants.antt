use Rattle.std.proofs.Common.{◌+◌, ◌*◌, ◌≤◌, ◌≡◌, length}
use Rattle.program_json.proofs.strings.put_all_inner.Given as goal

abbrev pub invariant-loop-b : goal.invariant-loop-b
invariant-loop-b l = (length l.room ≡ length l.initial.room) × (l.a ≤ l.at + 2 * l.b-index)
