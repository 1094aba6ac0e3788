use Rattle.std.proofs.Common.{◌≡◌, take}
use Rattle.program_io.specs.Said.{said}
use Rattle.program_io.proofs.Text.say.Given as goal

abbrev pub invariant-loop-b : goal.invariant-loop-b
invariant-loop-b l = l.self ≡ said l.initial.self (take l.b-index l.word)
