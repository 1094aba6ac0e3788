use Rattle.std.proofs.Common.{◌+◌, ◌*◌, ◌-◌}
use Rattle.line_property.specs.Entering.{Entering}
use Rattle.line_property.specs.Answer.{kind_is}
use Rattle.line_property.proofs.entries.Given as goal

abbrev pub invariant-loop-k : goal.invariant-loop-k
invariant-loop-k l = Entering l.n (kind_is l.kind) l.line l.initial.listed l.count l.listed (10 + 8 * l.k) (l.count - l.k)
