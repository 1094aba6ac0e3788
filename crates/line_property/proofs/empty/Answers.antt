use Rattle.line_property.specs.Emptied.{emptying}
use Rattle.line_property.proofs.empty.Goals as goal

pub loop-k-preserved : goal.loop-k-preserved
loop-k-preserved c = search emptying
