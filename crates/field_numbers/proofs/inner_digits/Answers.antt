use Rattle.std.proofs.Common.{rules}
use Rattle.field_numbers.proofs.Fields.{counting_laws}
use Rattle.field_numbers.proofs.inner_digits.Goals as goal

pub returns-then-d-lt48 : goal.returns-then-d-lt48
returns-then-d-lt48 c = search (rules, counting_laws)

pub returns-then-d-gt57 : goal.returns-then-d-gt57
returns-then-d-gt57 c = search (rules, counting_laws)

pub loop-a-preserved : goal.loop-a-preserved
loop-a-preserved c = search (rules, counting_laws)
