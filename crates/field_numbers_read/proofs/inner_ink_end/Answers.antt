use Rattle.std.proofs.Common.{◌≡◌, ◌+◌, ◌-◌, rules, arith}
use Rattle.field_numbers.proofs.Fields.{shedding_laws}
use Rattle.field_numbers_read.proofs.inner_ink_end.Goals as goal

pub returns-then-inner_column-ne32-clause-i_value : goal.returns-then-inner_column-ne32-clause-i_value
returns-then-inner_column-ne32-clause-i_value c =
    let e : c.loop-z.z - 1 + 1 ≡ c.loop-z.z = omega arith in
    rw e (search (rules, shedding_laws))
