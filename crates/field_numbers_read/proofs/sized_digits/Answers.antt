-- `field_numbers_read::sized_digits` meets its contract.
use Rattle.field_numbers.proofs.Fields.{sign_case, sign_none}
use Rattle.field_numbers_read.proofs.sized_digits.Goals as goal

pub returns-in_err-size : goal.returns-in_err-size
returns-in_err-size c = rw c.from_residual.ensures (sign_none _ _ _ c.inner_digits.ensures c.in_err-size.was)

pub returns : goal.returns
returns c = sign_case _ _ _ _ c.inner_digits.ensures c.in_ok-size.was
