-- `writer_copy::suffices` meets its contract.
use native.Mathlib.Omega.{arith}
use Rattle.writer_copy.specs.Most.{surely_not, surely_is}
use Rattle.writer_copy.proofs.suffices.Goals as goal

pub returns-then-room-lt-MOST : goal.returns-then-room-lt-MOST
returns-then-room-lt-MOST c = surely_not _ _ _ (omega arith)

pub returns-then-room-headers : goal.returns-then-room-headers
returns-then-room-headers c = surely_not _ _ _ (omega arith)

pub returns-then-room-headers-2 : goal.returns-then-room-headers-2
returns-then-room-headers-2 c = surely_not _ _ _ (omega arith)

pub returns-then-room-headers-3 : goal.returns-then-room-headers-3
returns-then-room-headers-3 c = surely_not _ _ _ (omega arith)

pub returns : goal.returns
returns c = surely_is _ _ _ (omega arith)
