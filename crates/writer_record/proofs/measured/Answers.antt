-- `writer_record::measured` meets its contract.
use native.Mathlib.Omega.{arith}
use Rattle.writer_record.specs.Measure.{sized_over, sized_fits}
use borrow.Author.Rules.{rules}
use Rattle.writer_record.proofs.measured.Goals as goal

pub returns-then-room-headers : goal.returns-then-room-headers
returns-then-room-headers c = sized_over _ _ (omega arith)

pub returns-then-room-headers-2 : goal.returns-then-room-headers-2
returns-then-room-headers-2 c = sized_over _ _ (omega arith)

pub returns-then-room-headers-3 : goal.returns-then-room-headers-3
returns-then-room-headers-3 c = sized_over _ _ (omega arith)

pub returns-then-room-headers-lt5 : goal.returns-then-room-headers-lt5
returns-then-room-headers-lt5 c = sized_over _ _ (omega arith)

pub returns : goal.returns
returns c = sized_fits _ _ (omega arith)
