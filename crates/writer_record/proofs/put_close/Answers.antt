-- `writer_record::put_close` meets its contract.
use native.Mathlib.Omega.{arith}
use lib.ListN.{length-set}
use Rattle.writer_record.specs.Measure.{close_laid}
use borrow.Author.Rules.{rules}
use Rattle.writer_record.proofs.put_close.Goals as goal

pub bounds-room-at-2 : goal.bounds-room-at-2
bounds-room-at-2 c = simp length-set (omega arith)

pub bounds-room-at-3 : goal.bounds-room-at-3
bounds-room-at-3 c = simp length-set (omega arith)

pub bounds-room-at-4 : goal.bounds-room-at-4
bounds-room-at-4 c = simp length-set (omega arith)

pub bounds-room-at-5 : goal.bounds-room-at-5
bounds-room-at-5 c = simp length-set (omega arith)

pub returns : goal.returns
returns c = search (rules, close_laid)
