-- `reader_tables::put_four` meets its contract.
use lib.ListN.{length-set}
use native.Mathlib.Omega.{arith}
use Rattle.reader_tables.proofs.Stored.{four_stored}
use borrow.Author.Rules.{rules}
use Rattle.reader_tables.proofs.put_four.Goals as goal

pub bounds-table-at-2 : goal.bounds-table-at-2
bounds-table-at-2 c = simp length-set (omega arith)

pub bounds-table-at-3 : goal.bounds-table-at-3
bounds-table-at-3 c = simp length-set (omega arith)

pub bounds-table-at-4 : goal.bounds-table-at-4
bounds-table-at-4 c = simp length-set (omega arith)

pub returns : goal.returns
returns c = search (rules, four_stored)
