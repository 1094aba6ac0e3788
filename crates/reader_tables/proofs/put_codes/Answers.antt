-- `reader_tables::put_codes` meets its contract.
use lib.ListN.{length-set}
use native.Mathlib.Omega.{arith}
use Rattle.reader_tables.proofs.Stored.{codes_stored}
use borrow.Author.Rules.{rules}
use Rattle.reader_tables.proofs.put_codes.Goals as goal

pub bounds-table-at-2 : goal.bounds-table-at-2
bounds-table-at-2 c = simp length-set (omega arith)

pub slice_set_of-table : goal.slice_set_of-table
slice_set_of-table c = simp length-set (omega arith)

pub slice_set_of-table-2 : goal.slice_set_of-table-2
slice_set_of-table-2 c = simp length-set (omega arith)

pub bounds-table-at-3 : goal.bounds-table-at-3
bounds-table-at-3 c = simp length-set (omega arith)

pub bounds-table-at-4 : goal.bounds-table-at-4
bounds-table-at-4 c = simp length-set (omega arith)

pub bounds-table-at-5 : goal.bounds-table-at-5
bounds-table-at-5 c = simp length-set (omega arith)

pub shape_of-table : goal.shape_of-table
shape_of-table c = simp length-set

pub returns : goal.returns
returns c = search (rules, codes_stored)
