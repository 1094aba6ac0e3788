-- `reader_tables::put_bond` meets its contract.
use lib.ListN.{length-set}
use native.Mathlib.Omega.{arith}
use Rattle.reader_tables.proofs.Stored.{bond_stored_lem}
use borrow.Author.Rules.{rules}
use Rattle.reader_tables.proofs.put_bond.Goals as goal

pub bounds-bonds-at-2 : goal.bounds-bonds-at-2
bounds-bonds-at-2 c = simp length-set (omega arith)

pub bounds-bonds-at-3 : goal.bounds-bonds-at-3
bounds-bonds-at-3 c = simp length-set (omega arith)

pub bounds-bonds-at-4 : goal.bounds-bonds-at-4
bounds-bonds-at-4 c = simp length-set (omega arith)

pub bounds-bonds-at-5 : goal.bounds-bonds-at-5
bounds-bonds-at-5 c = simp length-set (omega arith)

pub bounds-bonds-at-6 : goal.bounds-bonds-at-6
bounds-bonds-at-6 c = simp length-set (omega arith)

pub shape_of-bonds : goal.shape_of-bonds
shape_of-bonds c = simp length-set

pub returns : goal.returns
returns c = search (rules, bond_stored_lem)
