-- `field_symbols::put_symbol` meets its contract.
use borrow.Author.Rules.{rules}
use native.Mathlib.Omega.{arith}
use lib.ListN.{length-set}
use Rattle.field_symbols.proofs.Codes.{letters_below, letters_written}
use Rattle.field_symbols_put.proofs.put_symbol.Goals as goal

pub overflow_cast-out-2 : goal.overflow_cast-out-2
overflow_cast-out-2 c = let a = c.args in
    omega (arith, letters_below c.letters_of-letters.result a.k (search rules) (search rules) c.letters_of-letters.ensures)

pub bounds-out-at-2 : goal.bounds-out-at-2
bounds-out-at-2 c = simp length-set (omega arith)

pub bounds-out-at-3 : goal.bounds-out-at-3
bounds-out-at-3 c = simp length-set (omega arith)

pub returns : goal.returns
returns c = let a = c.args in
    letters_written c.letters_of-letters.result a.k (search rules) (search rules) c.letters_of-letters.ensures a.out.now a.at
