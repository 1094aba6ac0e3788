-- `inner_column` meets its contract.
use native.Mathlib.Omega.{arith}
use borrow.Author.Rules.{rules}
use Rattle.text.proofs.Texts.{column_within}
use Rattle.text.proofs.inner_column.Goals as goal

pub returns : goal.returns
returns c = let a = c.args in column_within a.line.now a.i (omega arith)
