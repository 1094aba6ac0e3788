-- `field_symbols::any_symbol` meets its contract.
use borrow.Author.Rules.{rules}
use native.Mathlib.Omega.{arith}
use Rattle.field_symbols.proofs.Codes.{entry_taken, entry_missed, row_fits}
use Rattle.field_symbols.proofs.any_symbol.Goals as goal

pub overflow_add-row : goal.overflow_add-row
overflow_add-row c = record { fits = omega (arith, row_fits c.row_at-row.result _ c.row_at-row.ensures) }

pub returns-then-entry-code : goal.returns-then-entry-code
returns-then-entry-code c = search (rules, entry_taken)

pub returns : goal.returns
returns c = search (rules, entry_missed)
