-- `field_symbols::symbol` meets its contract.
use borrow.Author.Rules.{rules}
use mathlib.Core.Path.{◌∙◌}
use Rattle.field_symbols.proofs.symbol.Goals as goal

pub returns : goal.returns
returns c = c.symbol_of.ensures ∙ c.code_in.ensures
