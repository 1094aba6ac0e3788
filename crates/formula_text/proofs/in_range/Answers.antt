use borrow.Author.Rules.{rules}
use Rattle.formula_rules.specs.Bytes.{between_below, between_up}
use Rattle.formula_text.proofs.in_range.Goals as goal

pub returns-then-b-low : goal.returns-then-b-low
returns-then-b-low c = search (rules, between_below, between_up)

pub returns : goal.returns
returns c = search (rules, between_below, between_up)
