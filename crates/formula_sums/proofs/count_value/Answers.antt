use mathlib.Core.Path.{sym, ◌∙◌}
use Rattle.formula_rules.specs.Bytes.{between_from}
use Rattle.formula_sums.specs.Adds.{values}
use borrow.Author.Rules.{rules}
use Rattle.formula_sums.proofs.count_value.Goals as goal

pub digit-requires : goal.digit-requires
digit-requires c = between_from 48 57 c.byte_at-a.result (sym c.in_range.ensures ∙ c.if-in_range.true)

pub digit-requires-then-in_range-3 : goal.digit-requires-then-in_range-3
digit-requires-then-in_range-3 c = between_from 48 57 c.byte_at-b.result (sym c.in_range-then-in_range.ensures ∙ c.if-in_range-2.true)

pub digit-requires-then-in_range-3-2 : goal.digit-requires-then-in_range-3-2
digit-requires-then-in_range-3-2 c = between_from 48 57 c.byte_at-c.result (sym c.in_range-then-in_range-2.ensures ∙ c.if-in_range-3.true)

pub returns-then-in_range-3 : goal.returns-then-in_range-3
returns-then-in_range-3 c = search (rules, values)

pub digit-requires-then-in_range-2 : goal.digit-requires-then-in_range-2
digit-requires-then-in_range-2 c = between_from 48 57 c.byte_at-a.result (sym c.in_range.ensures ∙ c.if-in_range.true)

pub digit-requires-then-in_range-2-2 : goal.digit-requires-then-in_range-2-2
digit-requires-then-in_range-2-2 c = between_from 48 57 c.byte_at-b.result (sym c.in_range-then-in_range.ensures ∙ c.if-in_range-2.true)

pub returns-then-in_range-2 : goal.returns-then-in_range-2
returns-then-in_range-2 c = search (rules, values)

pub digit-requires-then-in_range : goal.digit-requires-then-in_range
digit-requires-then-in_range c = between_from 48 57 c.byte_at-a.result (sym c.in_range.ensures ∙ c.if-in_range.true)

pub returns-then-in_range : goal.returns-then-in_range
returns-then-in_range c = search (rules, values)

pub returns : goal.returns
returns c = search (rules, values)
