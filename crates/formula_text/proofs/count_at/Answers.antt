use Rattle.formula_text.specs.Steps.{count_laws, count_one, count_two, count_three}
use borrow.Author.Rules.{rules}
use Rattle.formula_text.proofs.count_at.Goals as goal

pub returns-then-a-eq48 : goal.returns-then-a-eq48
returns-then-a-eq48 c = search (rules, count_laws)

pub returns-then-in_range-4 : goal.returns-then-in_range-4
returns-then-in_range-4 c = search (rules, count_laws)

pub returns-then-in_range-3 : goal.returns-then-in_range-3
returns-then-in_range-3 c = search (rules, count_three c.args.s.now c.args.at)

pub returns-then-in_range-2 : goal.returns-then-in_range-2
returns-then-in_range-2 c = search (rules, count_two c.args.s.now c.args.at)

pub returns-then-a-eq49 : goal.returns-then-a-eq49
returns-then-a-eq49 c = search (rules, count_laws)

pub returns-then-in_range : goal.returns-then-in_range
returns-then-in_range c = search (rules, count_one c.args.s.now c.args.at)

pub returns : goal.returns
returns c = search (rules, count_laws)
