-- `line_usual_position::is_usual` meets its contract.
use native.Mathlib.Omega.{arith}
use borrow.Author.Rules.{rules}
use borrow.Author.Tests.{not-false}
use Rattle.text.specs.Laws.{false_true}
use Rattle.line_usual_position.specs.Usual.{lead_bound, line_usual}
use Rattle.line_usual_position.proofs.is_usual.Goals as goal

pub returns-then-line-lt30 : goal.returns-then-line-lt30
returns-then-line-lt30 c = false_true

pub returns-then-outside : goal.returns-then-outside
returns-then-outside c = false_true

pub has_lead-requires : goal.has_lead-requires
has_lead-requires c = (omega arith, omega arith, search rules, (lead_bound c.args.line.now (search rules) (c.outside.ensures (search rules))).0)

pub returns-then-not-has_lead : goal.returns-then-not-has_lead
returns-then-not-has_lead c = false_true

pub has_lead-requires-2 : goal.has_lead-requires-2
has_lead-requires-2 c = (omega arith, omega arith, search rules, (lead_bound c.args.line.now (search rules) (c.outside.ensures (search rules))).1)

pub returns-then-not-has_lead-2 : goal.returns-then-not-has_lead-2
returns-then-not-has_lead-2 c = false_true

pub has_lead-requires-3 : goal.has_lead-requires-3
has_lead-requires-3 c = (omega arith, omega arith, search rules, (lead_bound c.args.line.now (search rules) (c.outside.ensures (search rules))).2)

pub returns : goal.returns
returns c = λ e. line_usual c.args.line.now (search rules) (c.outside.ensures (search rules))
    (c.has_lead.ensures (search (rules, not-false))) (c.has_lead-2.ensures (search (rules, not-false))) (c.has_lead-3.ensures e)
