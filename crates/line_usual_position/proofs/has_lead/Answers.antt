-- `line_usual_position::has_lead` meets its contract.
use borrow.Author.Rules.{rules}
use Rattle.line_usual_position.specs.Usual.{lead_laws}
use Rattle.line_usual_position.proofs.has_lead.Goals as goal

pub returns-then-a-eq45 : goal.returns-then-a-eq45
returns-then-a-eq45 c = search (rules, lead_laws)

pub returns-then-b-ge48 : goal.returns-then-b-ge48
returns-then-b-ge48 c = search (rules, lead_laws)

pub returns-then-a-ne32 : goal.returns-then-a-ne32
returns-then-a-ne32 c = search (rules, lead_laws)

pub returns-then-b-eq45 : goal.returns-then-b-eq45
returns-then-b-eq45 c = search (rules, lead_laws)

pub returns : goal.returns
returns c = search (rules, lead_laws)
