use Rattle.stock_key.specs.Steps.{first_laws, line_inside}
use borrow.Author.Rules.{rules}
use Rattle.stock_key.proofs.text_of.Goals as goal

pub text_in-requires : goal.text_in-requires
text_in-requires c = let st = c in
    line_inside {s = st.args.s.now} {name = st.args.name.now} (search rules) _ _ c.in-Line.is

pub returns-in-Line : goal.returns-in-Line
returns-in-Line c = search (rules, first_laws)

pub returns-in-Empty : goal.returns-in-Empty
returns-in-Empty c = search (rules, first_laws)

pub returns-in-Refused : goal.returns-in-Refused
returns-in-Refused c = search (rules, first_laws)
