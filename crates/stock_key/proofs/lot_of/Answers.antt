use Rattle.stock_key.specs.Steps.{lot_laws, good_inside, good_behind}
use borrow.Author.Rules.{rules}
use Rattle.stock_key.proofs.lot_of.Goals as goal

pub word_of-requires : goal.word_of-requires
word_of-requires c = let st = c in
    good_inside st.args.s.now st.args.lot.now 8 st.args.pad _ (search rules) _ _ c.in-Good.is

pub overflow_add-from : goal.overflow_add-from
overflow_add-from c = let st = c in
    let h = good_inside st.args.s.now st.args.lot.now 8 st.args.pad _ (search rules) _ _ c.in-Good.is in
    search (rules, h)

pub word_of-requires-in-Good : goal.word_of-requires-in-Good
word_of-requires-in-Good c = let st = c in
    let h = good_behind st.args.s.now st.args.lot.now 8 st.args.pad _ (search rules) _ _ c.in-Good.is in
    h

pub returns-in-Good : goal.returns-in-Good
returns-in-Good c = search (rules, lot_laws)

pub returns-in-Wrong : goal.returns-in-Wrong
returns-in-Wrong c = search (rules, lot_laws)

pub returns-in-Refused : goal.returns-in-Refused
returns-in-Refused c = search (rules, lot_laws)
