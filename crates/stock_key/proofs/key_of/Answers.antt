use Rattle.stock_key.specs.Steps.{key_laws, good_inside}
use borrow.Author.Rules.{rules}
use Rattle.stock_key.proofs.key_of.Goals as goal

pub word_of-requires : goal.word_of-requires
word_of-requires c = let st = c in
    good_inside st.args.s.now st.args.supplier.now 4 st.args.pad _ (search rules) _ _ c.in-Good.is

pub returns-in-Good : goal.returns-in-Good
returns-in-Good c = search (rules, key_laws)

pub returns-in-Wrong : goal.returns-in-Wrong
returns-in-Wrong c = search (rules, key_laws)

pub returns-in-Refused : goal.returns-in-Refused
returns-in-Refused c = search (rules, key_laws)
