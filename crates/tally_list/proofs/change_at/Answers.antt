use Rattle.tally_list.specs.Changing.{here_small, change_here, change_full, change_new}
use borrow.Author.Rules.{rules}
use Rattle.tally_list.proofs.change_at.Goals as goal

pub one_more-requires : goal.one_more-requires
one_more-requires c = here_small _ _ _ _ _ c.is_here.ensures (search rules) (search rules)

pub returns-then-is_here : goal.returns-then-is_here
returns-then-is_here c = change_here _ _ _ _ _ c.is_here.ensures _ c.one_more.ensures (search rules)

pub returns-then-used-ge-SUPPLIERS : goal.returns-then-used-ge-SUPPLIERS
returns-then-used-ge-SUPPLIERS c = change_full _ _ _ _ _ c.is_here.ensures _ c.place_within.ensures (search rules) (search rules)

pub returns : goal.returns
returns c = change_new _ _ _ _ _ c.is_here.ensures _ c.new_tally.ensures (search rules) (search rules)
