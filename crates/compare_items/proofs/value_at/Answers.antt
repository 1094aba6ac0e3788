use Rattle.compare_items.specs.Ahead.{ahead_laws}
use borrow.Author.Rules.{rules}
use Rattle.compare_items.proofs.value_at.Goals as goal

pub returns-in_default : goal.returns-in_default
returns-in_default c = search (rules, ahead_laws)

pub slice_bounds-is_blank-count : goal.slice_bounds-is_blank-count
slice_bounds-is_blank-count c = search (rules, ahead_laws)

pub slice_bounds-is_blank-start : goal.slice_bounds-is_blank-start
slice_bounds-is_blank-start c = search (rules, ahead_laws)

pub slice_bounds-is_blank-end : goal.slice_bounds-is_blank-end
slice_bounds-is_blank-end c = search (rules, ahead_laws)

pub returns-then-is_blank : goal.returns-then-is_blank
returns-then-is_blank c = search (rules, ahead_laws)

pub returns : goal.returns
returns c = search (rules, ahead_laws)
