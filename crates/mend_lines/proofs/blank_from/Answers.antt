use borrow.Author.Rules.{rules}
use Rattle.mend_lines.specs.Deeds.{scan_laws}
use Rattle.mend_lines.proofs.blank_from.Goals as goal

pub loop-i-init : goal.loop-i-init
loop-i-init c = search (rules, scan_laws)

pub piece_at-p-requires : goal.piece_at-p-requires
piece_at-p-requires c = search (rules, scan_laws)

pub slice_bounds-is_blank-count : goal.slice_bounds-is_blank-count
slice_bounds-is_blank-count c = search (rules, scan_laws)

pub slice_bounds-is_blank-start : goal.slice_bounds-is_blank-start
slice_bounds-is_blank-start c = search (rules, scan_laws)

pub slice_bounds-is_blank-end : goal.slice_bounds-is_blank-end
slice_bounds-is_blank-end c = search (rules, scan_laws)

pub is_blank-requires : goal.is_blank-requires
is_blank-requires c = search (rules, scan_laws)

pub loop-i-smaller : goal.loop-i-smaller
loop-i-smaller c = search (rules, scan_laws)

pub loop-i-preserved : goal.loop-i-preserved
loop-i-preserved c = search (rules, scan_laws)

pub returns-else-is_blank : goal.returns-else-is_blank
returns-else-is_blank c = search (rules, scan_laws)

pub returns : goal.returns
returns c = search (rules, scan_laws)
