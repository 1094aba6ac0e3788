-- `writer_parts::judge_part` meets its contract.
use borrow.Author.Rules.{rules}
use Prim.Native.Nat.{◌-◌}
use lib.ListN.{length}
use Rattle.writer_parts.proofs.Judging.{Judging, judging_laws}
use Rattle.writer_parts.proofs.judge_part.Goals as goal

pub loop-at-init : goal.loop-at-init
loop-at-init c = search (rules, judging_laws)

pub line_at-requires : goal.line_at-requires
line_at-requires c = search (rules, judging_laws)

pub enum_known-end : goal.enum_known-end
enum_known-end c = search (rules, judging_laws)

pub enum_told-1 : goal.enum_told-1
enum_told-1 c = search (rules, judging_laws)

pub cut_short-requires : goal.cut_short-requires
cut_short-requires c = search (rules, judging_laws)

pub returns-in_default : goal.returns-in_default
returns-in_default c = search (rules, judging_laws)

pub slice_bounds-line_turn-count : goal.slice_bounds-line_turn-count
slice_bounds-line_turn-count c = search (rules, judging_laws)

pub slice_bounds-line_turn-start : goal.slice_bounds-line_turn-start
slice_bounds-line_turn-start c = search (rules, judging_laws)

pub slice_bounds-line_turn-end : goal.slice_bounds-line_turn-end
slice_bounds-line_turn-end c = search (rules, judging_laws)

pub line_turn-requires : goal.line_turn-requires
line_turn-requires c = search (rules, judging_laws)

pub enum_known-p : goal.enum_known-p
enum_known-p c = search (rules, judging_laws)

pub overflow_add-size : goal.overflow_add-size
overflow_add-size c = search (rules, judging_laws)

pub enum_known-no : goal.enum_known-no
enum_known-no c = search (rules, judging_laws)

pub returns-in-Bad : goal.returns-in-Bad
returns-in-Bad c = search (rules, judging_laws)

pub overflow_add-line : goal.overflow_add-line
overflow_add-line c = search (rules, judging_laws)

pub loop-at-smaller : goal.loop-at-smaller
loop-at-smaller c = search (rules, judging_laws)

pub loop-at-preserved : goal.loop-at-preserved
loop-at-preserved c = search (rules, judging_laws)

pub part_end-requires : goal.part_end-requires
part_end-requires c = search (rules, judging_laws)

pub returns : goal.returns
returns c = search (rules, judging_laws)
