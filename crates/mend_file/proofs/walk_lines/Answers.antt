use borrow.Author.Rules.{rules}
use Rattle.mend_file.specs.Mending.{mending_laws, mending_kept, mending_tail, keep_fits, piece_next, piece_within}
use Rattle.mend_file.proofs.walk_lines.Goals as goal

pub new-judge-requires : goal.new-judge-requires
new-judge-requires c = search (rules, mending_laws)

pub new-m-requires : goal.new-m-requires
new-m-requires c = search (rules, mending_laws)

pub loop-m-init : goal.loop-m-init
loop-m-init c = search (rules, mending_laws)

pub piece_at-p-requires : goal.piece_at-p-requires
piece_at-p-requires c = search (rules, mending_laws)

pub deed_at-requires : goal.deed_at-requires
deed_at-requires c = search (rules, mending_laws)

pub enum_told-1 : goal.enum_told-1
enum_told-1 c = search (rules, mending_laws)

pub slice_bounds-judge_line-count : goal.slice_bounds-judge_line-count
slice_bounds-judge_line-count c = search (rules, mending_laws)

pub slice_bounds-judge_line-start : goal.slice_bounds-judge_line-start
slice_bounds-judge_line-start c = search (rules, mending_laws)

pub slice_bounds-judge_line-end : goal.slice_bounds-judge_line-end
slice_bounds-judge_line-end c = search (rules, mending_laws)

pub judge_line-requires : goal.judge_line-requires
judge_line-requires c = search (rules, mending_laws)

pub keep_line-m-requires : goal.keep_line-m-requires
keep_line-m-requires c = record {
  at_le_next = (piece_next _ _ _ c.piece_at-p.ensures, piece_within _ _ _ c.piece_at-p.ensures);
  can_keep = keep_fits _ _ _ _ _ _ _ _ _ _ c.loop-m.invariant (search rules) _ c.piece_at-p.ensures _ c.deed_at.ensures c.in-Keep.is _ _ _ c.judge_line.ensures _ c.in-Ok.is;
}

pub loop-m-smaller-in-Ok : goal.loop-m-smaller-in-Ok
loop-m-smaller-in-Ok c = search (rules, mending_laws)

pub loop-m-preserved-in-Ok : goal.loop-m-preserved-in-Ok
loop-m-preserved-in-Ok c = mending_kept _ _ _ _ _ _ _ _ _ _ c.loop-m.invariant (search rules) _ c.piece_at-p.ensures _ c.deed_at.ensures c.in-Keep.is _ _ _ c.judge_line.ensures _ c.in-Ok.is _ _ _ c.keep_line-m.ensures

pub shape_of-room-in-Err : goal.shape_of-room-in-Err
shape_of-room-in-Err c = search (rules, mending_laws)

pub shape_of-list-in-Err : goal.shape_of-list-in-Err
shape_of-list-in-Err c = search (rules, mending_laws)

pub returns-in-Err : goal.returns-in-Err
returns-in-Err c = search (rules, mending_laws)

pub enum_told-in-Put : goal.enum_told-in-Put
enum_told-in-Put c = search (rules, mending_laws)

pub emptied-judge-requires : goal.emptied-judge-requires
emptied-judge-requires c = search (rules, mending_laws)

pub put_line-m-requires : goal.put_line-m-requires
put_line-m-requires c = search (rules, mending_laws)

pub loop-m-smaller-in-Put : goal.loop-m-smaller-in-Put
loop-m-smaller-in-Put c = search (rules, mending_laws)

pub loop-m-preserved-in-Put : goal.loop-m-preserved-in-Put
loop-m-preserved-in-Put c = search (rules, mending_laws)

pub enum_told-in-Drop : goal.enum_told-in-Drop
enum_told-in-Drop c = search (rules, mending_laws)

pub drop_line-m-requires : goal.drop_line-m-requires
drop_line-m-requires c = search (rules, mending_laws)

pub loop-m-smaller-in-Drop : goal.loop-m-smaller-in-Drop
loop-m-smaller-in-Drop c = search (rules, mending_laws)

pub loop-m-preserved-in-Drop : goal.loop-m-preserved-in-Drop
loop-m-preserved-in-Drop c = search (rules, mending_laws)

pub enum_told-in-Tail : goal.enum_told-in-Tail
enum_told-in-Tail c = search (rules, mending_laws)

pub loop-m-smaller : goal.loop-m-smaller
loop-m-smaller c = search (rules, mending_laws)

pub loop-m-preserved : goal.loop-m-preserved
loop-m-preserved c = mending_tail _ _ _ _ _ _ _ _ _ _ c.loop-m.invariant (search rules) _ c.piece_at-p.ensures _ c.deed_at.ensures c.in-Tail.is

pub ended-requires : goal.ended-requires
ended-requires c = search (rules, mending_laws)

pub shape_of-room : goal.shape_of-room
shape_of-room c = search (rules, mending_laws)

pub shape_of-list : goal.shape_of-list
shape_of-list c = search (rules, mending_laws)

pub returns : goal.returns
returns c = search (rules, mending_laws)
