use Rattle.formula_record.specs.Steps.{line_order, line_inside, line_said, empty_said, none_said, zeros_are}
use borrow.Author.Rules.{rules}
use Rattle.formula_record.proofs.compare_read.Goals as goal

pub slice_bounds-compare_line-count : goal.slice_bounds-compare_line-count
slice_bounds-compare_line-count c =
    line_order c.args.s.now c.args.atoms.now c.args.n c.requires _ c.first_line.ensures _ _ c.in-Line.is

pub slice_bounds-compare_line-start : goal.slice_bounds-compare_line-start
slice_bounds-compare_line-start c =
    let h = line_order c.args.s.now c.args.atoms.now c.args.n c.requires _ c.first_line.ensures _ _ c.in-Line.is in
    search (rules, h)

pub slice_bounds-compare_line-end : goal.slice_bounds-compare_line-end
slice_bounds-compare_line-end c =
    let i = line_inside c.args.s.now c.args.atoms.now c.args.n c.requires _ c.first_line.ensures _ _ c.in-Line.is in
    search (rules, i)

pub compare_line-requires : goal.compare_line-requires
compare_line-requires c =
    (c.requires.rows, c.requires.few, zeros_are)

pub returns-in-Line : goal.returns-in-Line
returns-in-Line c =
    let k = line_said c.args.s.now c.args.atoms.now c.args.n c.requires _ c.first_line.ensures _ _ c.in-Line.is _ _ c.compare_line.ensures.value c.compare_line.ensures.found_after in
    record { value = k.0; found_after = k.1 }

pub returns-in-Empty : goal.returns-in-Empty
returns-in-Empty c =
    let k = empty_said c.args.s.now c.args.atoms.now c.args.n c.requires _ c.first_line.ensures c.in-Empty.is _ zeros_are in
    record { value = k.0; found_after = k.1 }

pub returns-in-Refused : goal.returns-in-Refused
returns-in-Refused c =
    let k = none_said c.args.s.now c.args.atoms.now c.args.n c.requires _ c.first_line.ensures _ _ _ c.in-Refused.is _ zeros_are in
    record { value = k.0; found_after = k.1 }
