use borrow.Author.Rules.{rules}
use native.Mathlib.Omega.{arith}
use Rattle.compare_items.specs.Items.{side_laws, side_long, side_small_item, side_fits, side_next, item_next}
use Rattle.compare_items.proofs.items_apart.Goals as goal

pub loop-e-init : goal.loop-e-init
loop-e-init c = search (rules, side_laws)

pub line_at-requires : goal.line_at-requires
line_at-requires c = search (rules, side_laws)

pub enum_known-e : goal.enum_known-e
enum_known-e c = search (rules, side_laws)

pub enum_told-1 : goal.enum_told-1
enum_told-1 c = search (rules, side_laws)

pub rest_items-requires : goal.rest_items-requires
rest_items-requires c = search (rules, side_laws)

pub shape_of-list-in_default : goal.shape_of-list-in_default
shape_of-list-in_default c =
    omega (arith, side_long _ _ _ _ _ _ _ _ _ c.loop-e.invariant)

pub returns-in_default : goal.returns-in_default
returns-in_default c = search (rules, side_laws)

pub line_at-requires-in-loop-e : goal.line_at-requires-in-loop-e
line_at-requires-in-loop-e c = search (rules, side_laws)

pub enum_known-f : goal.enum_known-f
enum_known-f c = search (rules, side_laws)

pub enum_told-in_default-line_at : goal.enum_told-in_default-line_at
enum_told-in_default-line_at c = search (rules, side_laws)

pub rest_items-requires-in_default-line_at : goal.rest_items-requires-in_default-line_at
rest_items-requires-in_default-line_at c = search (rules, side_laws)

pub shape_of-list-in_default-line_at : goal.shape_of-list-in_default-line_at
shape_of-list-in_default-line_at c =
    omega (arith, side_long _ _ _ _ _ _ _ _ _ c.loop-e.invariant)

pub returns-in_default-line_at : goal.returns-in_default-line_at
returns-in_default-line_at c = search (rules, side_laws)

pub slice_bounds-names_apart-count : goal.slice_bounds-names_apart-count
slice_bounds-names_apart-count c = search (rules, side_laws)

pub slice_bounds-names_apart-start : goal.slice_bounds-names_apart-start
slice_bounds-names_apart-start c = search (rules, side_laws)

pub slice_bounds-names_apart-end : goal.slice_bounds-names_apart-end
slice_bounds-names_apart-end c = search (rules, side_laws)

pub slice_bounds-names_apart-count-in-loop-e : goal.slice_bounds-names_apart-count-in-loop-e
slice_bounds-names_apart-count-in-loop-e c = search (rules, side_laws)

pub slice_bounds-names_apart-start-in-loop-e : goal.slice_bounds-names_apart-start-in-loop-e
slice_bounds-names_apart-start-in-loop-e c = search (rules, side_laws)

pub slice_bounds-names_apart-end-in-loop-e : goal.slice_bounds-names_apart-end-in-loop-e
slice_bounds-names_apart-end-in-loop-e c = search (rules, side_laws)

pub names_apart-d-requires : goal.names_apart-d-requires
names_apart-d-requires c = search (rules, side_laws)

pub values_apart-w-requires : goal.values_apart-w-requires
values_apart-w-requires c =
    let a = c.args in (
      side_small_item _ _ _ _ _ _ _ _ _ c.loop-e.invariant _ c.line_at.ensures _ _ c.in-Line.is c.requires (omega (arith, c.well_formed)),
      item_next a.a.now _ _ c.line_at.ensures _ _ c.in-Line.is,
      item_next a.b.now _ _ c.line_at-in-loop-e.ensures _ _ c.in-Line-line_at.is,
    )

pub overflow_add-k : goal.overflow_add-k
overflow_add-k c =
    let a = c.args in
    side_fits _ _ _ _ _ _ _ _ _ c.loop-e.invariant _ c.line_at.ensures _ _ c.in-Line.is (omega (arith, c.well_formed))

pub loop-e-smaller : goal.loop-e-smaller
loop-e-smaller c = search (rules, side_laws)

pub loop-e-preserved : goal.loop-e-preserved
loop-e-preserved c =
    let a = c.args in
    side_next _ _ _ _ _ _ _ _ _ c.loop-e.invariant _ c.line_at.ensures _ _ c.in-Line.is _ c.line_at-in-loop-e.ensures _ _ c.in-Line-line_at.is
    _ _ _ _ c.names_apart-d.ensures c.values_apart-w.ensures
