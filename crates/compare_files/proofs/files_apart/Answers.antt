use borrow.Author.Rules.{rules}
use native.Mathlib.Omega.{arith}
use Prim.Native.Nat.{◌-◌}
use Rattle.compare_rules.specs.Log.{log, seen}
use Rattle.compare_files.specs.Compare.{work}
use Rattle.compare_files.specs.Walking.{Walking, walking_laws, walking_long, walking_old_past, walking_new_past, walking_less, walking_next, walking_rest_old, walking_rest_new, walking_kept, walking_end}
use Rattle.compare_files.proofs.files_apart.Goals as goal

pub smaller-both-requires : goal.smaller-both-requires
smaller-both-requires c = search (rules, walking_laws)

pub new-a-requires : goal.new-a-requires
new-a-requires c = search (rules, walking_laws)

pub new-b-requires : goal.new-b-requires
new-b-requires c = search (rules, walking_laws)

pub loop-a-init : goal.loop-a-init
loop-a-init c = search (rules, walking_laws)

pub slice_bounds-pair_apart-count : goal.slice_bounds-pair_apart-count
slice_bounds-pair_apart-count c = search (rules, walking_laws)

pub slice_bounds-pair_apart-start : goal.slice_bounds-pair_apart-start
slice_bounds-pair_apart-start c = search (rules, walking_laws)

pub slice_bounds-pair_apart-end : goal.slice_bounds-pair_apart-end
slice_bounds-pair_apart-end c = search (rules, walking_laws)

pub slice_bounds-pair_apart-count-in-loop-a : goal.slice_bounds-pair_apart-count-in-loop-a
slice_bounds-pair_apart-count-in-loop-a c = search (rules, walking_laws)

pub slice_bounds-pair_apart-start-in-loop-a : goal.slice_bounds-pair_apart-start-in-loop-a
slice_bounds-pair_apart-start-in-loop-a c = search (rules, walking_laws)

pub slice_bounds-pair_apart-end-in-loop-a : goal.slice_bounds-pair_apart-end-in-loop-a
slice_bounds-pair_apart-end-in-loop-a c = search (rules, walking_laws)

pub overflow_add-a : goal.overflow_add-a
overflow_add-a c = search (rules, walking_laws)

pub pair_apart-pair-requires : goal.pair_apart-pair-requires
pair_apart-pair-requires c = search (rules, walking_laws)

pub past-a-requires : goal.past-a-requires
past-a-requires c =
    walking_old_past _ _ _ _ _ _ _ _ _ _ _ _ _ _ _ c.loop-a.invariant c.loop-a-test.true _ _ c.pair_apart-pair.ensures.paired

pub past-b-requires : goal.past-b-requires
past-b-requires c =
    walking_new_past _ _ _ _ _ _ _ _ _ _ _ _ _ _ _ c.loop-a.invariant c.loop-a-test.true _ _ c.pair_apart-pair.ensures.paired

pub loop-a-smaller : goal.loop-a-smaller
loop-a-smaller c =
    walking_less _ _ _ _ _ _ _ _ _ _ _ _ _ _ _ c.loop-a.invariant c.loop-a-test.true _ _ c.pair_apart-pair.ensures.paired _ _ c.past-a.ensures c.past-b.ensures

pub loop-a-preserved : goal.loop-a-preserved
loop-a-preserved c =
    let p = c.pair_apart-pair.ensures in
    walking_next _ _ _ _ _ _ _ _ _ _ _ _ _ _ _ c.loop-a.invariant c.loop-a-test.true _ _ p.paired _ _ c.past-a.ensures c.past-b.ensures _ _ _ _ p.kept

pub rest_records-d-requires : goal.rest_records-d-requires
rest_records-d-requires c =
    walking_rest_old _ _ _ _ _ _ _ _ _ _ _ _ _ _ _ c.loop-a.invariant (search rules)

pub rest_records-requires : goal.rest_records-requires
rest_records-requires c =
    walking_rest_new _ _ _ _ _ _ _ _ _ _ _ _ _ _ _ c.loop-a.invariant (search rules)

pub shape_of-ta : goal.shape_of-ta
shape_of-ta c = search (rules, walking_laws)

pub shape_of-tb : goal.shape_of-tb
shape_of-tb c = search (rules, walking_laws)

pub shape_of-ua : goal.shape_of-ua
shape_of-ua c = search (rules, walking_laws)

pub shape_of-ub : goal.shape_of-ub
shape_of-ub c = search (rules, walking_laws)

pub shape_of-list : goal.shape_of-list
shape_of-list c =
    omega (arith, walking_long _ _ _ _ _ _ _ _ _ _ _ _ _ _ _ c.loop-a.invariant)

pub returns : goal.returns
returns c = record { apart = search (rules, walking_end); kept = search (rules, walking_kept) }
