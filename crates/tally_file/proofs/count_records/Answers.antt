use borrow.Author.Rules.{rules}
use Prim.Native.Nat.{◌-◌}
use lib.ListN.{length}
use Rattle.tally_flat.specs.Flat.{memory}
use Rattle.tally_file.specs.Counting.{Counting, counting_start, counting_ready, counting_fits, counting_over, counting_past, counting_stop, counting_less, counting_next}
use Rattle.tally_file.proofs.count_records.Goals as goal

pub loop-cursor-init : goal.loop-cursor-init
loop-cursor-init c = let st = c in
    counting_start st.args.s.now (memory st.args.names.now st.args.lengths.now st.args.counts.now) st.args.totals _ st.requires (search rules) c.new-cursor.ensures

pub count_record-requires : goal.count_record-requires
count_record-requires c = counting_ready _ _ _ _ _ _ c.loop-cursor.invariant

pub after_record-cursor-requires : goal.after_record-cursor-requires
after_record-cursor-requires c = counting_past _ _ _ _ _ _ c.loop-cursor.invariant c.loop-cursor-test.true

pub loop-cursor-smaller : goal.loop-cursor-smaller
loop-cursor-smaller c = counting_less _ _ _ _ _ _ c.loop-cursor.invariant c.loop-cursor-test.true _ c.count_record.ensures.value _ c.count_record.ensures.stepped _ c.in-Counted.is _ c.after_record-cursor.ensures

pub loop-cursor-preserved : goal.loop-cursor-preserved
loop-cursor-preserved c = counting_next _ _ _ _ _ _ c.loop-cursor.invariant c.loop-cursor-test.true _ c.count_record.ensures.value _ c.count_record.ensures.stepped _ c.in-Counted.is _ c.after_record-cursor.ensures

pub overflow_add-result : goal.overflow_add-result
overflow_add-result c = counting_fits _ _ _ _ _ _ c.loop-cursor.invariant

pub returns-in-Refused : goal.returns-in-Refused
returns-in-Refused c =
    let p = counting_stop _ _ _ _ _ _ c.loop-cursor.invariant c.loop-cursor-test.true _ c.count_record.ensures.value _ c.count_record.ensures.stepped _ c.in-Refused.is in
    record { value = p.0; left = p.1 }

pub returns : goal.returns
returns c =
    let p = counting_over _ _ _ _ _ _ c.loop-cursor.invariant c.loop-cursor-test.false in
    record { value = p.0; left = p.1 }
