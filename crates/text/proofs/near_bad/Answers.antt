use Rattle.std.proofs.Common.{◌≡◌, ◌+◌, ◌*◌, ◌/◌, length, arith}
use Rattle.text.specs.Find.{is_bad}
use Rattle.text.proofs.Passing.{passed_join}
use Rattle.text.proofs.near_bad.Goals as goal

pub loop-b-preserved : goal.loop-b-preserved
loop-b-preserved c =
    let e : 16 * (c.loop-b.b + 1) ≡ 16 * c.loop-b.b + 16 = omega arith in
    rw e (passed_join is_bad _ _ _ _ c.loop-b.invariant (c.bad_in_block.ensures c.if-bad_in_block.false))

pub returns : goal.returns
returns c =
    let b = c.loop-b.b in
    let e : 16 * b ≡ 16 * (length c.args.line.now / 16) = omega arith in
    passed_join is_bad _ _ _ _ (rw e at c.loop-b.invariant) c.near_end.ensures
