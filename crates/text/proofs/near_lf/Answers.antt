use Rattle.std.proofs.Common.{◌≡◌, ◌+◌, ◌*◌, rules, arith}
use Rattle.text.specs.Find.{is_lf}
use Rattle.text.proofs.Passing.{passed_join, passed_block}
use Rattle.text.proofs.near_lf.Goals as goal

pub loop-b-preserved : goal.loop-b-preserved
loop-b-preserved c =
    let i = c.args.at + 16 * c.loop-b.b-counter in
    let e : c.args.at + 16 * (c.loop-b.b-counter + 1) ≡ i + 16 = omega arith in
    rw e (passed_join is_lf _ _ _ _ c.loop-b.invariant (passed_block is_lf _ i 16 (omega arith) (λ k g. let q = c.if-any_below.ensures k g in search rules)))

pub returns-then-any_below : goal.returns-then-any_below
returns-then-any_below c = passed_join is_lf _ _ _ _ c.loop-b.invariant c.lf_of_block.ensures
