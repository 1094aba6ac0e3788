use Rattle.std.proofs.Common.{◌≡◌, ◌+◌, ◌*◌, arith}
use Rattle.store_lots.specs.Looking.{block_found, block_next}
use Rattle.store_lots.proofs.find_lot.Goals as goal

pub returns-then-lot-i : goal.returns-then-lot-i
returns-then-lot-i c = block_found _ _ _ _ _ c.loop-b.invariant c.find_block-lot.ensures (omega arith) c.if-lot-i.true

pub loop-b-preserved : goal.loop-b-preserved
loop-b-preserved c =
    let e : 16 * (c.loop-b.b + 1) ≡ 16 * c.loop-b.b + 16 = omega arith in
    rw e (block_next _ _ _ _ _ c.loop-b.invariant c.find_block-lot.ensures (omega arith) c.if-lot-i.false)
