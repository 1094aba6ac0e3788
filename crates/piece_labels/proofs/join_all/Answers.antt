-- `piece_labels::join_all` meets its contract.
use borrow.Author.Rules.{rules}
use Prim.Native.Nat.{◌-◌}
use Rattle.piece_labels.proofs.Loops.{Joining, joining_start, first_asks, second_asks, join_asks, joining_on, joining_end}
use Rattle.piece_labels.proofs.join_all.Goals as goal

pub loop-k-init : goal.loop-k-init
loop-k-init c = joining_start _ _ _ _ c.requires.0 c.requires.1 c.requires.2

pub atom_at-first-requires : goal.atom_at-first-requires
atom_at-first-requires c = first_asks _ _ _ _ _ c.loop-k.invariant c.loop-k-test.true

pub atom_at-second-requires : goal.atom_at-second-requires
atom_at-second-requires c = second_asks _ _ _ _ _ c.loop-k.invariant c.loop-k-test.true

pub join-requires : goal.join-requires
join-requires c = join_asks _ _ _ _ _ c.loop-k.invariant c.loop-k-test.true _ _ c.atom_at-first.ensures c.atom_at-second.ensures

pub loop-k-preserved : goal.loop-k-preserved
loop-k-preserved c = joining_on _ _ _ _ _ c.loop-k.invariant c.loop-k-test.true _ _ _ c.atom_at-first.ensures c.atom_at-second.ensures c.join.ensures

pub returns : goal.returns
returns c = joining_end _ _ _ _ _ c.loop-k.invariant (search rules)
