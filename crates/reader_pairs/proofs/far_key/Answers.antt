-- `reader_pairs::far_key` meets its contract.
use borrow.Author.Rules.{rules}
use Prim.Native.Nat.{◌-◌}
use Rattle.reader_pairs.specs.Keys.{Searching, searching_laws, searching_on}
use Rattle.reader_pairs.proofs.far_key.Goals as goal

pub loop-i-init : goal.loop-i-init
loop-i-init c = search (rules, searching_laws)

pub overflow_sub-count : goal.overflow_sub-count
overflow_sub-count c = search (rules, searching_laws)

pub key_in_wide-requires : goal.key_in_wide-requires
key_in_wide-requires c = search (rules, searching_laws)

pub returns-then-key_in_wide-ne0 : goal.returns-then-key_in_wide-ne0
returns-then-key_in_wide-ne0 c = search (rules, searching_laws)

pub overflow_add-i : goal.overflow_add-i
overflow_add-i c = search (rules, searching_laws)

pub loop-i-smaller : goal.loop-i-smaller
loop-i-smaller c = search (rules, searching_laws)

pub loop-i-preserved : goal.loop-i-preserved
loop-i-preserved c = searching_on _ _ _ _ _ c.loop-i.invariant (c.key_in_wide.ensures c.if-key_in_wide-ne0.false) c.loop-i-test.true

pub returns : goal.returns
returns c = search (rules, searching_laws)
