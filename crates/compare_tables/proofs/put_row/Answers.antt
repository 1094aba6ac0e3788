use borrow.Author.Rules.{rules}
use native.Mathlib.Omega.{arith}
use mir.Facts.{to_z-of_z}
use Rattle.compare_rules.specs.Noted.{log_laws, put_room, plain}
use Rattle.compare_tables.proofs.put_row.Goals as goal

pub returns-then-list-k : goal.returns-then-list-k
returns-then-list-k c = search (rules, log_laws)

pub returns : goal.returns
returns c =
    let a = c.args in
    put_room a.list.now a.k (record { at = a.p; side = a.side; left = a.left; right = a.right }) (omega arith)
    c.store.ensures (plain _ c.requires.position) c.store-2.ensures (plain _ c.requires.part) c.store-3.ensures (plain _ c.requires.index) c.store-4.ensures (plain _ c.requires.field) c.store-5.ensures (plain _ (omega (arith, c.ranges.side.fits))) c.store-6.ensures (to_z-of_z c.ranges.left) c.store-7.ensures (to_z-of_z c.ranges.right)
