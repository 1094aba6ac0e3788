use native.Mathlib.Omega.{arith}
use mir.Facts.{to_z-of_z}
use borrow.Author.Rules.{rules}
use Rattle.compare_rules.specs.Noted.{log_laws, put_one}
use Rattle.compare_tables.proofs.put.Goals as goal

pub returns-then-count-gt0 : goal.returns-then-count-gt0
returns-then-count-gt0 c = search (rules, log_laws)

pub returns : goal.returns
returns c =
    let a = c.args in
    put_one a.list.now _ a.count _ a.p a.side a.left a.right _ _ (omega arith) c.up.ensures (to_z-of_z c.ranges.left) (to_z-of_z c.ranges.right) c.put_row.ensures
