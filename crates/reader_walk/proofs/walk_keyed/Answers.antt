-- `reader_walk::walk_keyed` meets its contract.
use borrow.Author.Rules.{rules}
use Rattle.reader_rows.specs.Rowed.{lent_none}
use Rattle.reader_walk.proofs.walk_keyed.Goals as goal

pub walk_lines-counted-requires : goal.walk_lines-counted-requires
walk_lines-counted-requires c = search (rules, lent_none)
