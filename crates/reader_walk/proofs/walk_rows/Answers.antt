-- `reader_walk::walk_rows` meets its contract.
use borrow.Author.Rules.{rules}
use Rattle.reader_walk.proofs.walk_rows.Goals as goal

pub returns : goal.returns
returns c =
    let e = c.walk_lines.ensures in
    record {
      walked_value = e.walked_value;
      asked_value = e.asked_value;
      left = e.left;
      rows_marked = e.rows_marked;
    }
