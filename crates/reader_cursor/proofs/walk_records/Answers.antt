-- `reader_cursor::walk_records` meets its contract.
use borrow.Author.Rules.{rules}
use Prim.Native.Nat.{◌-◌}
use lib.ListN.{length}
use Rattle.reader_cursor.specs.FileWalk.{Going, going_laws}
use Rattle.reader_cursor.proofs.walk_records.Goals as goal

pub new-cursor-requires : goal.new-cursor-requires
new-cursor-requires c = search (rules, going_laws)

pub loop-cursor-init : goal.loop-cursor-init
loop-cursor-init c = search (rules, going_laws)

pub slice_bounds-walk_keyed-count : goal.slice_bounds-walk_keyed-count
slice_bounds-walk_keyed-count c = search (rules, going_laws)

pub slice_bounds-walk_keyed-start : goal.slice_bounds-walk_keyed-start
slice_bounds-walk_keyed-start c = search (rules, going_laws)

pub slice_bounds-walk_keyed-end : goal.slice_bounds-walk_keyed-end
slice_bounds-walk_keyed-end c = search (rules, going_laws)

pub walk_keyed-requires : goal.walk_keyed-requires
walk_keyed-requires c = search (rules, going_laws)

pub enum_known-length : goal.enum_known-length
enum_known-length c = search (rules, going_laws)

pub past-cursor-requires : goal.past-cursor-requires
past-cursor-requires c = search (rules, going_laws)

pub loop-cursor-smaller : goal.loop-cursor-smaller
loop-cursor-smaller c = search (rules, going_laws)

pub loop-cursor-preserved : goal.loop-cursor-preserved
loop-cursor-preserved c = search (rules, going_laws)

pub enum_known-no : goal.enum_known-no
enum_known-no c = search (rules, going_laws)

pub stop-requires : goal.stop-requires
stop-requires c = search (rules, going_laws)

pub shape_of-atoms-in-Refused : goal.shape_of-atoms-in-Refused
shape_of-atoms-in-Refused c = search (rules, going_laws)

pub shape_of-bonds-in-Refused : goal.shape_of-bonds-in-Refused
shape_of-bonds-in-Refused c = search (rules, going_laws)

pub returns-in-Refused : goal.returns-in-Refused
returns-in-Refused c = search (rules, going_laws)

pub shape_of-atoms : goal.shape_of-atoms
shape_of-atoms c = search (rules, going_laws)

pub shape_of-bonds : goal.shape_of-bonds
shape_of-bonds c = search (rules, going_laws)

pub returns : goal.returns
returns c = search (rules, going_laws)
