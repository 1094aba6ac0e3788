-- `writer_catalogue::write_file` meets its contract.
use borrow.Author.Rules.{rules}
use Prim.Native.Nat.{◌-◌}
use lib.ListN.{length}
use Rattle.writer_catalogue.specs.TwoPasses.{Filling, filling_laws}
use Rattle.writer_catalogue.proofs.write_file.Goals as goal

pub new-cursor-requires : goal.new-cursor-requires
new-cursor-requires c = search (rules, filling_laws)

pub loop-cursor-init : goal.loop-cursor-init
loop-cursor-init c = search (rules, filling_laws)

pub slice_bounds-write_next-count : goal.slice_bounds-write_next-count
slice_bounds-write_next-count c = search (rules, filling_laws)

pub slice_bounds-write_next-start : goal.slice_bounds-write_next-start
slice_bounds-write_next-start c = search (rules, filling_laws)

pub slice_bounds-write_next-end : goal.slice_bounds-write_next-end
slice_bounds-write_next-end c = search (rules, filling_laws)

pub write_next-wrote-requires : goal.write_next-wrote-requires
write_next-wrote-requires c = search (rules, filling_laws)

pub past-cursor-requires : goal.past-cursor-requires
past-cursor-requires c = search filling_laws

pub loop-cursor-smaller : goal.loop-cursor-smaller
loop-cursor-smaller c = search filling_laws

pub loop-cursor-preserved : goal.loop-cursor-preserved
loop-cursor-preserved c = search (rules, filling_laws)

pub shape_of-atoms : goal.shape_of-atoms
shape_of-atoms c = search (rules, filling_laws)

pub shape_of-bonds : goal.shape_of-bonds
shape_of-bonds c = search (rules, filling_laws)

pub shape_of-room : goal.shape_of-room
shape_of-room c = search (rules, filling_laws)

pub returns : goal.returns
returns c = search (rules, filling_laws)
