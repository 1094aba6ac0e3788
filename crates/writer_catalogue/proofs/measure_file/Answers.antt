-- `writer_catalogue::measure_file` meets its contract.
use borrow.Author.Rules.{rules}
use Prim.Native.Nat.{◌-◌}
use lib.ListN.{length}
use Rattle.writer_catalogue.specs.Measuring.{Measuring, measuring_laws}
use Rattle.writer_catalogue.proofs.measure_file.Goals as goal

pub new-cursor-requires : goal.new-cursor-requires
new-cursor-requires c = search (rules, measuring_laws)

pub loop-cursor-init : goal.loop-cursor-init
loop-cursor-init c = search (rules, measuring_laws)

pub slice_bounds-measure_next-count : goal.slice_bounds-measure_next-count
slice_bounds-measure_next-count c = search (rules, measuring_laws)

pub slice_bounds-measure_next-start : goal.slice_bounds-measure_next-start
slice_bounds-measure_next-start c = search (rules, measuring_laws)

pub slice_bounds-measure_next-end : goal.slice_bounds-measure_next-end
slice_bounds-measure_next-end c = search (rules, measuring_laws)

pub measure_next-requires : goal.measure_next-requires
measure_next-requires c = search (rules, measuring_laws)

pub enum_known-length : goal.enum_known-length
enum_known-length c = search (rules, measuring_laws)

pub past-cursor-requires : goal.past-cursor-requires
past-cursor-requires c = search measuring_laws

pub loop-cursor-smaller : goal.loop-cursor-smaller
loop-cursor-smaller c = search measuring_laws

pub loop-cursor-preserved : goal.loop-cursor-preserved
loop-cursor-preserved c = search (rules, measuring_laws)

pub enum_known-no : goal.enum_known-no
enum_known-no c = search (rules, measuring_laws)

pub line_of-requires : goal.line_of-requires
line_of-requires c = search measuring_laws

pub shape_of-atoms-in-Refused : goal.shape_of-atoms-in-Refused
shape_of-atoms-in-Refused c = search (rules, measuring_laws)

pub shape_of-bonds-in-Refused : goal.shape_of-bonds-in-Refused
shape_of-bonds-in-Refused c = search (rules, measuring_laws)

pub returns-in-Refused : goal.returns-in-Refused
returns-in-Refused c = record { value = search measuring_laws; beside = search measuring_laws; beside_2 = search measuring_laws }

pub conclude-requires : goal.conclude-requires
conclude-requires c = search (rules, measuring_laws)

pub shape_of-atoms : goal.shape_of-atoms
shape_of-atoms c = search (rules, measuring_laws)

pub shape_of-bonds : goal.shape_of-bonds
shape_of-bonds c = search (rules, measuring_laws)

pub returns : goal.returns
returns c = search (rules, measuring_laws)
