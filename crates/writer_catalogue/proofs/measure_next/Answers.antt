-- `writer_catalogue::measure_next` meets its contract.
use borrow.Author.Rules.{rules}
use Rattle.writer_copy.specs.WorkTables.{read_atoms, read_bonds}
use Rattle.writer_catalogue.specs.Sizes.{next_headers, next_items, next_items_end, next_measurable, next_whole, next_refused}
use Rattle.writer_catalogue.proofs.measure_next.Goals as goal

pub slice_bounds-measure_record-end : goal.slice_bounds-measure_record-end
slice_bounds-measure_record-end c = search next_headers

pub slice_bounds-measure_record-count-in-Read : goal.slice_bounds-measure_record-count-in-Read
slice_bounds-measure_record-count-in-Read c = search next_items

pub slice_bounds-measure_record-start-in-Read : goal.slice_bounds-measure_record-start-in-Read
slice_bounds-measure_record-start-in-Read c = search next_items

pub slice_bounds-measure_record-end-in-Read : goal.slice_bounds-measure_record-end-in-Read
slice_bounds-measure_record-end-in-Read c = search next_items_end

pub measure_record-requires : goal.measure_record-requires
measure_record-requires c = search next_measurable

pub returns-in-Read : goal.returns-in-Read
returns-in-Read c = record {
  value = search next_whole;
  beside = search read_atoms;
  beside_2 = search read_bonds;
}

pub returns-in-Refused : goal.returns-in-Refused
returns-in-Refused c = record {
  value = search next_refused;
  beside = search read_atoms;
  beside_2 = search read_bonds;
}
