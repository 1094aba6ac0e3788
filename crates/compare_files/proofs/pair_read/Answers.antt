use Rattle.compare_files.specs.Pair.{pair_laws, pair_small, pair_atoms, pair_bonds}
use borrow.Author.Rules.{rules}
use Rattle.compare_files.proofs.pair_read.Goals as goal

pub slice_bounds-records_apart-end : goal.slice_bounds-records_apart-end
slice_bounds-records_apart-end c = search (rules, pair_laws)

pub slice_bounds-records_apart-count-2 : goal.slice_bounds-records_apart-count-2
slice_bounds-records_apart-count-2 c = search (rules, pair_laws)

pub slice_bounds-records_apart-start-2 : goal.slice_bounds-records_apart-start-2
slice_bounds-records_apart-start-2 c = search (rules, pair_laws)

pub slice_bounds-records_apart-end-2 : goal.slice_bounds-records_apart-end-2
slice_bounds-records_apart-end-2 c = search (rules, pair_laws)

pub slice_bounds-records_apart-end-3 : goal.slice_bounds-records_apart-end-3
slice_bounds-records_apart-end-3 c = search (rules, pair_laws)

pub slice_bounds-records_apart-count-4 : goal.slice_bounds-records_apart-count-4
slice_bounds-records_apart-count-4 c = search (rules, pair_laws)

pub slice_bounds-records_apart-start-4 : goal.slice_bounds-records_apart-start-4
slice_bounds-records_apart-start-4 c = search (rules, pair_laws)

pub slice_bounds-records_apart-end-4 : goal.slice_bounds-records_apart-end-4
slice_bounds-records_apart-end-4 c = search (rules, pair_laws)

pub records_apart-c-requires : goal.records_apart-c-requires
records_apart-c-requires c = record {
  position_bound = (search rules, search pair_small, search pair_small);
  n_in_bounds = (search pair_atoms, search pair_bonds, search pair_atoms, search pair_bonds);
}

pub returns : goal.returns
returns c = search (rules, pair_laws)
