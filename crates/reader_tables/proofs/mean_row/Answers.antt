-- `reader_tables::mean_row` meets its contract.
use Rattle.reader_tables.proofs.Rows.{small_places, row_meant}
use borrow.Author.Rules.{rules}
use Rattle.reader_tables.proofs.mean_row.Goals as goal

pub charge_of-charge-requires : goal.charge_of-charge-requires
charge_of-charge-requires c = search (rules, small_places)

pub radical_of-radical-requires : goal.radical_of-radical-requires
radical_of-radical-requires c = search (rules, small_places)

pub number_kept-isotope-requires : goal.number_kept-isotope-requires
number_kept-isotope-requires c = search (rules, small_places)

pub returns : goal.returns
returns c = search (rules, small_places, row_meant)
