-- `reader_state::at_place` meets its contract.
use Rattle.reader_state.proofs.Places.{place_laws, untitled}
use borrow.Author.Rules.{rules}
use Rattle.reader_state.proofs.at_place.Goals as goal

pub at_atoms-requires : goal.at_atoms-requires
at_atoms-requires c = search (rules, place_laws, untitled)

pub at_bonds-requires : goal.at_bonds-requires
at_bonds-requires c = search (rules, place_laws, untitled)

pub returns-in-Header : goal.returns-in-Header
returns-in-Header c = record {
  result_value = search place_laws;
  kept_at = search place_laws;
  listed_len_2 = search rules;
  title_in = search untitled;
}

pub returns-in-Counts : goal.returns-in-Counts
returns-in-Counts c = record {
  result_value = search place_laws;
  kept_at = search place_laws;
  listed_len_2 = search rules;
  title_in = search untitled;
}

pub returns-in-Atoms : goal.returns-in-Atoms
returns-in-Atoms c = record {
  result_value = search place_laws;
  kept_at = search place_laws;
  listed_len_2 = search rules;
  title_in = search untitled;
}

pub returns-in-Bonds : goal.returns-in-Bonds
returns-in-Bonds c = record {
  result_value = search place_laws;
  kept_at = search place_laws;
  listed_len_2 = search rules;
  title_in = search untitled;
}

pub returns-in-Properties : goal.returns-in-Properties
returns-in-Properties c = record {
  result_value = search place_laws;
  kept_at = search place_laws;
  listed_len_2 = search rules;
  title_in = search untitled;
}

pub returns-in-Over : goal.returns-in-Over
returns-in-Over c = record {
  result_value = search place_laws;
  kept_at = search place_laws;
  listed_len_2 = search rules;
  title_in = search untitled;
}

pub returns-in-Items : goal.returns-in-Items
returns-in-Items c = record {
  result_value = search place_laws;
  kept_at = search place_laws;
  listed_len_2 = search rules;
  title_in = search untitled;
}

pub returns-in-Values : goal.returns-in-Values
returns-in-Values c = record {
  result_value = search place_laws;
  kept_at = search place_laws;
  listed_len_2 = search rules;
  title_in = search untitled;
}
