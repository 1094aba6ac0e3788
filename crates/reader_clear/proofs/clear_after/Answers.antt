-- `reader_clear::clear_after` meets its contract.
use Rattle.reader_answer.specs.Rows.{clearing_laws}
use borrow.Author.Rules.{rules}
use Rattle.reader_clear.proofs.clear_after.Goals as goal

pub enum_known-got : goal.enum_known-got
enum_known-got c = search (rules, clearing_laws)

pub clear_rest-requires : goal.clear_rest-requires
clear_rest-requires c = search (rules, clearing_laws)

pub enum_told-1 : goal.enum_told-1
enum_told-1 c = search (rules, clearing_laws)

pub clear_rest-requires-in-Refused : goal.clear_rest-requires-in-Refused
clear_rest-requires-in-Refused c = search (rules, clearing_laws)

pub shape_of-atoms-in-Read : goal.shape_of-atoms-in-Read
shape_of-atoms-in-Read c = search (rules, clearing_laws)

pub shape_of-bonds-in-Read : goal.shape_of-bonds-in-Read
shape_of-bonds-in-Read c = search (rules, clearing_laws)

pub returns-in-Read : goal.returns-in-Read
returns-in-Read c = search (rules, clearing_laws)

pub shape_of-atoms-in-Refused : goal.shape_of-atoms-in-Refused
shape_of-atoms-in-Refused c = search (rules, clearing_laws)

pub shape_of-bonds-in-Refused : goal.shape_of-bonds-in-Refused
shape_of-bonds-in-Refused c = search (rules, clearing_laws)

pub returns-in-Refused : goal.returns-in-Refused
returns-in-Refused c = search (rules, clearing_laws)
