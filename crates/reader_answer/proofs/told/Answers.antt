-- `reader_answer::told` meets its contract.
use Rattle.reader_answer.specs.Rows.{told_laws}
use borrow.Author.Rules.{rules}
use Rattle.reader_answer.proofs.told.Goals as goal

pub returns-in-Whole : goal.returns-in-Whole
returns-in-Whole c = record {
  read_value = search (rules, told_laws);
  asked_value = search rules;
}

pub returns-in-Refused : goal.returns-in-Refused
returns-in-Refused c = record {
  read_value = search (rules, told_laws);
  asked_value = search rules;
}
