use Rattle.reader_resume.specs.Laws.{next_laws, left_laws}
use borrow.Author.Rules.{rules}
use Rattle.reader_resume.proofs.Asked.next.Goals as goal

pub returns-in-Whole : goal.returns-in-Whole
returns-in-Whole c = record {
  value = search (rules, next_laws);
  atoms_len_unchanged = search (rules, left_laws);
  bonds_len_unchanged = search (rules, left_laws);
  listed_len = search (rules, left_laws);
  keys_len = search rules;
}

pub returns-in-Refused : goal.returns-in-Refused
returns-in-Refused c = record {
  value = search (rules, next_laws);
  atoms_len_unchanged = search (rules, left_laws);
  bonds_len_unchanged = search (rules, left_laws);
  listed_len = search (rules, left_laws);
  keys_len = search rules;
}
