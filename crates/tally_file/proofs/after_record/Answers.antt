use Rattle.tally_file.specs.Counting.{past_laws}
use borrow.Author.Rules.{rules}
use Rattle.tally_file.proofs.after_record.Goals as goal

pub past-requires : goal.past-requires
past-requires c = search (rules, past_laws)

pub returns-in-Whole : goal.returns-in-Whole
returns-in-Whole c = search past_laws

pub returns-in-Refused : goal.returns-in-Refused
returns-in-Refused c = search past_laws
