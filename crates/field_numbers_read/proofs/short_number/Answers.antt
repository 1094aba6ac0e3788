-- `field_numbers::short_number` meets its contract.
use Rattle.field_numbers.proofs.Fields.{short_laws}
use borrow.Author.Rules.{rules}
use Rattle.field_numbers_read.proofs.short_number.Goals as goal

pub returns-then-line-i : goal.returns-then-line-i
returns-then-line-i c = search (rules, short_laws)

pub returns-then-line-i-ne32 : goal.returns-then-line-i-ne32
returns-then-line-i-ne32 c = search (rules, short_laws)

pub returns-then-c-lt48 : goal.returns-then-c-lt48
returns-then-c-lt48 c = search (rules, short_laws)

pub returns-then-c-gt57 : goal.returns-then-c-gt57
returns-then-c-gt57 c = search (rules, short_laws)

pub returns-then-b-eq32 : goal.returns-then-b-eq32
returns-then-b-eq32 c = search (rules, short_laws)

pub returns-then-b-lt48 : goal.returns-then-b-lt48
returns-then-b-lt48 c = search (rules, short_laws)

pub returns-then-b-gt57 : goal.returns-then-b-gt57
returns-then-b-gt57 c = search (rules, short_laws)

pub returns : goal.returns
returns c = search (rules, short_laws)
