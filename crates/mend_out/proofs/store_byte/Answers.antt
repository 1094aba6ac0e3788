use Rattle.mend_out.specs.Out.{stored_past}
use borrow.Author.Rules.{rules}
use Rattle.mend_out.proofs.store_byte.Goals as goal

pub returns-else-i-room : goal.returns-else-i-room
returns-else-i-room c = search (rules, stored_past)
