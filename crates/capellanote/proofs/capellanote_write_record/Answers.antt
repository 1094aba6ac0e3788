-- `capellanote::capellanote_write_record` meets its contract.
use Rattle.capellanote.specs.Write.{written_laws}
use borrow.Author.Rules.{rules}
use Rattle.capellanote.proofs.capellanote_write_record.Goals as goal

pub returns : goal.returns
returns c = search (rules, written_laws)
