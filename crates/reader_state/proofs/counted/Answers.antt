-- `reader_state::counted` meets its contract.
use Rattle.reader_state.proofs.Places.{counted_is}
use borrow.Author.Rules.{rules}
use Rattle.reader_state.proofs.counted.Goals as goal

pub returns : goal.returns
returns c = search (rules, counted_is)
