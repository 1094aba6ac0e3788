-- `reader_state::Reader::finish` meets its contract.
use borrow.Author.Rules.{rules}
use Rattle.reader_state.specs.StateParts.{finished}
use Rattle.reader_state.proofs.Reader.finish.Goals as goal

pub returns : goal.returns
unfolding finished
returns c = search rules
