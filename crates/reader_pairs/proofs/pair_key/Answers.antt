-- `reader_pairs::pair_key` meets its contract.
use Rattle.reader_pairs.proofs.Keying.{key_laws}
use borrow.Author.Rules.{rules}
use Rattle.reader_pairs.proofs.pair_key.Goals as goal

pub returns-then-first-second : goal.returns-then-first-second
returns-then-first-second c = search (rules, key_laws)

pub returns : goal.returns
returns c = search (rules, key_laws)
