use Rattle.tally_flat.specs.Steps.{byte_past}
use borrow.Author.Rules.{rules}
use Rattle.tally_flat.proofs.byte_or_zero.Goals as goal

pub returns : goal.returns
returns c = search (rules, byte_past)
