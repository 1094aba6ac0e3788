-- `store_lots::put_key` meets its contract.
use Rattle.store_lots.specs.Memory.{put_key}
use borrow.Author.Rules.{rules}
use Rattle.store_lots.proofs.put_key.Goals as goal

pub returns : goal.returns
unfolding put_key
returns c = search (rules, rules)
