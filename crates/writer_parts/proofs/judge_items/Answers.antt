-- `writer_parts::judge_items` meets its contract.
use Rattle.writer_parts.specs.Beside.{items_judged}
use borrow.Author.Rules.{rules}
use Rattle.writer_parts.proofs.judge_items.Goals as goal

pub returns : goal.returns
returns c = search (rules, items_judged)
