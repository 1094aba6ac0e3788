-- `writer_row::in_range` meets its contract.
use Rattle.writer_row.proofs.Steps.{too_low, up_to}
use borrow.Author.Rules.{rules}
use Rattle.writer_row.proofs.in_range.Goals as goal

pub returns-then-v-low : goal.returns-then-v-low
returns-then-v-low c = too_low _ _ _ c.ranges.low (search rules) c.if-v-low.true

pub returns : goal.returns
returns c = up_to _ _ _ c.ranges.low (search rules) c.if-v-low.false c.requires.1
