-- `writer_row::kind_holds` meets its contract.
use Rattle.writer_row.specs.Row.{kind_holds}
use Rattle.writer_row.proofs.Steps.{tests}
use borrow.Author.Rules.{rules}
use Rattle.writer_row.proofs.kind_holds.Goals as goal

pub returns-then-not-in_range : goal.returns-then-not-in_range
unfolding kind_holds
returns-then-not-in_range c = search tests depth 24 fits 20000

pub returns-then-not-stereo_holds : goal.returns-then-not-stereo_holds
unfolding kind_holds
returns-then-not-stereo_holds c = search tests depth 24 fits 20000

pub returns-then-not-in_range-2 : goal.returns-then-not-in_range-2
unfolding kind_holds
returns-then-not-in_range-2 c = search tests depth 24 fits 20000

pub returns : goal.returns
unfolding kind_holds
returns c = search tests depth 24 fits 20000
