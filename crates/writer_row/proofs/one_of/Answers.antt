-- `writer_row::one_of` meets its contract.
use Rattle.std.proofs.Common.{◌∙◌}
use Rattle.writer_row.proofs.Steps.{contained}
use Rattle.writer_row.proofs.one_of.Goals as goal

pub returns : goal.returns
returns c = c.contains.ensures.value ∙ contained _ _
