use Rattle.std.proofs.Common.{◌∙◌}
use Rattle.mend_lines.specs.Deeds.{item_ok}
use Rattle.mend_lines.proofs.is_good_item.Goals as goal

pub returns : goal.returns
returns c = c.is_ok.ensures.value ∙ item_ok _ _ c.item_line.ensures.result_value
