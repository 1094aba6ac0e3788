-- A line of a form stands for one value, and where two forms may stand no line has both.
use Rattle.std.specs.Prelude.{[]}
use Rattle.text.specs.Text.{Line}
use Rattle.rules.specs.Forms.{BlankLine, ValueLine}

-- ---- items
pub value_or_blank_lem : {X : Type 0} {l : Line} → ValueLine l → BlankLine l → X
value_or_blank_lem v b = absurd (v.not_blank b.blank)
