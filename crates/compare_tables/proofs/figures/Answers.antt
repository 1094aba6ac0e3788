use Rattle.compare_rules.specs.Noted.{wider, wide_same, figures_alike, figures_apart}
use Rattle.compare_tables.proofs.figures.Goals as goal

pub returns-then-x-y : goal.returns-then-x-y
returns-then-x-y c = figures_alike _ _ _ c.ranges.x c.ranges.y _ c.if-x-y.true

pub overflow_cast-x : goal.overflow_cast-x
overflow_cast-x c = wider _ c.ranges.x

pub overflow_cast-y : goal.overflow_cast-y
overflow_cast-y c = wider _ c.ranges.y

pub returns : goal.returns
returns c =
    figures_apart _ _ _ c.ranges.x c.ranges.y _ _ _ _ c.if-x-y.false (wide_same _ c.ranges.x) (wide_same _ c.ranges.y) c.put.ensures
