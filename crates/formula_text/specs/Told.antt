-- Readings as the code answers them.
use Rattle.std.specs.Prelude.{ℕ, Option, Some, None}
use Rattle.formula_rules.specs.Parse.{CountRead, UnitRead, UnitsRead, count, unit, units}

unfoldable pub told_count : CountRead → Option ℕ
told_count (count e c) = Some e
told_count CountRead.no = None

unfoldable pub told_unit : UnitRead → Option ℕ
told_unit (unit e t) = Some e
told_unit UnitRead.no = None

unfoldable pub told_units : UnitsRead → Option ℕ
told_units (units e ts) = Some e
told_units UnitsRead.no = None
