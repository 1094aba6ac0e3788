-- A formula's counts added into a table, one place an element, capped at every step: a cap one above what is allowed tells as much as the true number.
use Rattle.std.specs.Prelude.{ℕ, ◌+◌, ◌*◌, ◌≤◌, List, Bool, true, false, cond, leb, get_or, set}
use Rattle.formula_rules.specs.Formula.{Tree, Trees, atom, group, more}
use Rattle.formula_rules.specs.Parse.{UnitRead, unit, UnitsRead, units}

-- the cap: one above `most`
unfoldable pub sat : ℕ → ℕ
sat n = cond (leb n 10000) n 10000

unfoldable pub Below : List ℕ → Type 0
Below t = (j : ℕ) → get_or t j 0 ≤ 10000

unfoldable mutual
  pub add_tree : ℕ → Tree → List ℕ → List ℕ
  add_tree m (atom k c) t = set t k (sat (get_or t k 0 + sat (m * c)))
  add_tree m (group ts c) t = add_trees (sat (m * c)) ts t

  pub add_trees : ℕ → Trees → List ℕ → List ℕ
  add_trees m Trees.none t = t
  add_trees m (more x ts) t = add_trees m ts (add_tree m x t)

abbrev pub read_units : UnitsRead → Bool
read_units (units e ts) = true
read_units UnitsRead.no = false

abbrev pub read_unit : UnitRead → Bool
read_unit (unit e t) = true
read_unit UnitRead.no = false

unfoldable pub added_units : ℕ → UnitsRead → List ℕ → List ℕ
added_units m (units e ts) t = add_trees m ts t
added_units m UnitsRead.no t = t

unfoldable pub added_unit : ℕ → UnitRead → List ℕ → List ℕ
added_unit m (unit e x) t = add_tree m x t
added_unit m UnitRead.no t = t
