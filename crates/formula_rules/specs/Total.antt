-- A formula multiplied out: how many atoms of an element it names.
use Rattle.std.specs.Prelude.{ℕ, ◌+◌, ◌*◌, cond, eqb}
use Rattle.formula_rules.specs.Formula.{Tree, Trees, atom, group, more}

unfoldable mutual
  pub count_tree : Tree → ℕ → ℕ
  count_tree (atom k c) j = cond (eqb k j) c 0
  count_tree (group ts c) j = c * count_trees ts j

  pub count_trees : Trees → ℕ → ℕ
  count_trees Trees.none j = 0
  count_trees (more t ts) j = count_tree t j + count_trees ts j
