-- How deep groups stand in each other.
use Rattle.std.specs.Prelude.{ℕ, zero, suc}
use Rattle.formula_rules.specs.Formula.{Tree, Trees, atom, group, none, more}

-- nested to d at most
unfoldable mutual
  pub TreeIn : Tree → ℕ → Type 0
  TreeIn (atom k c) d = Unit {0}
  TreeIn (group ts c) zero = ⊥
  TreeIn (group ts c) (suc d) = TreesIn ts d

  pub TreesIn : Trees → ℕ → Type 0
  TreesIn Trees.none d = Unit {0}
  TreesIn (more t ts) d = TreeIn t d × TreesIn ts d

-- groups may nest so deep
abbrev pub deepest : ℕ
deepest = 8
