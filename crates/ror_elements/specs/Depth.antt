-- How deep elements stand in each other.
use Rattle.std.specs.Prelude.{ℕ, suc, max}
use Rattle.ror_elements.specs.Tree.{Tree, node, Trees, none, also}

abbrev mutual
  -- 1 for an element with none inside it
  pub tree_depth : Tree → ℕ
  tree_depth (node name id text line inside) = suc (trees_depth inside)

  pub trees_depth : Trees → ℕ
  trees_depth none = 0
  trees_depth (also t ts) = max (tree_depth t) (trees_depth ts)
