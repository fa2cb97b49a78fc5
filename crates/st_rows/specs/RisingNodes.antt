-- Words of the private functions behind `Sequence`.
use Rattle.std.specs.Prelude.{Bool, true, List, [], ◌∷◌}
use Rattle.std.specs.Ordering.{is_lt}
use Rattle.st_ids.specs.Order.{node_cmp}
use Rattle.st_ids.specs.declared.names.NodeId.{NodeId}

-- ## Nodes in rising order

-- whether a node's name is below that of the first of others, if there is one
abbrev pub below_first : NodeId → List NodeId → Bool
below_first n [] = true
below_first n (m ∷ ms) = is_lt (node_cmp n m)
