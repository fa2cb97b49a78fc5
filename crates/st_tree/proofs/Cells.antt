-- There are no more cells than nodes.
use Rattle.std.proofs.Common.{◌+◌, ◌≤◌, Bool, true, false, arith}
use Rattle.st_tree.specs.Node.{Node, node, Fields, no_fields, field, Nodes, no_nodes, first}
use Rattle.st_tree.specs.Size.{node_count, field_count, item_count}
use Rattle.st_tree.specs.Preorder.{cells_taken, cell_count, field_cells, item_cells}

taken_one : (row : Bool) → cells_taken row ≤ 1
taken_one true = omega arith
taken_one false = omega arith

mutual
  pub cells_fit : (t : Node) → cell_count t + 1 ≤ node_count t
  cells_fit (node ty leaf fields) = omega (arith, field_cells_fit fields)

  pub field_cells_fit : (fs : Fields) → field_cells fs ≤ field_count fs
  field_cells_fit no_fields = omega arith
  field_cells_fit (field key row items rest) = omega (arith, item_cells_fit row items, field_cells_fit rest)

  pub item_cells_fit : (row : Bool) (ts : Nodes) → item_cells row ts ≤ item_count ts
  item_cells_fit row no_nodes = omega arith
  item_cells_fit row (first t ts) = omega (arith, taken_one row, cells_fit t, item_cells_fit row ts)
