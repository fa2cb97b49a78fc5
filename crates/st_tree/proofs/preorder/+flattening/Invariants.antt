-- what is listed so far and what is left to list make the whole list, and the numbers go on to the same ends
use Rattle.std.proofs.Common.{◌≡◌, ◌+◌, ◌++◌, drop}
use Rattle.st_tree.specs.Node.{trees_view}
use Rattle.st_tree.specs.inside.Node.{field_view, fields_view}
use Rattle.st_tree.specs.Size.{item_count, field_count}
use Rattle.st_tree.specs.Preorder.{fields_listed, items_listed, field_cells, item_cells}
use Rattle.st_tree.proofs.preorder.+flattening.Given as goal

abbrev pub invariant-flatten_field-loop-item : goal.invariant-flatten_field-loop-item
invariant-flatten_field-loop-item l = let f = field_view l.field in let left = trees_view (drop l.item-index l.item-items) in record {
  rev : l.naming.rev ≡ l.initial.naming.rev;
  node : l.naming.node + item_count left ≡ l.initial.naming.node + item_count (trees_view l.item-items);
  cell : l.naming.cell + item_cells f.row left ≡ l.initial.naming.cell + item_cells f.row (trees_view l.item-items);
  list : l.nodes ++ items_listed l.naming.rev l.owner.0.at f.key f.row l.naming.node l.naming.cell left
      ≡ l.initial.nodes ++ items_listed l.initial.naming.rev l.owner.0.at f.key f.row l.initial.naming.node l.initial.naming.cell (trees_view l.item-items);
}

abbrev pub invariant-flatten_tree-loop-field : goal.invariant-flatten_tree-loop-field
invariant-flatten_tree-loop-field l = let left = fields_view (drop l.field-index l.field-items) in record {
  rev : l.naming.rev ≡ l.initial.naming.rev;
  node : l.naming.node + field_count left ≡ l.initial.naming.node + field_count (fields_view l.field-items);
  cell : l.naming.cell + field_cells left ≡ l.initial.naming.cell + field_cells (fields_view l.field-items);
  list : l.nodes ++ fields_listed l.naming.rev l.node.0.at l.naming.node l.naming.cell left
      ≡ l.initial.nodes ++ fields_listed l.initial.naming.rev l.node.0.at l.initial.naming.node l.initial.naming.cell (fields_view l.field-items);
}
