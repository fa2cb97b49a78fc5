-- How many nodes a tree has, and how deep they stand.
use Rattle.std.specs.Prelude.{ℕ, ◌+◌, max, nat_lt, Result, Ok, Err, if◌then◌else◌}
use Rattle.st_tree.specs.Node.{Node, node, Fields, no_fields, field, Nodes, no_nodes, first}
use Rattle.st_tree.specs.declared.limits.TreeFault.{TreeFault}
use Rattle.st_tree.specs.declared.limits.TreeFault.TheVariants.{TooDeep, TooMany}

-- how many nodes there are
abbrev mutual
  pub node_count : Node → ℕ
  node_count (node ty leaf fields) = 1 + field_count fields

  pub field_count : Fields → ℕ
  field_count no_fields = 0
  field_count (field key row items rest) = item_count items + field_count rest

  pub item_count : Nodes → ℕ
  item_count no_nodes = 0
  item_count (first t ts) = node_count t + item_count ts

-- how many levels there are, the top node being one
abbrev mutual
  pub height : Node → ℕ
  height (node ty leaf fields) = 1 + fields_height fields

  pub fields_height : Fields → ℕ
  fields_height no_fields = 0
  fields_height (field key row items rest) = max (items_height items) (fields_height rest)

  pub items_height : Nodes → ℕ
  items_height no_nodes = 0
  items_height (first t ts) = max (height t) (items_height ts)

-- the limits of trees together: 1,024 nodes, which is judged first, and 48 levels
abbrev pub check_items : Nodes → Result (Unit {0}) TreeFault
check_items ts = if nat_lt 1024 (item_count ts) then Err TooMany else (if nat_lt 48 (items_height ts) then Err TooDeep else Ok tt)

-- the limits of one tree
abbrev pub check_of : Node → Result (Unit {0}) TreeFault
check_of t = if nat_lt 1024 (node_count t) then Err TooMany else (if nat_lt 48 (height t) then Err TooDeep else Ok tt)
