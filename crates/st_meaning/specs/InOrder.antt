-- Intents whose lists stand in the order of their names.
use Rattle.std.specs.Prelude.{◌≢◌, [], Option}
use Rattle.std.specs.List.{AllByRecursion}
use Rattle.std.specs.Option.{option_cmp}
use Rattle.std.specs.Ordering.{ordering_then}
use Rattle.std.specs.declared.cmp.Ordering.{Ordering}
use Rattle.st_ids.specs.Listing.{IsRising}
use Rattle.st_ids.specs.Order.{cell_cmp, field_cmp, node_cmp}
use Rattle.st_ids.specs.declared.names.CellId.{CellId}
use Rattle.st_ids.specs.declared.names.FieldId.{FieldId}
use Rattle.st_ids.specs.declared.names.NodeId.{NodeId}
use Rattle.st_marks.specs.declared.changes.NewNode.{NewNode}
use Rattle.st_marks.specs.declared.intents.Group.{Group}
use Rattle.st_marks.specs.declared.intents.Intent.{Intent}
use Rattle.st_marks.specs.declared.intents.Put.{Put}

-- the order of places: by node, and then the row's start before its cells
abbrev pub place_cmp : NodeId × Option CellId → NodeId × Option CellId → Ordering
place_cmp p q = ordering_then (node_cmp p.0 q.0) (option_cmp cell_cmp p.1 q.1)

-- where a group stands
abbrev pub place_of : Group → NodeId × Option CellId
place_of g = (g.node, g.after)

-- each list rises by name, groups by their places, and no group is empty
pub record IsInOrder (N : Intent) : Type 0 where
  pub new : IsRising node_cmp (λ (m : NewNode). m.node) N.new
  pub groups : IsRising place_cmp place_of N.groups
  pub groups_some : AllByRecursion (λ (g : Group). g.cells ≢ []) N.groups
  pub clear : IsRising field_cmp (λ (f : FieldId). f) N.clear
  pub put : IsRising node_cmp (λ (p : Put). p.node) N.put
  pub need : IsRising node_cmp (λ (n : NodeId). n) N.need
