use Rattle.std.proofs.Common.{[], take, unwrap_or}
use Rattle.std.proofs.Common.{List as Seq}
use Rattle.std.specs.BTreeMap.{get}
use Rattle.st_ids.specs.declared.names.NodeId.{NodeId as Node}
use Rattle.st_ids.specs.Order.{node_cmp}
use Rattle.st_marks.specs.declared.places.Slot.{Slot as AnySlot}
use Rattle.st_forest.specs.inside.Writes.{AreLed, RowsLead}
use Rattle.st_forest.proofs.apply.change_rows.Given as goal

abbrev pub invariant-loop-row : goal.invariant-loop-row
invariant-loop-row l = (R : Node → Seq AnySlot) → RowsLead (λ n. unwrap_or (get node_cmp l.initial.rows n) []) R l.listed
    → AreLed (λ n. unwrap_or (get node_cmp l.initial.rows n) []) R (take l.row-index l.listed) (λ n. unwrap_or (get node_cmp l.rows n) [])
