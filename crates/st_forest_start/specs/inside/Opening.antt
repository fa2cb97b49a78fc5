-- The rows of an opening document, from the list of its nodes in preorder.
use Rattle.std.specs.Prelude.{List, Option, option_map}
use Rattle.std.specs.List.{filter_map}
use Rattle.st_ids.specs.declared.names.NodeId.{NodeId}
use Rattle.st_marks.specs.declared.intents.Owned.{Owned}
use Rattle.st_marks.specs.declared.places.Slot.{Slot}
use Rattle.st_marks.specs.declared.places.Spot.{Spot}
use Rattle.st_marks.specs.Document.{is_cell}
use Rattle.st_tree.specs.declared.flat.FlatNode.{FlatNode}
use Rattle.st_opening.specs.Start.{cell_at}

-- a cell, full where its owner stands in it
abbrev pub slot_by : (NodeId → Spot) → Owned → Slot
slot_by place o = record { cell = o.cell; node = o.node; full = is_cell o.cell (place o.node) }

-- the slot in a node's row in which a node of the list stands, if it stands there
abbrev pub slot_at : (NodeId → Spot) → NodeId → FlatNode → Option Slot
slot_at place n x = option_map (slot_by place) (cell_at n x.node x.at)

abbrev pub slots_of : (NodeId → Spot) → NodeId → List FlatNode → List Slot
slots_of place n xs = filter_map (slot_at place n) xs
