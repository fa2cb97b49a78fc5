-- What a step says of a document, in the words of the tables.
use Rattle.std.specs.Prelude.{◌≡◌, ◌≢◌, ◌⊎◌, [], List, Some, None, IsSome, option_map, unwrap_or}
use Rattle.std.specs.BTreeMap.{get}
use Rattle.std.specs.List.{AllByRecursion}
use Rattle.st_ids.specs.Listing.{Has}
use Rattle.st_ids.specs.Order.{field_cmp, node_cmp}
use Rattle.st_ids.specs.declared.names.CellId.{CellId}
use Rattle.st_ids.specs.declared.names.NodeId.{NodeId}
use Rattle.st_marks.specs.declared.changes.NewNode.{NewNode}
use Rattle.st_marks.specs.declared.marks.Loose.{Loose}
use Rattle.st_marks.specs.declared.marks.Mark.{Mark}
use Rattle.st_marks.specs.declared.marks.RegStep.{RegStep}
use Rattle.st_marks.specs.declared.marks.RowMarks.{RowMarks}
use Rattle.st_marks.specs.declared.places.Slot.{Slot}
use Rattle.st_marks.specs.declared.places.Spot.{Spot}
use Rattle.st_marks.specs.declared.schemas.SchemaEntry.{SchemaEntry}
use Rattle.st_marks.specs.declared.steps.Step.{Step}
use Rattle.st_marks.specs.Listings.{cells_before, cells_made, nodes_new}
use Rattle.st_marks.specs.Row.{spread}
use Rattle.st_normal.specs.Rules.{hole_owners}
use Rattle.st_puts.specs.Seen.{AreAsSeen}
use Rattle.st_forest.specs.declared.forest.Forest.{Forest}
use Rattle.st_forest.specs.declared.forest.Seated.{Seated}

-- a row is as its marks say of it before
abbrev pub RowIsSeen : Forest → RowMarks → Type 0
RowIsSeen F r = AreAsSeen (unwrap_or (get node_cmp F.rows r.node) []) (cells_before (spread r.marks))

-- a register holds whom the step finds there
abbrev pub IsHeld : Forest → RegStep → Type 0
IsHeld F r = get field_cmp F.held r.field ≡ r.before

-- a node is there, and nowhere
abbrev pub IsNowhere : Forest → Loose → Type 0
IsNowhere F l = option_map (λ (s : Seated). s.place) (get node_cmp F.nodes l.node) ≡ Some Spot.Nowhere

-- a node isn't there
abbrev pub IsUnknown : Forest → NewNode → Type 0
IsUnknown F m = get node_cmp F.nodes m.node ≡ None

-- a node is new or there
abbrev pub IsKnown : Forest → List NewNode → NodeId → Type 0
IsKnown F new n = Has (nodes_new new) n ⊎ IsSome (get node_cmp F.nodes n)

-- each owner of an empty cell that a row's marks make is new or there
abbrev pub OwnersAreKnown : Forest → List NewNode → List Mark → Type 0
OwnersAreKnown F new ms = AllByRecursion (IsKnown F new) (hole_owners (spread ms))

-- the marks of a row make no such cell
abbrev pub MakesOthers : CellId → List Mark → Type 0
MakesOthers c ms = AllByRecursion (λ (d : CellId). d ≢ c) (cells_made (spread ms))

-- a slot's cell is none that rows make
abbrev pub IsNotMade : List RowMarks → Slot → Type 0
IsNotMade rows s = AllByRecursion (λ (r : RowMarks). MakesOthers s.cell r.marks) rows

-- no row has a cell that the step makes
abbrev pub CellsAreNew : Forest → List RowMarks → Type 0
CellsAreNew F rows = (n : NodeId) → AllByRecursion (IsNotMade rows) (unwrap_or (get node_cmp F.rows n) [])

-- an entry's revision is that of none of these
abbrev pub IsNotAmong : List SchemaEntry → SchemaEntry → Type 0
IsNotAmong front e = AllByRecursion (λ (f : SchemaEntry). e.rev ≢ f.rev) front

-- what a step finds is so, but for schemas, and the nodes that it makes aren't there
pub record FindsWhatIsSo (F : Forest) (S : Step) : Type 0 where
  pub rows : AllByRecursion (RowIsSeen F) S.rows
  pub held : AllByRecursion (IsHeld F) S.regs
  pub loose : AllByRecursion (IsNowhere F) S.loose
  pub new_nodes : AllByRecursion (IsUnknown F) S.new
  pub owners : AllByRecursion (λ (r : RowMarks). OwnersAreKnown F S.new r.marks) S.rows
