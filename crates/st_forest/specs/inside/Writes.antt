-- What a step writes into the tables, one entry after the other.
use Rattle.std.specs.Prelude.{◌≡◌, ◌<◌, ◌^◌, ◌-◌, Bool, true, false, List, [], ◌∷◌, ◌++◌, map, Option, Some, None, option_map, unwrap_or, length, take, if◌then◌else◌}
use Rattle.std.specs.List.{AllByRecursion, filter_map}
use Rattle.std.specs.BTreeMap.{BTreeMap, get}
use Rattle.st_ids.specs.Listing.{AreDistinct, Has}
use Rattle.st_ids.specs.Order.{field_cmp, node_cmp, same_field, same_node}
use Rattle.st_ids.specs.declared.names.FieldId.{FieldId}
use Rattle.st_ids.specs.declared.names.NodeId.{NodeId}
use Rattle.st_marks.specs.declared.changes.NewNode.{NewNode}
use Rattle.st_marks.specs.declared.marks.How.TheVariants.{Stay, Here, Leave}
use Rattle.st_marks.specs.declared.marks.Mark.{Mark}
use Rattle.st_marks.specs.declared.marks.RegStep.{RegStep}
use Rattle.st_marks.specs.declared.marks.RowMarks.{RowMarks}
use Rattle.st_marks.specs.declared.places.Slot.{Slot}
use Rattle.st_marks.specs.declared.places.Spot.{Spot}
use Rattle.st_marks.specs.declared.schemas.SchemaEntry.{SchemaEntry}
use Rattle.st_marks.specs.declared.schemas.SchemaStep.{SchemaStep}
use Rattle.st_marks.specs.declared.steps.Step.{Step}
use Rattle.st_marks.specs.Row.{spread}
use Rattle.st_forest.specs.RowSteps.{Leads}
use Rattle.st_forest.specs.declared.forest.Forest.{Forest}
use Rattle.st_forest.specs.declared.forest.Seated.{Seated}

-- a value after writes to names, the last of which counts
abbrev pub written : {K V : Type 0} → (K → K → Bool) → List (K × V) → K → V → V
written same [] k v = v
written same (w ∷ ws) k v = written same ws k (if same w.0 k then w.1 else v)

-- ## Nodes that are new

-- a new node, which stands nowhere yet
abbrev pub new_seat : NewNode → NodeId × Option Seated
new_seat m = (m.node, Some (record { node = m; place = Spot.Nowhere }))

abbrev pub new_seats : List NewNode → List (NodeId × Option Seated)
new_seats ms = map new_seat ms

-- ## Where nodes stand

-- whom a mark of a row takes out of it, and whom it puts into it
abbrev pub seat_by : Bool → NodeId → Mark → Option (NodeId × Spot)
seat_by b r (Mark.Skip k) = None
seat_by b r (Mark.Gap c) = None
seat_by b r (Mark.Touch c n Stay) = None
seat_by b r (Mark.Touch c n Here) = None
seat_by true r (Mark.Touch c n Leave) = None
seat_by false r (Mark.Touch c n Leave) = Some (n, Spot.Nowhere)
seat_by b r (Mark.Make c n false) = None
seat_by true r (Mark.Make c n true) = Some (n, Spot.Row r c)
seat_by false r (Mark.Make c n true) = None
seat_by true r (Mark.Fill c n) = Some (n, Spot.Row r c)
seat_by false r (Mark.Fill c n) = None

abbrev pub seats_of_row : Bool → RowMarks → List (NodeId × Spot)
seats_of_row b r = filter_map (seat_by b r.node) r.marks

abbrev pub seats_of_rows : Bool → List RowMarks → List (NodeId × Spot)
seats_of_rows b [] = []
seats_of_rows b (r ∷ rs) = seats_of_row b r ++ seats_of_rows b rs

-- whom a register loses, and who comes into it
abbrev pub seat_in : Bool → RegStep → Option (NodeId × Spot)
seat_in false s = option_map (λ n. (n, Spot.Nowhere)) s.before
seat_in true s = option_map (λ n. (n, Spot.Register s.field)) s.after

abbrev pub seats_of_registers : Bool → List RegStep → List (NodeId × Spot)
seats_of_registers b ss = filter_map (seat_in b) ss

-- the table of nodes, where nodes stand as is written
abbrev pub Table : Type 0
Table = BTreeMap NodeId Seated

abbrev pub reseated : List (NodeId × Spot) → NodeId → Seated → Seated
reseated ws n s = record s { place = written same_node ws n s.place }

abbrev pub AreSeated : List (NodeId × Spot) → Table → Table → Type 0
AreSeated ws old new = (n : NodeId) → get node_cmp new n ≡ option_map (reseated ws n) (get node_cmp old n)

-- all that a step says of where nodes stand: who leaves, and then who comes
abbrev pub step_seats : Step → List (NodeId × Spot)
step_seats S = ((seats_of_rows false S.rows ++ seats_of_registers false S.regs) ++ seats_of_rows true S.rows) ++ seats_of_registers true S.regs

-- ## Rows

-- the marks of each row lead it to the one that R tells, which is short; no row is listed twice
pub record RowsLead (old R : NodeId → List Slot) (rs : List RowMarks) : Type 0 where
  pub lead : AllByRecursion (λ (r : RowMarks). Leads (old r.node) (spread r.marks) (R r.node)) rs
  pub short : (n : NodeId) → length (R n) < 2 ^ 32
  pub once : AreDistinct (λ (r : RowMarks). r.node) rs

-- a row that is listed is the one that R tells, and another is as before
pub record AreLed (old R : NodeId → List Slot) (rs : List RowMarks) (new : NodeId → List Slot) : Type 0 where
  pub there : (r : RowMarks) → Has rs r → new r.node ≡ R r.node
  pub rest : (n : NodeId) → ((r : RowMarks) → Has rs r → same_node r.node n ≡ false) → new n ≡ old n

-- ## Registers

abbrev pub held_after : RegStep → FieldId × Option NodeId
held_after s = (s.field, s.after)

abbrev pub held_writes : List RegStep → List (FieldId × Option NodeId)
held_writes ss = map held_after ss

-- ## Schemas

abbrev pub schemas_after : Option SchemaStep → List SchemaEntry → List SchemaEntry
schemas_after None es = es
schemas_after (Some s) es = take (length es - length s.cut) es ++ s.add

-- ## The forest

-- all tables, as a step says
pub record IsChangedBy (S : Step) (F G : Forest) : Type 0 where
  pub nodes : (n : NodeId) → get node_cmp G.nodes n ≡ option_map (reseated (step_seats S) n) (written same_node (new_seats S.new) n (get node_cmp F.nodes n))
  pub rows : (R : NodeId → List Slot) → RowsLead (λ n. unwrap_or (get node_cmp F.rows n) []) R S.rows
      → AreLed (λ n. unwrap_or (get node_cmp F.rows n) []) R S.rows (λ n. unwrap_or (get node_cmp G.rows n) [])
  pub held : (f : FieldId) → get field_cmp G.held f ≡ written same_field (held_writes S.regs) f (get field_cmp F.held f)
  pub schemas : G.schemas ≡ schemas_after S.schema F.schemas
