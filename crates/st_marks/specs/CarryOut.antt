-- What a document becomes by an intent: carried out whole, or void.
use Rattle.std.specs.Prelude.{ℕ, Bool, false, List, [], ◌∷◌, ◌++◌, Option, Some, None, is_some, ◌&&◌, if◌then◌else◌}
use Rattle.std.specs.Option.{option_or, option_map_or}
use Rattle.st_ids.specs.declared.names.CellId.{CellId}
use Rattle.st_ids.specs.declared.names.NodeId.{NodeId}
use Rattle.st_marks.specs.declared.intents.Intent.{Intent}
use Rattle.st_marks.specs.declared.intents.Owned.{Owned}
use Rattle.st_marks.specs.declared.intents.To.{To}
use Rattle.st_marks.specs.declared.places.Spot.{Spot}
use Rattle.st_marks.specs.declared.schemas.SchemaEntry.{SchemaEntry}
use Rattle.st_marks.specs.Document.{Document, node_of}
use Rattle.st_marks.specs.Intent.{new_type, is_new, put_of, put_in, clears, group_at, new_row_of}

-- ## New names

-- a row with each group directly after its anchor
abbrev pub with_groups : Intent → NodeId → List Owned → List Owned
with_groups N n [] = []
with_groups N n (o ∷ os) = o ∷ (group_at N n (Some o.cell) ++ with_groups N n os)

-- the document with the nodes and the cells that the intent makes, and nothing moved
abbrev pub with_names : Document → Intent → Document
with_names D N = record D {
  nodes = λ n. option_or (D.nodes n) (new_type N n);
  rows = λ n. group_at N n None ++ with_groups N n (D.rows n);
  row_of = λ c. option_or (D.row_of c) (new_row_of N c);
}

-- ## Places

-- the place to which a put leads, where `row_of` tells the row of each cell
abbrev pub spot_of : (CellId → Option NodeId) → To → Spot
spot_of row_of To.Nowhere = Spot.Nowhere
spot_of row_of (To.Cell c) = option_map_or (λ n. Spot.Row n c) (row_of c) Spot.Nowhere
spot_of row_of (To.Register f) = Spot.Register f

-- the occupant of a register that is cleared goes nowhere
abbrev pub unless_cleared : Intent → Spot → Spot
unless_cleared N Spot.Nowhere = Spot.Nowhere
unless_cleared N (Spot.Row n c) = Spot.Row n c
unless_cleared N (Spot.Register f) = if clears N f then Spot.Nowhere else Spot.Register f

-- a node's place after the clears and then the puts, by where it is put and where it stood
abbrev pub place_after : (CellId → Option NodeId) → Intent → Option To → Spot → Spot
place_after row_of N None spot = unless_cleared N spot
place_after row_of N (Some to) spot = spot_of row_of to

-- the occupant of a register leaves it when it is put
abbrev pub unless_put : Intent → Option NodeId → Option NodeId
unless_put N None = None
unless_put N (Some n) = if is_some (put_of N n) then None else Some n

-- ## Carried out whole

-- the entries in effect, and then that of a change of schema
abbrev pub with_schema : Intent → Option (List ℕ) → List SchemaEntry → List SchemaEntry
with_schema N None entries = entries
with_schema N (Some text) entries = entries ++ record { rev = N.rev; text = text } ∷ []

-- new nodes and cells; then the occupants of cleared registers nowhere; then each node where it is put
abbrev pub full : Document → Intent → Document
full D N = record (with_names D N) {
  place = λ n. place_after (with_names D N).row_of N (put_of N n) (D.place n);
  held = λ f. option_or (put_in N f) (if clears N f then None else unless_put N (D.held f));
  schemas = with_schema N N.schema D.schemas;
}

-- ## Void

-- whether a node is put into a row or register of a new node
abbrev pub is_put_in_new : Document → Intent → NodeId → Bool
is_put_in_new D N n = option_map_or (λ to. option_map_or (is_new N) (node_of (spot_of (with_names D N).row_of to)) false) (put_of N n) false

-- the node, if it is new
abbrev pub only_new : Intent → Option NodeId → Option NodeId
only_new N None = None
only_new N (Some n) = if is_new N n then Some n else None

-- the same new nodes and cells; only new nodes that are put inside new nodes are placed
abbrev pub void_data : Document → Intent → Document
void_data D N = record (with_names D N) {
  place = λ n. if is_new N n && is_put_in_new D N n then place_after (with_names D N).row_of N (put_of N n) (D.place n) else D.place n;
  held = λ f. if is_new N f.node then only_new N (put_in N f) else D.held f;
}

-- a void change of schema changes nothing
abbrev pub void : Document → Intent → Document
void D N = option_map_or (λ _. D) N.schema (void_data D N)
