-- Documents and intents of the worked cases.
use Rattle.std.proofs.Common.{ℕ, zero, suc, Bool, true, false, List, [], ◌∷◌, Option, Some, None, cond, ◌||◌}
use Rattle.st_ids.specs.Order.{same_node, same_cell, same_field}
use Rattle.st_ids.specs.declared.names.CellId.{CellId}
use Rattle.st_ids.specs.declared.names.FieldId.{FieldId}
use Rattle.st_ids.specs.declared.names.NodeId.{NodeId}
use Rattle.st_ids.specs.declared.names.Rev.{Rev}
use Rattle.st_marks.specs.declared.changes.NewNode.{NewNode}
use Rattle.st_marks.specs.declared.intents.Group.{Group}
use Rattle.st_marks.specs.declared.intents.Intent.{Intent}
use Rattle.st_marks.specs.declared.intents.Put.{Put}
use Rattle.st_marks.specs.declared.intents.To.{To}
use Rattle.st_marks.specs.declared.places.Slot.{Slot}
use Rattle.st_marks.specs.declared.places.Spot.{Spot}
use Rattle.st_marks.specs.declared.schemas.SchemaEntry.{SchemaEntry}
use Rattle.st_marks.specs.Document.{Document, NodeType, owned_cell}
use Rattle.st_ids.specs.Root.{root, opening}
use Rattle.st_marks.specs.Embedding.{is_among}

-- ## Names

abbrev pub rev : ℕ → ℕ → Rev
rev s n = record { session = s; num = n }

abbrev pub node : ℕ → ℕ → ℕ → NodeId
node s n k = record { 0 = record { rev = rev s n; at = k } }

abbrev pub cell : ℕ → ℕ → ℕ → CellId
cell s n k = record { 0 = record { rev = rev s n; at = k } }

-- the nodes and the cells that the opening made
abbrev pub old : ℕ → NodeId
old k = node 0 0 k

abbrev pub old_cell : ℕ → CellId
old_cell k = cell 0 0 k

-- the register of a node under the key "k"
abbrev pub field : NodeId → FieldId
field n = record { node = n; key = record { 0 = 107 ∷ [] } }

-- full and empty cells
abbrev pub full_cell : CellId → NodeId → Slot
full_cell c n = record { cell = c; node = n; full = true }

abbrev pub empty : CellId → NodeId → Slot
empty c n = record { cell = c; node = n; full = false }

-- ## Documents

abbrev pub some_type : NodeType
some_type = record { ty = []; leaf = None }

abbrev pub opening_entry : SchemaEntry
opening_entry = record { rev = opening; text = [] }

-- the root's row with the nodes 0.0.1 and 0.0.2
abbrev pub two : Document
two = record {
  nodes = λ n. cond (is_among (root ∷ old 1 ∷ old 2 ∷ []) n) (Some some_type) None;
  rows = λ n. cond (same_node n root) (owned_cell (old_cell 0) (old 1) ∷ owned_cell (old_cell 1) (old 2) ∷ []) [];
  row_of = λ c. cond (same_cell c (old_cell 0) || same_cell c (old_cell 1)) (Some root) None;
  place = λ n. cond (same_node n (old 1)) (Spot.Row root (old_cell 0)) (cond (same_node n (old 2)) (Spot.Row root (old_cell 1)) Spot.Nowhere);
  held = λ f. None;
  schemas = opening_entry ∷ [];
}

-- 0.0.1 in the root's row, and 0.0.2 in the register of 0.0.1
abbrev pub one_held : Document
one_held = record {
  nodes = λ n. cond (is_among (root ∷ old 1 ∷ old 2 ∷ []) n) (Some some_type) None;
  rows = λ n. cond (same_node n root) (owned_cell (old_cell 0) (old 1) ∷ []) [];
  row_of = λ c. cond (same_cell c (old_cell 0)) (Some root) None;
  place = λ n. cond (same_node n (old 1)) (Spot.Row root (old_cell 0)) (cond (same_node n (old 2)) (Spot.Register (field (old 1))) Spot.Nowhere);
  held = λ f. cond (same_field f (field (old 1))) (Some (old 2)) None;
  schemas = opening_entry ∷ [];
}

-- ## Intents

abbrev pub intent : Rev → List NewNode → List Group → List FieldId → List Put → Intent
intent r new groups clear put = record { rev = r; under = opening; new = new; groups = groups; clear = clear; put = put; need = []; schema = None }

abbrev pub new : NodeId → NewNode
new n = record { node = n; ty = []; leaf = None }

abbrev pub group : NodeId → Option CellId → CellId → NodeId → Group
group n after c o = record { node = n; after = after; cells = owned_cell c o ∷ [] }

abbrev pub puts : NodeId → To → Put
puts n to = record { node = n; to = to }

-- session s inserts its node into the root's row, after a cell or at the row's start
abbrev pub inserts : ℕ → Option CellId → Intent
inserts s after = intent (rev s 1) (new (node s 1 0) ∷ []) (group root after (cell s 1 0) (node s 1 0) ∷ []) [] (puts (node s 1 0) (To.Cell (cell s 1 0)) ∷ [])

-- session s removes a node
abbrev pub removes : ℕ → NodeId → Intent
removes s n = intent (rev s 1) [] [] [] (puts n To.Nowhere ∷ [])

-- session s moves a node to the start of another's row
abbrev pub moves : ℕ → NodeId → NodeId → Intent
moves s n to = intent (rev s 1) [] (group to None (cell s 1 0) n ∷ []) [] (puts n (To.Cell (cell s 1 0)) ∷ [])

-- session 1 puts a new node into the register of 0.0.1
abbrev pub sets : Intent
sets = intent (rev 1 1) (new (node 1 1 0) ∷ []) [] (field (old 1) ∷ []) (puts (node 1 1 0) (To.Register (field (old 1))) ∷ [])

-- the number of a node, to tell two nodes apart
abbrev pub number : Option NodeId → ℕ
number None = 0
number (Some n) = n.0.at

-- whether a number is 1
abbrev pub is_one : ℕ → Bool
is_one zero = false
is_one (suc zero) = true
is_one (suc (suc k)) = false
