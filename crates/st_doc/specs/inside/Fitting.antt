-- Whether an intent fits a document, as tests. Who owns a cell is looked for in the row where the cell is.
use Rattle.std.specs.Prelude.{ℕ, Bool, true, false, not, ◌&&◌, ◌||◌, List, Option, Some, None, is_some}
use Rattle.std.specs.List.{list_any, list_all}
use Rattle.st_ids.specs.Order.{same_rev, same_node, same_cell}
use Rattle.st_ids.specs.declared.names.CellId.{CellId}
use Rattle.st_ids.specs.declared.names.FieldId.{FieldId}
use Rattle.st_ids.specs.declared.names.NodeId.{NodeId}
use Rattle.st_marks.specs.declared.changes.NewNode.{NewNode}
use Rattle.st_marks.specs.declared.intents.Group.{Group}
use Rattle.st_marks.specs.declared.intents.Intent.{Intent}
use Rattle.st_marks.specs.declared.intents.Owned.{Owned}
use Rattle.st_marks.specs.declared.intents.Put.{Put}
use Rattle.st_marks.specs.declared.intents.To.{To}
use Rattle.st_marks.specs.declared.schemas.SchemaEntry.{SchemaEntry}
use Rattle.st_marks.specs.Document.{Document}
use Rattle.st_marks.specs.Intent.{is_new}

-- ## New names are not there yet

abbrev pub nodes_fresh : Document → Intent → Bool
nodes_fresh D N = list_all (λ (m : NewNode). not (is_some (D.nodes m.node))) N.new

abbrev pub cells_fresh : Document → Intent → Bool
cells_fresh D N = list_all (λ (g : Group). list_all (λ (o : Owned). not (is_some (D.row_of o.cell))) g.cells) N.groups

abbrev pub schema_fresh : Document → Intent → Option (List ℕ) → Bool
schema_fresh D N None = true
schema_fresh D N (Some text) = list_all (λ (e : SchemaEntry). not (same_rev e.rev N.rev)) D.schemas

-- ## Old names are there

abbrev pub is_known : Document → Intent → NodeId → Bool
is_known D N n = is_new N n || is_some (D.nodes n)

-- a node is there, and is that one
abbrev pub is_that : Option NodeId → NodeId → Bool
is_that None n = false
is_that (Some m) n = same_node m n

-- the cell, if there is one, is in the row
abbrev pub anchor_known : Document → NodeId → Option CellId → Bool
anchor_known D n None = true
anchor_known D n (Some c) = is_that (D.row_of c) n

abbrev pub group_known : Document → Intent → Group → Bool
group_known D N g = is_known D N g.node && anchor_known D g.node g.after

abbrev pub owners_known : Document → Intent → Bool
owners_known D N = list_all (λ (g : Group). list_all (λ (o : Owned). is_known D N o.node) g.cells) N.groups

-- among cells there is that one, with that owner
abbrev pub has_owned : CellId → NodeId → List Owned → Bool
has_owned c n cells = list_any (λ (o : Owned). same_cell o.cell c && same_node o.node n) cells

abbrev pub owns_old : Document → NodeId → CellId → Option NodeId → Bool
owns_old D n c None = false
owns_old D n c (Some r) = has_owned c n (D.rows r)

abbrev pub owns_new : Intent → NodeId → CellId → Bool
owns_new N n c = list_any (λ (g : Group). has_owned c n g.cells) N.groups

abbrev pub owns : Document → Intent → NodeId → CellId → Bool
owns D N n c = owns_old D n c (D.row_of c) || owns_new N n c

abbrev pub target_known : Document → Intent → NodeId → To → Bool
target_known D N n To.Nowhere = true
target_known D N n (To.Cell c) = owns D N n c
target_known D N n (To.Register f) = is_known D N f.node

abbrev pub put_known : Document → Intent → Put → Bool
put_known D N p = is_known D N p.node && target_known D N p.node p.to

-- ## All names

abbrev pub names_fresh : Document → Intent → Bool
names_fresh D N = nodes_fresh D N && (cells_fresh D N && schema_fresh D N N.schema)

abbrev pub names_known : Document → Intent → Bool
names_known D N =
    list_all (group_known D N) N.groups
    && (owners_known D N
    && (list_all (put_known D N) N.put && (list_all (λ (f : FieldId). is_known D N f.node) N.clear && list_all (λ (n : NodeId). is_some (D.nodes n)) N.need)))

abbrev pub names_fit : Document → Intent → Bool
names_fit D N = names_fresh D N && names_known D N
