-- What a commit wants, by names alone: what its lists say, what it has to satisfy in itself, and when it fits a document.
use Rattle.std.specs.Prelude.{◌≡◌, ◌≢◌, ◌⊎◌, ◌&&◌, Bool, true, false, List, [], Option, Some, None, IsSome, IsTrue, IfSome, is_some, option_map, option_and_then, if◌then◌else◌}
use Rattle.std.specs.List.{list_any, find, AllByRecursion, filter_map, flat_map}
use Rattle.st_ids.specs.Listing.{AreDistinct, Has}
use Rattle.st_ids.specs.Order.{same_cell, same_node, same_field}
use Rattle.st_ids.specs.declared.names.CellId.{CellId}
use Rattle.st_ids.specs.declared.names.FieldId.{FieldId}
use Rattle.st_ids.specs.declared.names.NodeId.{NodeId}
use Rattle.st_marks.specs.declared.changes.NewNode.{NewNode}
use Rattle.st_marks.specs.declared.intents.Group.{Group}
use Rattle.st_marks.specs.declared.intents.Intent.{Intent}
use Rattle.st_marks.specs.declared.intents.Owned.{Owned}
use Rattle.st_marks.specs.declared.intents.Put.{Put}
use Rattle.st_marks.specs.declared.intents.To.{To}
use Rattle.st_marks.specs.declared.schemas.SchemaEntry.{SchemaEntry}
use Rattle.st_marks.specs.Document.{Document, NodeType, owned_cell, ClimbsToAnEnd}
use Rattle.st_ids.specs.Root.{root}

-- ## What its lists say

-- a node that it makes
abbrev pub new_node : Intent → NodeId → Option NewNode
new_node N n = find (λ (m : NewNode). same_node m.node n) N.new

-- its type
abbrev pub new_type : Intent → NodeId → Option NodeType
new_type N n = option_map (λ (m : NewNode). record { ty = m.ty; leaf = m.leaf }) (new_node N n)

-- whether it makes a node
abbrev pub is_new : Intent → NodeId → Bool
is_new N n = is_some (new_type N n)

-- where it puts a node
abbrev pub put_of : Intent → NodeId → Option To
put_of N n = option_map (λ (p : Put). p.to) (find (λ (p : Put). same_node p.node n) N.put)

-- whether it clears a register
abbrev pub clears : Intent → FieldId → Bool
clears N f = list_any (λ g. same_field g f) N.clear

-- the cell into which a node is put
abbrev pub cell_of : To → Option CellId
cell_of To.Nowhere = None
cell_of (To.Cell c) = Some c
cell_of (To.Register f) = None

-- the register into which a node is put
abbrev pub register_of : To → Option FieldId
register_of To.Nowhere = None
register_of (To.Cell c) = None
register_of (To.Register f) = Some f

-- whether a node is put into that register
abbrev pub is_register : FieldId → To → Bool
is_register f To.Nowhere = false
is_register f (To.Cell c) = false
is_register f (To.Register g) = same_field f g

-- which node it puts into a register
abbrev pub put_in : Intent → FieldId → Option NodeId
put_in N f = option_map (λ (p : Put). p.node) (find (λ (p : Put). is_register f p.to) N.put)

-- whether two are there and the same, or neither is
abbrev pub same_option : {A : Type 0} → (A → A → Bool) → Option A → Option A → Bool
same_option same None None = true
same_option same None (Some y) = false
same_option same (Some x) None = false
same_option same (Some x) (Some y) = same x y

-- whether two anchors are one; None is a row's start
abbrev pub same_anchor : Option CellId → Option CellId → Bool
same_anchor a b = same_option same_cell a b

-- the cells of a group, if there is one
abbrev pub cells_of : Option Group → List Owned
cells_of None = []
cells_of (Some g) = g.cells

-- the cells that it makes in a node's row, at the row's start (None) or after a cell
abbrev pub group_at : Intent → NodeId → Option CellId → List Owned
group_at N n a = cells_of (find (λ (g : Group). same_node g.node n && same_anchor g.after a) N.groups)

-- in whose row it makes a cell
abbrev pub new_row_of : Intent → CellId → Option NodeId
new_row_of N c = option_map (λ (g : Group). g.node) (find (λ (g : Group). list_any (λ (o : Owned). same_cell o.cell c) g.cells) N.groups)

-- all cells that it makes
abbrev pub group_cells : Intent → List Owned
group_cells N = flat_map (λ (g : Group). g.cells) N.groups

-- the node whose row or register a put leads into; of cells, only new ones tell it
abbrev pub put_under : Intent → Option To → Option NodeId
put_under N None = None
put_under N (Some To.Nowhere) = None
put_under N (Some (To.Cell c)) = new_row_of N c
put_under N (Some (To.Register f)) = Some f.node

-- the new node in whose row or register a new node is put
abbrev pub above_new : Intent → NodeId → Option NodeId
above_new N n = if is_new N n then option_and_then (λ p. if is_new N p then Some p else None) (put_under N (put_of N n)) else None

-- ## What it has to satisfy in itself

-- an intent that obeys the rules on intents
pub record IsIntent (N : Intent) : Type 0 where
  -- new nodes and cells have its revision, and each is listed once
  pub new_rev : AllByRecursion (λ (m : NewNode). m.node.0.rev ≡ N.rev) N.new
  pub new_once : AreDistinct (λ (m : NewNode). m.node) N.new
  pub cell_rev : AllByRecursion (λ (o : Owned). o.cell.0.rev ≡ N.rev) (group_cells N)
  pub cell_once : AreDistinct (λ (o : Owned). o.cell) (group_cells N)
  -- no group is empty, there is one at a row's start or at a cell, and that cell isn't new
  pub group_some : AllByRecursion (λ (g : Group). g.cells ≢ []) N.groups
  pub start_once : AreDistinct {K = NodeId × Option CellId} (λ (g : Group). (g.node, g.after)) N.groups
  pub anchor_once : AreDistinct (λ c. c) (filter_map (λ (g : Group). g.after) N.groups)
  pub anchor_old : AllByRecursion (λ (g : Group). IfSome g.after (λ c. new_row_of N c ≡ None)) N.groups
  -- a new cell is owned by a new node, or by one that is put
  pub owners : AllByRecursion (λ (o : Owned). IsTrue (is_new N o.node) ⊎ IsSome (put_of N o.node)) (group_cells N)
  -- the root isn't put, each node is put once, and no two into one place
  pub root_stays : put_of N root ≡ None
  pub put_once : AreDistinct (λ (p : Put). p.node) N.put
  pub no_cell_twice : AreDistinct (λ c. c) (filter_map (λ (p : Put). cell_of p.to) N.put)
  pub no_register_twice : AreDistinct (λ f. f) (filter_map (λ (p : Put). register_of p.to) N.put)
  -- a new node isn't put nowhere, and a register that is filled is cleared
  pub new_somewhere : AllByRecursion (λ (p : Put). IsTrue (is_new N p.node) → p.to ≢ To.Nowhere) N.put
  pub cleared : AllByRecursion (λ (p : Put). IfSome (register_of p.to) (λ f. IsTrue (clears N f))) N.put
  pub register_keys : AllByRecursion (λ (f : FieldId). f.key.0 ≢ []) N.clear
  pub need_old : AllByRecursion (λ n. is_new N n ≡ false) N.need
  -- new nodes inside new nodes form no ring
  pub no_ring : (n : NodeId) → ClimbsToAnEnd (above_new N) n
  -- a change of schema has nothing else
  pub schema_alone : IfSome N.schema (λ _. (N.new ≡ []) × (N.groups ≡ []) × (N.clear ≡ []) × (N.put ≡ []) × (N.need ≡ []))

-- ## When it fits a document

-- it makes the node, or the document has it
abbrev pub IsKnown : Document → Intent → NodeId → Type 0
IsKnown D N n = IsTrue (is_new N n) ⊎ IsSome (D.nodes n)

-- a node owns a cell, by the document or by the intent
abbrev pub Owns : Document → Intent → NodeId → CellId → Type 0
Owns D N n c = ((r : NodeId) × Has (D.rows r) (owned_cell c n)) ⊎ Has (group_cells N) (owned_cell c n)

-- an intent that can be carried out in a document
pub record Fits (D : Document) (N : Intent) : Type 0 where
  pub itself : IsIntent N
  -- its new names are not in the document
  pub fresh_nodes : (n : NodeId) → IsTrue (is_new N n) → D.nodes n ≡ None
  pub fresh_cells : (c : CellId) → IsSome (new_row_of N c) → D.row_of c ≡ None
  pub fresh_schema : IfSome N.schema (λ _. AllByRecursion (λ (e : SchemaEntry). e.rev ≢ N.rev) D.schemas)
  -- its old names are, and cells have the rows and the owners that it says
  pub groups_known : AllByRecursion (λ (g : Group). IsKnown D N g.node × IfSome g.after (λ c. D.row_of c ≡ Some g.node)) N.groups
  pub owners_known : AllByRecursion (λ (o : Owned). IsKnown D N o.node) (group_cells N)
  pub puts_known : AllByRecursion (λ (p : Put). IsKnown D N p.node × IfSome (cell_of p.to) (Owns D N p.node) × IfSome (register_of p.to) (λ f. IsKnown D N f.node)) N.put
  pub clears_known : AllByRecursion (λ (f : FieldId). IsKnown D N f.node) N.clear
  pub needs_known : AllByRecursion (λ n. IsSome (D.nodes n)) N.need
