-- What an edit of the tree that a document shows means: the intent of a commit, or the first refusal.
use Rattle.std.specs.Prelude.{◌≡◌, ◌<◌, ◌^◌, ℕ, ◌+◌, ◌==◌, nat_le, Bool, true, false, not, ◌&&◌, List, [], ◌∷◌, map, length, Option, Some, None, unwrap_or, option_and_then, Result, Ok, Err, if◌then◌else◌}
use Rattle.std.specs.List.{list_any, position_from}
use Rattle.std.specs.Option.{option_map_or}
use Rattle.st_ids.specs.Order.{same_node}
use Rattle.st_ids.specs.declared.names.FieldId.{FieldId}
use Rattle.st_ids.specs.declared.names.Key.{Key}
use Rattle.st_ids.specs.declared.names.LimitOf.TheVariants.{Commit}
use Rattle.st_ids.specs.declared.names.NodeId.{NodeId}
use Rattle.st_ids.specs.declared.names.Place.{Place}
use Rattle.st_ids.specs.declared.names.Rev.{Rev}
use Rattle.st_tree.specs.Node.{Nodes, trees_view, view, first, no_nodes}
use Rattle.st_tree.specs.Preorder.{tops_listed, cell_named}
use Rattle.st_tree.specs.Size.{check_of, check_items}
use Rattle.st_tree.specs.declared.edit.Edit.{Edit}
use Rattle.st_tree.specs.declared.edit.EditFault.{EditFault}
use Rattle.st_tree.specs.declared.edit.EditFault.TheVariants.{Kind, Range, Inside, NotAllowed, Limit as LimitOver}
use Rattle.st_tree.specs.declared.flat.FlatNode.{FlatNode}
use Rattle.st_schema.specs.Kind.{is_row, is_single_kind, is_optional, is_open}
use Rattle.st_schema.specs.Schema.{SchemaView, field_of, is_among}
use Rattle.st_schema.specs.Conforms.{items_verdicts}
use Rattle.st_schema.specs.declared.names.FieldRule.{FieldRule}
use Rattle.st_schema.specs.declared.names.KindName.{KindName}
use Rattle.st_schema.specs.declared.names.KindName.TheVariants.{Required, Optional, Sequence}
use Rattle.st_marks.specs.declared.intents.Group.{Group}
use Rattle.st_marks.specs.declared.intents.Intent.{Intent}
use Rattle.st_marks.specs.declared.intents.Owned.{Owned}
use Rattle.st_marks.specs.declared.intents.To.{To}
use Rattle.st_marks.specs.Document.{Document, NodeType, last_of, revs, owned_cell}
use Rattle.st_ids.specs.Root.{opening, root}
use Rattle.st_edits.specs.declared.names.NameCounters.{NameCounters}
use Rattle.st_edits.specs.declared.names.Takes.{Takes}
use Rattle.st_edits.specs.declared.names.Takes.TheVariants as field
use Rattle.st_edits.specs.Paths.{field_at, row_length, items_from, left_of, or_refuse, walk_from, nodes_on_path}
use Rattle.st_ids.specs.Or.{and_then}
use Rattle.st_edits.specs.New.{new_nodes, puts, top_cells, group_of, groups_under, names_taken}
use Rattle.st_opening.specs.Start.{registers}

-- ## What is asked of an edit

-- it holds, or the edit is refused
abbrev pub require : Bool → EditFault → Result (Unit {0}) EditFault
require true e = Ok tt
require false e = Err e

-- the node that a path leads to from the root
abbrev pub walk : Document → List Place → Result NodeId EditFault
walk D path = walk_from D 0 root path

-- what the schema says of a node's field
abbrev pub rule_at : Document → SchemaView → NodeId → Key → Option FieldRule
rule_at D s n key = option_and_then (λ (t : NodeType). field_of s t.ty key.0) (D.nodes n)

-- the kinds that an edit takes
abbrev pub takes_kind : Takes → KindName → Bool
takes_kind field.Row = is_row
takes_kind field.Open = is_open
takes_kind field.Single = is_single_kind
takes_kind field.Optional = is_optional

-- a rule of a kind that the edit takes
abbrev pub of_kind : (KindName → Bool) → FieldRule → Result FieldRule EditFault
of_kind takes rule = if takes rule.kind then Ok rule else Err Kind

abbrev pub rule_for : Takes → Document → SchemaView → NodeId → Key → Result FieldRule EditFault
rule_for takes D s n key = and_then (or_refuse (rule_at D s n key) Kind) (of_kind (takes_kind takes))

-- nothing, or the number of the first that isn't allowed
abbrev pub none_refused : Option ℕ → Result (Unit {0}) EditFault
none_refused None = Ok tt
none_refused (Some i) = Err (NotAllowed i)

-- each node of the new trees is allowed where it comes
abbrev pub trees_allowed : SchemaView → FieldRule → Nodes → Result (Unit {0}) EditFault
trees_allowed s rule trees = none_refused (position_from (λ ok. not ok) 0 (items_verdicts s rule.types trees))

-- whether a node has one of the types
abbrev pub has_type : Document → List (List ℕ) → NodeId → Bool
has_type D types n = option_map_or (λ (t : NodeType). is_among t.ty types) (D.nodes n) false

-- each moved node is allowed where it comes
abbrev pub nodes_allowed : Document → FieldRule → List NodeId → Result (Unit {0}) EditFault
nodes_allowed D rule ns = none_refused (position_from (λ n. not (has_type D rule.types n)) 0 ns)

-- a commit gives at most 2,048 names
abbrev pub names_left : NameCounters → ℕ → Result (Unit {0}) EditFault
names_left G k = require (nat_le (G.nodes + G.cells + k) 2048) (LimitOver (record { of = Commit; kept = G.nodes + G.cells }))

-- so many items of a row, from an index on, where it shows them
abbrev pub within_row : Document → NodeId → ℕ → ℕ → Result (List NodeId) EditFault
within_row D n index count = if nat_le (index + count) (row_length D n) then Ok (items_from D n index count) else Err Range

-- ## Intents

-- an intent that wants nothing yet, under the last schema entry in effect
abbrev pub empty_intent : Document → NameCounters → Intent
empty_intent D G = record { rev = G.rev; under = unwrap_or (last_of (revs D.schemas)) opening; new = []; groups = []; clear = []; put = []; need = []; schema = None }

-- new trees as a list of their nodes, each under its name
abbrev pub named_nodes : NameCounters → Nodes → List FlatNode
named_nodes G trees = tops_listed G.rev G.nodes G.cells trees

-- new trees, each node of which the schema allows where it comes, and whose names the commit may give
abbrev pub allowed_nodes : SchemaView → NameCounters → FieldRule → Nodes → Result (List FlatNode) EditFault
allowed_nodes s G rule trees =
    and_then (trees_allowed s rule trees) (λ _.
    and_then (names_left G (names_taken (named_nodes G trees))) (λ _.
    Ok (named_nodes G trees)))

-- a list of a group, if it is there, and others
abbrev pub with_group : Option Group → List Group → List Group
with_group None gs = gs
with_group (Some g) gs = g ∷ gs

-- new items in a row, directly after the cell of the item left of the index
abbrev pub intent_to_insert : Document → NameCounters → NodeId → ℕ → List FlatNode → Intent
intent_to_insert D G n index xs = record (empty_intent D G) {
  new = new_nodes xs;
  groups = with_group (group_of n (left_of D n index) (top_cells xs)) (groups_under xs);
  clear = registers xs;
  put = puts None xs;
}

-- a new item in a field, in the place of what is there
abbrev pub intent_to_place : Document → NameCounters → FieldId → List FlatNode → Intent
intent_to_place D G f xs = record (empty_intent D G) {
  new = new_nodes xs;
  groups = groups_under xs;
  clear = f ∷ registers xs;
  put = puts (Some f) xs;
}

-- nodes put nowhere
abbrev pub intent_to_remove : Document → NameCounters → List NodeId → Intent
intent_to_remove D G ns = record (empty_intent D G) { put = map (λ n. record { node = n; to = To.Nowhere }) ns }

-- a new cell for each node, under the next names
abbrev pub cells_for : Rev → ℕ → List NodeId → List Owned
cells_for rev c [] = []
cells_for rev c (n ∷ ns) = owned_cell (cell_named rev c) n ∷ cells_for rev (c + 1) ns

-- each node is put into its new cell, directly after the cell of the item left of the index
abbrev pub in_cells : Document → NameCounters → NodeId → ℕ → List Owned → Intent
in_cells D G n index cells = record (empty_intent D G) {
  groups = with_group (group_of n (left_of D n index) cells) [];
  put = map (λ (o : Owned). record { node = o.node; to = To.Cell o.cell }) cells;
}

-- nodes put into new cells of a row
abbrev pub moved_to_row : Document → NameCounters → NodeId → ℕ → List NodeId → Intent
moved_to_row D G n index ns = in_cells D G n index (cells_for G.rev G.cells ns)

-- nodes, of which there is one, put into a field, in the place of what is there
abbrev pub moved_to_field : Document → NameCounters → FieldId → List NodeId → Intent
moved_to_field D G f ns = record (empty_intent D G) { clear = f ∷ []; put = map (λ n. record { node = n; to = To.Register f }) ns }

-- ## Moves

-- the nodes that a move takes from a row, or from an optional field, which has one
abbrev pub nodes_taken : Document → FieldId → KindName → ℕ → ℕ → Result (List NodeId) EditFault
nodes_taken D f Required index count = Err Kind
nodes_taken D f Optional index count = if index == 0 && count == 1 then and_then (or_refuse (D.held f) Range) (λ n. Ok (n ∷ [])) else Err Range
nodes_taken D f Sequence index count = within_row D f.node index count

-- whether the index of a move's target is there, which counts the row before the move
abbrev pub is_there : Document → NodeId → KindName → ℕ → ℕ → Bool
is_there D n Required index count = false
is_there D n Optional index count = index == 0 && count == 1
is_there D n Sequence index count = nat_le index (row_length D n)

-- whether the target is in a moved node or beneath one: its path leads through it
abbrev pub is_inside : Document → List Place → List NodeId → Bool
is_inside D to ns = list_any (λ m. list_any (λ n. same_node n m) ns) (nodes_on_path D root to)

-- a move into a row takes a cell for each node, and one into a field none
abbrev pub cells_taken : KindName → List NodeId → ℕ
cells_taken Required ns = 0
cells_taken Optional ns = 0
cells_taken Sequence ns = length ns

abbrev pub intent_to_move : Document → NameCounters → FieldId → KindName → ℕ → List NodeId → Intent
intent_to_move D G f Required index ns = empty_intent D G
intent_to_move D G f Optional index ns = moved_to_field D G f ns
intent_to_move D G f Sequence index ns = moved_to_row D G f.node index ns

-- ## Edits

-- new items at an index of a row
abbrev pub insert : Document → SchemaView → NameCounters → List Place → Key → ℕ → Nodes → Result Intent EditFault
insert D s G at key index trees =
    and_then (walk D at) (λ n.
    and_then (rule_for field.Row D s n key) (λ rule.
    and_then (require (nat_le index (row_length D n)) Range) (λ _.
    and_then (allowed_nodes s G rule trees) (λ xs.
    Ok (intent_to_insert D G n index xs)))))

-- so many items of a row, from an index on, go nowhere
abbrev pub remove : Document → SchemaView → NameCounters → List Place → Key → ℕ → ℕ → Result Intent EditFault
remove D s G at key index count =
    and_then (walk D at) (λ n.
    and_then (rule_for field.Row D s n key) (λ _.
    and_then (within_row D n index count) (λ ns.
    Ok (intent_to_remove D G ns))))

-- the target's index is there, the target isn't inside a moved node, its field allows them, and names are left for cells
abbrev pub may_move : Document → NameCounters → NodeId → FieldRule → List Place → ℕ → ℕ → List NodeId → Result (Unit {0}) EditFault
may_move D G m target to to_index count ns =
    and_then (require (is_there D m target.kind to_index count) Range) (λ _.
    and_then (require (not (is_inside D to ns)) Inside) (λ _.
    and_then (nodes_allowed D target ns) (λ _.
    names_left G (cells_taken target.kind ns))))

-- the nodes of a move go to a place that is found
abbrev pub move_to : Document → NameCounters → FieldId → FieldRule → List Place → ℕ → ℕ → List NodeId → Result Intent EditFault
move_to D G f target to to_index count ns =
    and_then (may_move D G f.node target to to_index count ns) (λ _.
    Ok (intent_to_move D G f target.kind to_index ns))

-- items of a row, or the one of an optional field, go to a row or an optional field
abbrev pub move : Document → SchemaView → NameCounters → List Place → Key → ℕ → ℕ → List Place → Key → ℕ → Result Intent EditFault
move D s G at key index count to to_key to_index =
    and_then (walk D at) (λ n.
    and_then (walk D to) (λ m.
    and_then (rule_for field.Open D s n key) (λ source.
    and_then (rule_for field.Open D s m to_key) (λ target.
    and_then (nodes_taken D (field_at n key) source.kind index count) (λ ns.
    move_to D G (field_at m to_key) target to to_index count ns)))))

-- a new tree in an optional or required field
abbrev pub put : Document → SchemaView → NameCounters → List Place → Key → Nodes → Result Intent EditFault
put D s G at key trees =
    and_then (walk D at) (λ n.
    and_then (rule_for field.Single D s n key) (λ rule.
    and_then (allowed_nodes s G rule trees) (λ xs.
    Ok (intent_to_place D G (field_at n key) xs))))

-- an optional field is emptied
abbrev pub clear : Document → SchemaView → NameCounters → List Place → Key → Result Intent EditFault
clear D s G at key =
    and_then (walk D at) (λ n.
    and_then (rule_for field.Optional D s n key) (λ _.
    Ok (record (empty_intent D G) { clear = field_at n key ∷ [] })))

-- a node has to be live
abbrev pub need : Document → NameCounters → List Place → Result Intent EditFault
need D G at = and_then (walk D at) (λ n. Ok (record (empty_intent D G) { need = n ∷ [] }))

-- the intent that an edit means, or the first refusal
abbrev pub resolve : Document → SchemaView → NameCounters → Edit → Result Intent EditFault
resolve D s G (Edit.Insert at key index items) = insert D s G at key index (trees_view items)
resolve D s G (Edit.Remove at key index count) = remove D s G at key index count
resolve D s G (Edit.Move at key index count to to_key to_index) = move D s G at key index count to to_key to_index
resolve D s G (Edit.Put at key item) = put D s G at key (first (view item) no_nodes)
resolve D s G (Edit.Clear at key) = clear D s G at key
resolve D s G (Edit.Need at) = need D G at

-- what the caller of an edit sees to: its trees are within the limits of trees, and its paths short
abbrev pub IsWithin : Edit → Type 0
IsWithin (Edit.Insert at key index items) = (check_items (trees_view items) ≡ Ok tt) × (length at < 2 ^ 32)
IsWithin (Edit.Remove at key index count) = length at < 2 ^ 32
IsWithin (Edit.Move at key index count to to_key to_index) = (length at < 2 ^ 32) × (length to < 2 ^ 32)
IsWithin (Edit.Put at key item) = (check_of (view item) ≡ Ok tt) × (length at < 2 ^ 32)
IsWithin (Edit.Clear at key) = length at < 2 ^ 32
IsWithin (Edit.Need at) = length at < 2 ^ 32
