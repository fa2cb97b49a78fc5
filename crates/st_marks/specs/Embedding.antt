-- The embedding of an intent in a document: the change that says what the intent wants where it stands.
use Rattle.std.specs.Prelude.{◌≡◌, ◌↔◌, ℕ, Bool, true, false, ◌&&◌, not, List, ◌++◌, map, Option, Some, None, IsSome, IsTrue, option_and_then, if◌then◌else◌}
use Rattle.std.specs.List.{list_any, filter_map}
use Rattle.st_ids.specs.Listing.{Has, IsListing}
use Rattle.st_ids.specs.Order.{same_node, node_cmp, field_cmp}
use Rattle.st_ids.specs.declared.names.FieldId.{FieldId}
use Rattle.st_ids.specs.declared.names.NodeId.{NodeId}
use Rattle.st_marks.specs.declared.changes.Change.{Change}
use Rattle.st_marks.specs.declared.changes.NewNode.{NewNode}
use Rattle.st_marks.specs.declared.intents.Group.{Group}
use Rattle.st_marks.specs.declared.intents.Intent.{Intent}
use Rattle.st_marks.specs.declared.intents.Put.{Put}
use Rattle.st_marks.specs.declared.intents.To.{To}
use Rattle.st_marks.specs.declared.marks.Loose.{Loose}
use Rattle.st_marks.specs.declared.marks.RegMark.{RegMark}
use Rattle.st_marks.specs.declared.marks.RowMarks.{RowMarks}
use Rattle.st_marks.specs.declared.places.Spot.{Spot}
use Rattle.st_marks.specs.Document.{Document, above, climb, content}
use Rattle.st_ids.specs.Root.{root}
use Rattle.st_marks.specs.Intent.{new_node, put_of, put_in, clears, group_at, cell_of}
use Rattle.st_marks.specs.Verdict.{IsBaseInEffect}
use Rattle.st_marks.specs.Row.{CellMark, Counted, Gap, Touch, Make, Fill, RowPart, merge, embed_row, how}
use Rattle.st_marks.specs.Register.{RegisterPart, embed_register}

-- whether a node is in a list
abbrev pub is_among : List NodeId → NodeId → Bool
is_among ns n = list_any (λ m. same_node m n) ns

-- ## What an intent mentions

-- the nodes that it puts or needs, and those whose fields it names: by groups, by cells to be filled, by clears
abbrev pub named_by_intent : Document → Intent → List NodeId
named_by_intent D N =
    map (λ (p : Put). p.node) N.put ++ N.need ++ map (λ (g : Group). g.node) N.groups
    ++ filter_map (λ (p : Put). option_and_then D.row_of (cell_of p.to)) N.put ++ map (λ (f : FieldId). f.node) N.clear

-- those of them that the document has, and all nodes above them
abbrev pub IsMentionedByIntent : Document → Intent → NodeId → Type 0
IsMentionedByIntent D N n = (s : NodeId) × Has (named_by_intent D N) s × IsSome (D.nodes s) × (k : ℕ) × (climb (above D) k s ≡ Some n)

-- ## What is listed

-- a mark for which a row is listed: of a full cell with a mentioned node, of a new cell, or of one that is filled
abbrev pub tells : CellMark → Bool
tells Counted = false
tells (Gap c) = false
tells (Touch c n h) = true
tells (Make c n b) = true
tells (Fill c n) = true

-- a row that has such a mark is listed, and then the whole row
abbrev pub row_marks : NodeId → List CellMark → Option RowMarks
row_marks n cells = if list_any tells cells then Some (record { node = n; marks = merge cells }) else None

-- the part of an intent that concerns a node's row
abbrev pub row_part : (NodeId → Bool) → Intent → NodeId → RowPart
row_part mentioned N n = record { new_cells = group_at N n; target_of = put_of N; mentioned = mentioned }

-- the part of an intent that concerns a register
abbrev pub register_part : (NodeId → Bool) → Intent → FieldId → RegisterPart
register_part mentioned N f = record { clear = clears N f; fill = put_in N f; target_of = put_of N; mentioned = mentioned }

-- whether a place is nowhere
abbrev pub is_nowhere : Spot → Bool
is_nowhere Spot.Nowhere = true
is_nowhere (Spot.Row n c) = false
is_nowhere (Spot.Register f) = false

-- the mentioned nodes that are nowhere, other than the root
abbrev pub is_loose : (NodeId → Bool) → Document → NodeId → Bool
is_loose mentioned D n = mentioned n && is_nowhere (D.place n) && not (same_node n root)

-- what becomes of a node that is nowhere
abbrev pub embed_loose : (NodeId → Bool) → Document → Intent → NodeId → Option Loose
embed_loose mentioned D N n = if is_loose mentioned D n then Some (record { node = n; how = how (put_of N n) To.Nowhere }) else None

-- C is the change of N in D
pub record IsEmbedding (D : Document) (N : Intent) (C : Change) : Type 0 where
  pub mentioned : NodeId → Bool
  pub which : (n : NodeId) → (mentioned n ≡ true) ↔ IsMentionedByIntent D N n
  pub rev : C.rev ≡ N.rev
  pub under : C.under ≡ N.under
  pub base : IsTrue C.base ↔ IsBaseInEffect D N
  pub schema : C.schema ≡ N.schema
  pub need : IsListing node_cmp (λ (n : NodeId). n) C.need (λ n. if is_among N.need n then Some n else None)
  pub new : IsListing node_cmp (λ (m : NewNode). m.node) C.new (new_node N)
  pub rows : IsListing node_cmp (λ (r : RowMarks). r.node) C.rows (λ n. row_marks n (embed_row (row_part mentioned N n) (content D n)))
  pub regs : IsListing field_cmp (λ (r : RegMark). r.field) C.regs (λ f. embed_register f (register_part mentioned N f) (D.held f))
  pub loose : IsListing node_cmp (λ (l : Loose). l.node) C.loose (embed_loose mentioned D N)
