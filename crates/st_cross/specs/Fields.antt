-- A row and a register of a step after a change, looked up in what the two list.
use Rattle.std.specs.Prelude.{Bool, ◌&&◌, List, Option}
use Rattle.st_ids.specs.Listing.{item_of}
use Rattle.st_ids.specs.Order.{field_cmp, node_cmp}
use Rattle.st_ids.specs.declared.names.FieldId.{FieldId}
use Rattle.st_ids.specs.declared.names.NodeId.{NodeId}
use Rattle.st_kind.specs.Named.{Nodes}
use Rattle.st_marks.specs.declared.intents.To.{To}
use Rattle.st_marks.specs.declared.marks.RegMark.{RegMark}
use Rattle.st_marks.specs.declared.marks.RegStep.{RegStep}
use Rattle.st_marks.specs.declared.marks.RowMarks.{RowMarks}
use Rattle.st_over.specs.Across.{register_across, row_across}

-- the new nodes, in the row of a new node
abbrev pub placed_in : Nodes → NodeId → Nodes
placed_in made n k = made n && made k

abbrev pub row_at : Bool → Bool → Bool → Nodes → (NodeId → Option To) → List RowMarks → List RowMarks → NodeId → Option RowMarks
row_at l was is made target_of cs ss n = row_across l was is (placed_in made n) target_of n (item_of node_cmp (λ (r : RowMarks). r.node) cs n) (item_of node_cmp (λ (r : RowMarks). r.node) ss n)

abbrev pub register_at : Bool → Bool → Nodes → (NodeId → Option To) → List RegMark → List RegStep → FieldId → Option RegStep
register_at was is made target_of cs ss f = register_across was is made target_of f (item_of field_cmp (λ (r : RegMark). r.field) cs f) (item_of field_cmp (λ (r : RegStep). r.field) ss f)
