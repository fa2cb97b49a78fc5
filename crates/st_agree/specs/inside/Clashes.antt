-- The rules by which what a change and a step show of one document differs, each by itself.
use Rattle.std.specs.Prelude.{IfSome, ◌≡◌, ◌≢◌, ◌⊎◌, IsTrue, List, Option, Some}
use Rattle.std.specs.List.{AllZip}
use Rattle.st_ids.specs.Listing.{IsRising}
use Rattle.st_ids.specs.Order.{field_cmp, node_cmp}
use Rattle.st_ids.specs.declared.names.FieldId.{FieldId}
use Rattle.st_ids.specs.declared.names.NodeId.{NodeId}
use Rattle.st_marks.specs.declared.changes.Change.{Change}
use Rattle.st_marks.specs.declared.changes.NewNode.{NewNode}
use Rattle.st_marks.specs.declared.marks.RegMark.{RegMark}
use Rattle.st_marks.specs.declared.marks.RegStep.{RegStep}
use Rattle.st_marks.specs.declared.marks.RowMarks.{RowMarks}
use Rattle.st_marks.specs.declared.steps.Step.{Step}
use Rattle.st_marks.specs.declared.places.Spot.{Spot}
use Rattle.st_normal.specs.Rules.{SchemaStepFits}
use Rattle.st_clash.specs.Cells.{AreCellsOnce}
use Rattle.st_marks.specs.Agree.{IsSameView, field_of, row_field}
use Rattle.st_marks.specs.Listings.{CellView, Listing, Places, listing_before_change, listing_before_step}

-- the row of a node that both show doesn't have the same cells, place by place
abbrev pub RowsDiffer : Listing → Listing → FieldId → Type 0
RowsDiffer L M f = (n : NodeId) × (a : List CellView) × (b : List CellView) × (L.row n ≡ Some a) × (M.row n ≡ Some b) × (AllZip IsSameView a b → ⊥) × (row_field n ≡ f)

-- a register that both show has two occupants
abbrev pub RegistersDiffer : Listing → Listing → FieldId → Type 0
RegistersDiffer L M f = (a : Option NodeId) × (b : Option NodeId) × (L.register f ≡ Some a) × (M.register f ≡ Some b) × (a ≢ b)

-- the second makes a node that the first names
abbrev pub NodesAgain : Listing → Listing → FieldId → Type 0
NodesAgain L M f = (n : NodeId) × IsTrue (M.names.makes_node n) × IsTrue (L.names.names_node n) × (row_field n ≡ f)

-- a node that both show has two places; the fields of both are named
abbrev pub NodesTwice : Listing → Listing → FieldId → Type 0
NodesTwice L M f = (n : NodeId) × (s : Spot) × (t : Spot) × Places L n s × Places M n t × (s ≢ t) × ((field_of s ≡ Some f) ⊎ (field_of t ≡ Some f))

-- no node is shown at two places
abbrev pub IsPlacedOnce : Listing → Type 0
IsPlacedOnce L = (n : NodeId) (s t : Spot) → Places L n s → Places L n t → s ≡ t

-- a rule on rows, on registers, on made nodes or on nodes that stand twice names the field, where a change and a step find the same
abbrev pub IsNamedSoFar : Change → Step → FieldId → Type 0
IsNamedSoFar C S f = RowsDiffer L M f ⊎ RegistersDiffer L M f ⊎ NodesAgain L M f ⊎ NodesAgain M L f ⊎ NodesTwice L M f
  where
    L : Listing
    L = listing_before_change C

    M : Listing
    M = listing_before_step S

-- the listings of both that are looked into rise by name
pub record ListsRise (C : Change) (S : Step) : Type 0 where
  pub rows : IsRising node_cmp (λ (r : RowMarks). r.node) C.rows
  pub rows_over : IsRising node_cmp (λ (r : RowMarks). r.node) S.rows
  pub regs : IsRising field_cmp (λ (r : RegMark). r.field) C.regs
  pub regs_over : IsRising field_cmp (λ (r : RegStep). r.field) S.regs
  pub new : IsRising node_cmp (λ (m : NewNode). m.node) C.new
  pub new_over : IsRising node_cmp (λ (m : NewNode). m.node) S.new

-- no node is found twice by the step, and no cell, and what it does to the schemas fits; so that none of the fields is missed
pub record IsClear (S : Step) : Type 0 where
  pub nodes : IsPlacedOnce (listing_before_step S)
  pub cells : AreCellsOnce (listing_before_step S)
  pub schemas : IfSome S.schema SchemaStepFits
