-- The rules of agreement between two parts of one commit, in the order in which they are tried, and what makes that none is missed.
use Rattle.std.specs.Prelude.{◌≡◌, ◌⊎◌, Bool, List, [], ◌∷◌, IsTrue, if◌then◌else◌}
use Rattle.st_ids.specs.Listing.{Has, IsRising}
use Rattle.st_ids.specs.Order.{field_cmp, node_cmp}
use Rattle.st_ids.specs.declared.names.FieldId.{FieldId}
use Rattle.st_ids.specs.declared.names.NodeId.{NodeId}
use Rattle.st_marks.specs.declared.changes.Change.{Change}
use Rattle.st_marks.specs.declared.marks.RegMark.{RegMark}
use Rattle.st_marks.specs.declared.marks.RegStep.{RegStep}
use Rattle.st_marks.specs.declared.marks.RowMarks.{RowMarks}
use Rattle.st_marks.specs.declared.steps.Step.{Step}
use Rattle.st_marks.specs.Agree.{CanBeParts, HaveSchemasOfParts, RootRule, row_field}
use Rattle.st_marks.specs.Embedding.{is_among}
use Rattle.st_marks.specs.Listings.{Listing, listing_after_step, listing_before_step, nodes_new}
use Rattle.st_normal.specs.Rules.{ObeysChangeRules}
use Rattle.st_agree_turn.specs.Rules.{CellsApart, RegistersApart, RowsApart}
use Rattle.st_turn_names.specs.Rules.{NodesAgain, OwnersEarly}
use Rattle.st_turn_places.specs.Rules.{IsPlacedOnce, NodesTwice}
use Rattle.st_clash.specs.Adds.{Adds}
use Rattle.st_clash.specs.Cells.{AreCellsOnce}

-- what is left in rows, registers and cells isn't what is found
abbrev pub IsShownApart : Listing → Listing → FieldId → Type 0
IsShownApart L M f = (RowsApart L M f ⊎ RegistersApart L M f) ⊎ CellsApart L M f

-- nodes are made again, owners come too early, or nodes are left elsewhere than they are found
abbrev pub IsNamedApart : Listing → Listing → FieldId → Type 0
IsNamedApart L M f = (NodesAgain L M f ⊎ OwnersEarly L M f) ⊎ NodesTwice L M f

-- fields are added that the rules on two steps in turn name: all, where the second finds each node once and each cell
abbrev pub AddsInTurn : Step → Step → List FieldId → List FieldId → Type 0
AddsInTurn S T old new = Adds old new (λ f. IsShownApart (listing_after_step S) (listing_before_step T) f ⊎ IsNamedApart (listing_after_step S) (listing_before_step T) f)
    (((Unit {0} × Unit {0}) × AreCellsOnce (listing_before_step T)) × ((Unit {0} × Unit {0}) × IsPlacedOnce (listing_before_step T)))

-- the second makes a node that the first needs
abbrev pub NeededAgain : Change → Change → FieldId → Type 0
NeededAgain C K f = (n : NodeId) × IsTrue (is_among (nodes_new K.new) n) × Has C.need n × (row_field n ≡ f)

-- the row of a node, if it is made
abbrev pub rows_made : (NodeId → Bool) → NodeId → List FieldId
rows_made made n = if made n then row_field n ∷ [] else []

-- no schema entries suit both, or they can't be parts of one commit: that names the root's row
abbrev pub AreNoParts : Change → Change → FieldId → Type 0
AreNoParts C K f = RootRule (HaveSchemasOfParts C K) f ⊎ RootRule (CanBeParts C K) f

-- rows and registers of both rise by name
pub record ListsRise (C K : Change) : Type 0 where
  pub rows : IsRising node_cmp (λ (r : RowMarks). r.node) C.rows
  pub rows_then : IsRising node_cmp (λ (r : RowMarks). r.node) K.rows
  pub regs : IsRising field_cmp (λ (r : RegMark). r.field) C.regs
  pub regs_then : IsRising field_cmp (λ (r : RegMark). r.field) K.regs

-- rows and registers of both steps rise by name
pub record StepsRise (S T : Step) : Type 0 where
  pub rows : IsRising node_cmp (λ (r : RowMarks). r.node) S.rows
  pub rows_then : IsRising node_cmp (λ (r : RowMarks). r.node) T.rows
  pub regs : IsRising field_cmp (λ (r : RegStep). r.field) S.regs
  pub regs_then : IsRising field_cmp (λ (r : RegStep). r.field) T.regs

-- both are in normal form
abbrev pub ObeyRules : Change → Change → Type 0
ObeyRules C K = ObeysChangeRules C × ObeysChangeRules K
