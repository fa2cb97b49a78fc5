-- The rules of agreement between two steps in turn, in the order in which they are tried, and what makes that none is missed.
use Rattle.std.specs.Prelude.{◌⊎◌, IfSome}
use Rattle.st_ids.specs.Listing.{IsRising}
use Rattle.st_ids.specs.Order.{field_cmp, node_cmp}
use Rattle.st_ids.specs.declared.names.FieldId.{FieldId}
use Rattle.st_marks.specs.declared.marks.RegStep.{RegStep}
use Rattle.st_marks.specs.declared.marks.RowMarks.{RowMarks}
use Rattle.st_marks.specs.declared.steps.Step.{Step}
use Rattle.st_marks.specs.Listings.{Listing, listing_before_step}
use Rattle.st_normal.specs.Rules.{SchemaStepFits}
use Rattle.st_clash.specs.Cells.{AreCellsOnce}
use Rattle.st_agree_turn.specs.Rules.{CellsApart, RegistersApart, RowsApart}
use Rattle.st_turn_names.specs.Rules.{NodesAgain, OwnersEarly}
use Rattle.st_turn_places.specs.Rules.{IsPlacedOnce, NodesTwice}

-- what is left in rows, registers and cells isn't what is found
abbrev pub IsShownApart : Listing → Listing → FieldId → Type 0
IsShownApart L M f = (RowsApart L M f ⊎ RegistersApart L M f) ⊎ CellsApart L M f

-- nodes are made again, owners come too early, or nodes are left elsewhere than they are found
abbrev pub IsNamedApart : Listing → Listing → FieldId → Type 0
IsNamedApart L M f = (NodesAgain L M f ⊎ OwnersEarly L M f) ⊎ NodesTwice L M f

-- rows and registers of both rise by name
pub record ListsRise (S T : Step) : Type 0 where
  pub rows : IsRising node_cmp (λ (r : RowMarks). r.node) S.rows
  pub rows_then : IsRising node_cmp (λ (r : RowMarks). r.node) T.rows
  pub regs : IsRising field_cmp (λ (r : RegStep). r.field) S.regs
  pub regs_then : IsRising field_cmp (λ (r : RegStep). r.field) T.regs

-- what both do to the schemas fits
abbrev pub SchemasFit : Step → Step → Type 0
SchemasFit S T = IfSome S.schema SchemaStepFits × IfSome T.schema SchemaStepFits

-- the second finds each node once and each cell, and what both do to the schemas fits; so that no field is missed
pub record IsClear (S T : Step) : Type 0 where
  pub nodes : IsPlacedOnce (listing_before_step T)
  pub cells : AreCellsOnce (listing_before_step T)
  pub schemas : SchemasFit S T
