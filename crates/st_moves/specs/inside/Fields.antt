-- What a change laid beside a step lists.
use Rattle.std.specs.Prelude.{◌≡◌, List, Option}
use Rattle.std.specs.List.{filter_map}
use Rattle.st_ids.specs.Listing.{IsListing}
use Rattle.st_ids.specs.Order.{field_cmp, node_cmp}
use Rattle.st_ids.specs.declared.names.NodeId.{NodeId}
use Rattle.st_marks.specs.declared.changes.Change.{Change}
use Rattle.st_marks.specs.declared.intents.To.{To}
use Rattle.st_marks.specs.declared.marks.Loose.{Loose}
use Rattle.st_marks.specs.declared.marks.RegMark.{RegMark}
use Rattle.st_marks.specs.declared.marks.RowMarks.{RowMarks}
use Rattle.st_marks.specs.declared.places.Spot.{Spot}
use Rattle.st_marks.specs.declared.steps.Step.{Step}
use Rattle.st_moves.specs.Changes.{AreOfOneCommit}
use Rattle.st_moves.specs.inside.Registers.{loose_in, register_beside}
use Rattle.st_moves.specs.inside.Rows.{row_beside}
use Rattle.std.specs.BTreeSet.{BTreeSet, IsOrdered, contains}

-- the rows, registers and loose nodes of a change beside a step, where nodes are put and stand so
pub record AreBeside (target_of : NodeId → Option To) (place : NodeId → Spot) (named : BTreeSet NodeId) (C : Change) (S : Step)
    (rows : List RowMarks) (regs : List RegMark) (loose : List Loose) : Type 0 where
  pub rows_listed : IsListing node_cmp (λ (r : RowMarks). r.node) rows (row_beside target_of (contains node_cmp named) C.rows S.rows)
  pub regs_listed : IsListing field_cmp (λ (r : RegMark). r.field) regs (register_beside target_of (contains node_cmp named) C.regs S.regs)
  pub loose_listed : loose ≡ filter_map (loose_in target_of place) named.keys
  pub ordered : IsOrdered node_cmp named

-- a change with these, that is C else
pub record IsChangeWith (C : Change) (rows : List RowMarks) (regs : List RegMark) (loose : List Loose) (X : Change) : Type 0 where
  pub commit : AreOfOneCommit C X
  pub base : X.base ≡ C.base
  pub rows_are : X.rows ≡ rows
  pub regs_are : X.regs ≡ regs
  pub loose_are : X.loose ≡ loose
