-- A step with the rows, registers and loose nodes that it has after a change.
use Rattle.std.specs.Prelude.{◌≡◌, Bool, List, map}
use Rattle.std.specs.BTreeSet.{BTreeSet, IsOrdered, contains}
use Rattle.std.specs.List.{filter_map}
use Rattle.st_ids.specs.Order.{node_cmp}
use Rattle.st_ids.specs.declared.names.NodeId.{NodeId}
use Rattle.st_marks.specs.declared.changes.Change.{Change}
use Rattle.st_marks.specs.declared.marks.Loose.{Loose}
use Rattle.st_marks.specs.declared.marks.RegStep.{RegStep}
use Rattle.st_marks.specs.declared.marks.RowMarks.{RowMarks}
use Rattle.st_marks.specs.declared.steps.Step.{Step}
use Rattle.st_marks.specs.Embedding.{is_among}
use Rattle.st_marks.specs.Listings.{placed_after, placed_before}
use Rattle.st_cross_laws.specs.Crossed.{is_named, loose_across}

-- those of some nodes that are nowhere, as rows and registers tell
abbrev pub loose_by : List RowMarks → List RegStep → List NodeId → List Loose
loose_by rows regs names = filter_map (loose_across (is_among (placed_before rows (map (λ (r : RegStep). r.before) regs))) (is_among (placed_after rows (map (λ (r : RegStep). r.after) regs)))) names

-- these are the loose nodes of all that are named
pub record AreLoose (was is : Bool) (C : Change) (S : Step) (rows : List RowMarks) (regs : List RegStep) (loose : List Loose) : Type 0 where
  pub names : BTreeSet NodeId
  pub named : (n : NodeId) → contains node_cmp names n ≡ is_named was is C S n
  pub ordered : IsOrdered node_cmp names
  pub told : loose ≡ loose_by rows regs names.keys

-- G is S with the rows, the registers and these
abbrev pub HasFields : Bool → Bool → Change → Step → List RowMarks → List RegStep → Step → Type 0
HasFields was is C S rows regs G = (loose : List Loose) × AreLoose was is C S rows regs loose × (G ≡ record S { rows = rows; regs = regs; loose = loose })
