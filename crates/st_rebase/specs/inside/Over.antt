-- Registers of a change over a step's registers, and whole changes.
use Rattle.std.specs.Prelude.{◌≡◌, Bool, List}
use Rattle.st_ids.specs.Listing.{item_of}
use Rattle.st_ids.specs.Order.{field_cmp}
use Rattle.st_ids.specs.declared.names.NodeId.{NodeId}
use Rattle.st_ids.specs.declared.names.Rev.{Rev}
use Rattle.st_kind.specs.Named.{Nodes}
use Rattle.st_marks.specs.declared.changes.Change.{Change}
use Rattle.st_marks.specs.declared.marks.RegMark.{RegMark}
use Rattle.st_marks.specs.declared.marks.RegStep.{RegStep}
use Rattle.st_marks.specs.declared.steps.Step.{Step}
use Rattle.st_marks.specs.Listings.{nodes_new}
use Rattle.st_moves.specs.Changes.{AreOfOneCommit}
use Rattle.st_rebase.specs.Exchanged.{AreExchanged}
use Rattle.st_rebase.specs.Registers.{RegBecomes}
use Rattle.st_rebase.specs.inside.Room.{AreRowsOver}

-- each register is exchanged for what it becomes over the step's register of its name
abbrev pub AreRegistersOver : Rev → List NodeId → List RegStep → List RegMark → List RegMark → Type 0
AreRegistersOver rev new step rs ts = AreExchanged (λ (r : RegMark). r.field) (λ r t. RegBecomes rev new (item_of field_cmp (λ (s : RegStep). s.field) step r.field) r t) rs ts

-- a change becomes another over what is left of a step, where the nodes of m stand already, with this said of the schema in effect
pub record IsChangeOver (m : Nodes) (X : Change) (S : Step) (base : Bool) (Y : Change) : Type 0 where
  pub commit : AreOfOneCommit X Y
  pub base_is : Y.base ≡ base
  pub rows : AreRowsOver m S.rows X.rows Y.rows
  pub regs : AreRegistersOver X.rev (nodes_new X.new) S.regs X.regs Y.regs
  pub loose : Y.loose ≡ X.loose
