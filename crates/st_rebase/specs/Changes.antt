-- A whole change over the rest of a step, from the document between.
use Rattle.std.specs.Prelude.{◌≡◌, ◌↔◌, List, IsTrue}
use Rattle.st_ids.specs.Listing.{item_of}
use Rattle.st_ids.specs.Order.{field_cmp, node_cmp}
use Rattle.st_ids.specs.declared.names.NodeId.{NodeId}
use Rattle.st_kind.specs.Named.{Nodes}
use Rattle.st_marks.specs.declared.changes.Change.{Change}
use Rattle.st_marks.specs.declared.intents.Intent.{Intent}
use Rattle.st_marks.specs.declared.marks.RegMark.{RegMark}
use Rattle.st_marks.specs.declared.marks.RegStep.{RegStep}
use Rattle.st_marks.specs.declared.marks.RowMarks.{RowMarks}
use Rattle.st_marks.specs.declared.steps.Step.{Step}
use Rattle.st_marks.specs.Document.{Document}
use Rattle.st_marks.specs.Verdict.{IsBaseInEffect}
use Rattle.st_moves.specs.Changes.{AreOfOneCommit}
use Rattle.st_rebase.specs.Exchanged.{AreExchanged}
use Rattle.st_rebase.specs.Registers.{RegBecomes}
use Rattle.st_rebase.specs.Rows.{RowBecomes}

-- Y is the change X, which is one of the document between, with each of its rows and registers as it becomes over what is
-- left of the step S there
pub record IsRebasedFrom (X : Change) (E : Document) (N : Intent) (S : Step) (m : Nodes) (new : List NodeId) (Y : Change) : Type 0 where
  pub commit : AreOfOneCommit X Y
  -- whether the schema under which the commit was made is in effect in the later document
  pub base : IsTrue Y.base ↔ IsBaseInEffect E N
  pub rows : AreExchanged (λ (r : RowMarks). r.node) (λ r t. RowBecomes X.rev new m (item_of node_cmp (λ (s : RowMarks). s.node) S.rows r.node) r t) X.rows Y.rows
  pub regs : AreExchanged (λ (r : RegMark). r.field) (λ r t. RegBecomes X.rev new (item_of field_cmp (λ (s : RegStep). s.field) S.regs r.field) r t) X.regs Y.regs
  -- a loose node stands as later already
  pub loose : Y.loose ≡ X.loose
