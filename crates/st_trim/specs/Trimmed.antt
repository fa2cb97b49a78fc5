-- Listings of steps that may name more than is asked, and what of them is said of fewer nodes.
use Rattle.std.specs.Prelude.{◌≡◌, ◌↔◌, true, false, map, Option, Some, None, MatchOption, option_and_then, if◌then◌else◌}
use Rattle.std.specs.List.{list_any}
use Rattle.st_ids.specs.Listing.{IsListing, IsRising, item_of}
use Rattle.st_ids.specs.Order.{field_cmp, node_cmp}
use Rattle.st_ids.specs.declared.names.FieldId.{FieldId}
use Rattle.st_ids.specs.declared.names.NodeId.{NodeId}
use Rattle.st_kind.specs.Named.{Nodes}
use Rattle.st_marks.specs.declared.changes.NewNode.{NewNode}
use Rattle.st_marks.specs.declared.marks.How.TheVariants.{Stay, Here, Leave}
use Rattle.st_marks.specs.declared.marks.Loose.{Loose}
use Rattle.st_marks.specs.declared.marks.RegStep.{RegStep}
use Rattle.st_marks.specs.declared.marks.RowMarks.{RowMarks}
use Rattle.st_marks.specs.declared.steps.Step.{Step}
use Rattle.st_marks.specs.Document.{Document, content}
use Rattle.st_marks.specs.Embedding.{row_marks, tells}
use Rattle.st_marks.specs.Extends.{GainsItems}
use Rattle.st_marks.specs.Register.{step_register}
use Rattle.st_marks.specs.Row.{CellMark, Counted, Gap, Touch, Make, Fill, SameCell, merge, spread, step_row}
use Rattle.st_marks.specs.Step.{IsMentionedByStep, IsSchemaStep, gained_node, step_loose}
use Rattle.st_trim.specs.Covers.{CoversStep}

-- k are the nodes that the step from D to E mentions
abbrev pub AreMentionedByStep : Document → Document → Nodes → Type 0
AreMentionedByStep D E k = (n : NodeId) → (k n ≡ true) ↔ IsMentionedByStep D E n

-- G lists the step from D to E with the nodes of K named, perhaps more than the step mentions. A row or register may be listed
-- though it tells nothing; one that tells something is listed
pub record ListsStep (D E : Document) (K : Nodes) (G : Step) : Type 0 where
  pub covers : CoversStep D E K
  pub schema : IsSchemaStep D.schemas E.schemas G.schema
  pub new : IsListing node_cmp (λ (m : NewNode). m.node) G.new (λ n. gained_node n (D.nodes n) (E.nodes n))
  pub grows : (n : NodeId) → GainsItems SameCell (content D n) (content E n)
  pub rows_rise : IsRising node_cmp (λ (r : RowMarks). r.node) G.rows
  pub rows : (n : NodeId) → MatchOption (item_of node_cmp (λ (r : RowMarks). r.node) G.rows n)
      (list_any tells (step_row K (grows n)) ≡ false) (λ r. r.marks ≡ merge (step_row K (grows n)))
  pub regs_rise : IsRising field_cmp (λ (r : RegStep). r.field) G.regs
  pub regs : (f : FieldId) → MatchOption (item_of field_cmp (λ (r : RegStep). r.field) G.regs f)
      (step_register f K (D.held f) (E.held f) ≡ None) (λ r. r ≡ record { field = f; before = D.held f; after = E.held f })
  pub loose : IsListing node_cmp (λ (l : Loose). l.node) G.loose (step_loose K D E)

-- ## With fewer nodes named

-- a mark of a step, where k alone is named: a node that stays is told only if it is named
abbrev pub trim_mark : Nodes → CellMark → CellMark
trim_mark k Counted = Counted
trim_mark k (Gap c) = Gap c
trim_mark k (Touch c n Stay) = if k n then Touch c n Stay else Counted
trim_mark k (Touch c n Here) = Touch c n Here
trim_mark k (Touch c n Leave) = Touch c n Leave
trim_mark k (Make c n b) = Make c n b
trim_mark k (Fill c n) = Fill c n

-- a row, if it still tells something
abbrev pub trim_row : Nodes → NodeId → Option RowMarks → Option RowMarks
trim_row k n o = option_and_then (λ (r : RowMarks). row_marks n (map (trim_mark k) (spread r.marks))) o

-- a register, if it differs or holds one of k
abbrev pub trim_register : Nodes → Option RegStep → Option RegStep
trim_register k o = option_and_then (λ (r : RegStep). step_register r.field k r.before r.after) o

-- a loose node, if it is one of k
abbrev pub trim_loose : Nodes → Option Loose → Option Loose
trim_loose k o = option_and_then (λ (l : Loose). if k l.node then Some l else None) o

-- T is G with k alone named
pub record IsTrimmedTo (k : Nodes) (G T : Step) : Type 0 where
  pub schema : T.schema ≡ G.schema
  pub new : T.new ≡ G.new
  pub rows : IsListing node_cmp (λ (r : RowMarks). r.node) T.rows (λ n. trim_row k n (item_of node_cmp (λ (r : RowMarks). r.node) G.rows n))
  pub regs : IsListing field_cmp (λ (r : RegStep). r.field) T.regs (λ f. trim_register k (item_of field_cmp (λ (r : RegStep). r.field) G.regs f))
  pub loose : IsListing node_cmp (λ (m : Loose). m.node) T.loose (λ n. trim_loose k (item_of node_cmp (λ (m : Loose). m.node) G.loose n))
