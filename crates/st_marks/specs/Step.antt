-- The step from a document to one that extends it: the difference of places.
use Rattle.std.specs.Prelude.{◌≡◌, ◌≢◌, ◌↔◌, ◌⊎◌, ℕ, Bool, true, List, ◌++◌, Option, Some, None, IsSome, if◌then◌else◌}
use Rattle.st_ids.specs.Listing.{IsListing}
use Rattle.st_ids.specs.Order.{node_cmp, field_cmp}
use Rattle.st_ids.specs.declared.names.FieldId.{FieldId}
use Rattle.st_ids.specs.declared.names.NodeId.{NodeId}
use Rattle.st_marks.specs.declared.changes.NewNode.{NewNode}
use Rattle.st_marks.specs.declared.marks.How.TheVariants.{Stay, Leave}
use Rattle.st_marks.specs.declared.marks.Loose.{Loose}
use Rattle.st_marks.specs.declared.marks.RegStep.{RegStep}
use Rattle.st_marks.specs.declared.marks.RowMarks.{RowMarks}
use Rattle.st_marks.specs.declared.schemas.SchemaEntry.{SchemaEntry}
use Rattle.st_marks.specs.declared.schemas.SchemaStep.{SchemaStep}
use Rattle.st_marks.specs.declared.steps.Step.{Step}
use Rattle.st_marks.specs.Document.{Document, NodeType, above, climb, content, first_of, last_of, revs}
use Rattle.st_marks.specs.Extends.{GainsItems}
use Rattle.st_marks.specs.Row.{SameCell, step_row}
use Rattle.st_marks.specs.Register.{step_register}
use Rattle.st_marks.specs.Embedding.{row_marks, is_nowhere, is_loose}

-- ## What a step mentions

-- a node of D that stands elsewhere in E, or whose row or a register of which differs in E
abbrev pub IsChanged : Document → Document → NodeId → Type 0
IsChanged D E n = IsSome (D.nodes n) × ((D.place n ≢ E.place n) ⊎ (content D n ≢ content E n) ⊎ ((f : FieldId) × (f.node ≡ n) × (D.held f ≢ E.held f)))

-- those, and all nodes above them in D
abbrev pub IsMentionedByStep : Document → Document → NodeId → Type 0
IsMentionedByStep D E n = (s : NodeId) × IsChanged D E s × (k : ℕ) × (climb (above D) k s ≡ Some n)

-- ## What is listed

-- a node that E has and D has not, from what both have under its name
abbrev pub gained_node : NodeId → Option NodeType → Option NodeType → Option NewNode
gained_node n None None = None
gained_node n None (Some t) = Some (record { node = n; ty = t.ty; leaf = t.leaf })
gained_node n (Some t) after = None

-- what becomes of a node that is nowhere
abbrev pub step_loose : (NodeId → Bool) → Document → Document → NodeId → Option Loose
step_loose mentioned D E n = if is_loose mentioned D n then Some (record { node = n; how = if is_nowhere (E.place n) then Stay else Leave }) else None

-- two lists of entries: nothing where they are equal; else what follows the longest front that they share
abbrev pub IsSchemaStep : List SchemaEntry → List SchemaEntry → Option SchemaStep → Type 0
IsSchemaStep before after None = before ≡ after
IsSchemaStep before after (Some s) =
    (front : List SchemaEntry) × (before ≡ front ++ s.cut) × (after ≡ front ++ s.add) × (last_of (revs front) ≡ Some s.on) × (first_of s.cut ≢ first_of s.add)

-- S is the step from D to E, which extends D
pub record IsStep (D E : Document) (S : Step) : Type 0 where
  pub mentioned : NodeId → Bool
  pub which : (n : NodeId) → (mentioned n ≡ true) ↔ IsMentionedByStep D E n
  pub schema : IsSchemaStep D.schemas E.schemas S.schema
  pub new : IsListing node_cmp (λ (m : NewNode). m.node) S.new (λ n. gained_node n (D.nodes n) (E.nodes n))
  pub grows : (n : NodeId) → GainsItems SameCell (content D n) (content E n)
  pub rows : IsListing node_cmp (λ (r : RowMarks). r.node) S.rows (λ n. row_marks n (step_row mentioned (grows n)))
  pub regs : IsListing field_cmp (λ (r : RegStep). r.field) S.regs (λ f. step_register f mentioned (D.held f) (E.held f))
  pub loose : IsListing node_cmp (λ (l : Loose). l.node) S.loose (step_loose mentioned D E)
