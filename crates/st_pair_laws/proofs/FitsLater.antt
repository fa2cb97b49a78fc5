-- What fits a document over which a step is, and makes nothing that the step makes, fits the document after it.
use Rattle.std.proofs.Common.{◌≡◌, List, Option, Some, None, IsSome, IsTrue, IfSome, option_map, refl, sym, ap, ◌∙◌, subst}
use Rattle.std.specs.List.{AllByRecursion, find}
use Rattle.std.specs.Option.{option_or}
use Rattle.st_ids.specs.Listing.{Has, item_of}
use Rattle.st_ids.specs.Order.{node_cmp, same_cell}
use Rattle.st_ids.proofs.Listings.{item_of-has}
use Rattle.st_ids.proofs.Orders.{node_cmp_exact, node_cmp_total, same_cell-true}
use Rattle.st_ids.specs.declared.names.CellId.{CellId}
use Rattle.st_ids.specs.declared.names.NodeId.{NodeId}
use Rattle.st_marks.specs.declared.changes.NewNode.{NewNode}
use Rattle.st_marks.specs.declared.intents.Intent.{Intent}
use Rattle.st_marks.specs.declared.marks.RowMarks.{RowMarks}
use Rattle.st_marks.specs.declared.schemas.SchemaEntry.{SchemaEntry}
use Rattle.st_marks.specs.declared.schemas.SchemaStep.{SchemaStep}
use Rattle.st_marks.specs.declared.steps.Step.{Step}
use Rattle.st_marks.specs.Document.{Document, IsSoundInForm, NodeType}
use Rattle.st_marks.specs.Intent.{Fits, is_new, new_row_of}
use Rattle.st_marks.specs.Listings.{cells_made, is_among_cells, nodes_new}
use Rattle.st_marks.specs.Row.{spread}
use Rattle.st_marks.specs.Step.{IsSchemaStep}
use Rattle.st_marks.proofs.Later.{fits_later}
use Rattle.st_marks.proofs.Members.{any-has, first-has, flat_map-has, map-has}
use Rattle.st_normal.specs.Rules.{ObeysStepRules, in_rows}
use Rattle.st_normal_step_laws.specs.StepOver.{IsOverStep, later, schemas_later}
use Rattle.st_normal_step_laws.proofs.RingsLater.{later_extends}
use Rattle.st_normal_step_laws.proofs.SoundLater.{schemas-are}

module _ (D : Document) (S : Step) (x : IsSoundInForm D) (w : ObeysStepRules S) (o : IsOverStep D S) where
  abbrev E : Document
  E = later D S

  -- the entries after it are those to which its own part leads
  pub schemas_after : (after : List SchemaEntry) → IsSchemaStep D.schemas after S.schema → E.schemas ≡ after
  schemas_after after h = go S.schema refl h
    where
      go : (q : Option SchemaStep) → S.schema ≡ q → IsSchemaStep D.schemas after q → E.schemas ≡ after
      go None e h = ap (λ q. schemas_later q D.schemas) e ∙ h
      go (Some s) e (front, f, g, l, d) = schemas-are D S x w o s e front f ∙ sym g

  unknown : (n : NodeId) → D.nodes n ≡ None → (Has (nodes_new S.new) n → ⊥) → E.nodes n ≡ None
  unknown n none old = go (item_of node_cmp (λ (m : NewNode). m.node) S.new n) refl
    where
      go : (q : Option NewNode) → item_of node_cmp (λ (m : NewNode). m.node) S.new n ≡ q → option_or (option_map (λ (m : NewNode). let t : NodeType = record { ty = m.ty; leaf = m.leaf } in t) q) (D.nodes n) ≡ None
      go None e = none
      go (Some m) e = let i = item_of-has node_cmp node_cmp_total node_cmp_exact (λ (m : NewNode). m.node) S.new n m e in
          absurd (old (subst (Has (nodes_new S.new)) i.1 (map-has (λ (m : NewNode). m.node) S.new m i.0)))

  absent : (c : CellId) → D.row_of c ≡ None → (Has (in_rows cells_made S.rows) c → ⊥) → E.row_of c ≡ None
  absent c none old = go (find (λ (r : RowMarks). is_among_cells (cells_made (spread r.marks)) c) S.rows) refl
    where
      go : (q : Option RowMarks) → find (λ (r : RowMarks). is_among_cells (cells_made (spread r.marks)) c) S.rows ≡ q → option_or (option_map (λ (r : RowMarks). r.node) q) (D.row_of c) ≡ None
      go None e = none
      go (Some r) e =
          let i = first-has (λ (r : RowMarks). is_among_cells (cells_made (spread r.marks)) c) S.rows r e in
          let d = any-has (λ d. same_cell d c) (cells_made (spread r.marks)) i.1 in
          absurd (old (flat_map-has (λ (r : RowMarks). cells_made (spread r.marks)) S.rows r c i.0 (subst (Has (cells_made (spread r.marks))) (same_cell-true d.0 c d.2) d.1)))

  pub fits_after : (N : Intent) → Fits D N → ((n : NodeId) → IsTrue (is_new N n) → Has (nodes_new S.new) n → ⊥) → ((c : CellId) → IsSome (new_row_of N c) → Has (in_rows cells_made S.rows) c → ⊥)
      → IfSome N.schema (λ _. AllByRecursion (λ (e : SchemaEntry). e.rev ≡ N.rev → ⊥) E.schemas) → Fits E N
  fits_after N f nodes cells schema = fits_later D E N (later_extends D S x w o) f
      (λ n e. unknown n (f.fresh_nodes n e) (nodes n e)) (λ c e. absent c (f.fresh_cells c e) (cells c e)) schema
