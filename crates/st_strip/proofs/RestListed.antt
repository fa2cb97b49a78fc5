-- What is said of each name behind a first part of a step lists the step from where that part leads.
use Rattle.std.proofs.Common.{sym, ◌∙◌, subst}
use Rattle.st_ids.specs.Listing.{item_of}
use Rattle.st_ids.specs.Order.{field_cmp, node_cmp}
use Rattle.st_kind.specs.Named.{Nodes}
use Rattle.st_marks.specs.declared.marks.RegStep.{RegStep}
use Rattle.st_marks.specs.declared.marks.RowMarks.{RowMarks}
use Rattle.st_marks.specs.declared.steps.Step.{Step}
use Rattle.st_marks.specs.Document.{Document}
use Rattle.st_marks.specs.Extends.{IsExtendedBy}
use Rattle.st_marks.specs.Step.{IsSchemaStep, IsStep}
use Rattle.st_rows.proofs.Existence.{contents_grow}
use Rattle.st_trim.specs.Trimmed.{ListsStep}
use Rattle.st_steps.specs.WayBack.{schema_back}
use Rattle.st_steps.proofs.FieldsBack.{schema_back-is}
use Rattle.st_steps.proofs.SchemasInTurn.{in_turn-schemas}
use Rattle.st_strip.specs.Rest.{IsRestOf, TellsRest, named_rest, rest_new}
use Rattle.st_strip.proofs.RestCovered.{rest_covers}
use Rattle.st_strip.proofs.RestOfFields.{rest_loose-is, rest_new-is, rest_register-listed}
use Rattle.st_strip.proofs.RestOfRows.{rest_row-listed}

pub lists_rest : (D E F : Document) (S W G : Step) (told between last : Nodes)
    → IsExtendedBy D E → IsExtendedBy E F → (s : IsStep D E S) → (t : IsStep D F W)
    → TellsRest D E F s.mentioned t.mentioned told between last
    → IsRestOf S W G told between last
    → ListsStep E F (named_rest D F s.mentioned t.mentioned) G
lists_rest D E F S W G told between last x y s t tells g = record {
  covers = rest_covers D E F S W x y s t;
  schema = subst (IsSchemaStep E.schemas F.schemas) (sym g.schema)
      (in_turn-schemas E.schemas D.schemas F.schemas (schema_back S.schema) W.schema (schema_back-is D.schemas E.schemas S.schema s.schema) t.schema);
  new = record { rising = g.new_nodes.rising; at_each = λ n. g.new_nodes.at_each n ∙ (λ i. rest_new (s.new.at_each n i) (t.new.at_each n i)) ∙ rest_new-is D E F x y n };
  grows = λ n. contents_grow E F n y;
  rows_rise = g.rows.rising;
  rows = λ n. rest_row-listed D E F S W x y s t n (contents_grow E F n y) (item_of node_cmp (λ (r : RowMarks). r.node) G.rows n) (g.rows.at_each n);
  regs_rise = g.regs.rising;
  regs = λ f. rest_register-listed D E F S W x s t f (item_of field_cmp (λ (r : RegStep). r.field) G.regs f) (g.regs.at_each f);
  loose = record { rising = g.loose.rising; at_each = λ n. g.loose.at_each n ∙ rest_loose-is D E F s.mentioned t.mentioned told between last tells n };
}
