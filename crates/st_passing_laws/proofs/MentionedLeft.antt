-- A step that passes a change moves none of the nodes that the change's intent mentions: of a change and a step that are read.
use Rattle.std.proofs.Common.{◌≡◌, ◌∙◌, sym, refl, subst, false, ap}
use Rattle.st_marks.specs.declared.changes.Change.{Change}
use Rattle.st_marks.specs.declared.intents.Intent.{Intent}
use Rattle.st_marks.specs.declared.places.Spot.{Spot}
use Rattle.st_marks.specs.declared.steps.Step.{Step}
use Rattle.st_marks.specs.Document.{Document}
use Rattle.st_marks.specs.Embedding.{IsEmbedding}
use Rattle.st_marks.specs.Extends.{IsExtendedBy}
use Rattle.st_marks.specs.Step.{IsSchemaStep, IsStep}
use Rattle.st_marks.proofs.Climb.{shown, stands}
use Rattle.st_read_laws.specs.Reading.{IsRead, IsStepRead, read_change, read_step}
use Rattle.st_passing.specs.Whole.{LeavesMentioned, Passes}
use Rattle.st_passing.proofs.NodesStaying.{row_stays, stands_on}
use Rattle.st_passing_laws.proofs.NodesLeft.{held_stays, loose_stays, rows_do_not_meet}
use Rattle.st_marks.specs.Embedding.{row_part}

module _ (D E : Document) (N : Intent) (C : Change) (S : Step) (x : IsExtendedBy D E) (change : IsEmbedding D N C) (step : IsStep D E S) (passes : Passes (read_change false C) (read_step false S)) where
  pub leaves_mentioned : LeavesMentioned D E N
  leaves_mentioned k m = go (D.place k) refl
    where
      go : (s : Spot) → D.place k ≡ s → D.place k ≡ E.place k
      go Spot.Nowhere e = e ∙ sym (loose_stays D E N C S x change step passes k e m)
      go (Spot.Register f) e = e ∙ sym ((x.after.one_held k f).0 (held_stays D E N C S x change step passes f k ((x.before.one_held k f).1 e) m))
      go (Spot.Row n a) e =
          let p = row_part change.mentioned N n in
          let stay = row_stays a p step.mentioned (step.grows n) (rows_do_not_meet D E N C S x change step passes n) in
          e ∙ sym (stands E x.after k n a (stands_on p step.mentioned (step.grows n) stay a k ((change.which k).1 m) (shown D x.before k n a e)))

-- however the change and the step are given
pub both_read : (D E : Document) (N : Intent) (C : Change) (S : Step) → (P : Change → Step → Type 0) → (c : IsRead false D N C) → (s : IsStepRead false D E S) → P C S → P (read_change false c.0) (read_step false s.0)
both_read D E N C S P c s h = subst (λ S. P (read_change false c.0) S) s.2 (subst (λ C. P C S) c.2 h)

pub read_leaves_mentioned : (D E : Document) (N : Intent) (C : Change) (S : Step) → IsExtendedBy D E → IsRead false D N C → IsStepRead false D E S → Passes C S → LeavesMentioned D E N
read_leaves_mentioned D E N C S x c s p = leaves_mentioned D E N c.0 s.0 x c.1 s.1 (both_read D E N C S Passes c s p)

pub read_schemas_stay : (D E : Document) (C : Change) (S : Step) → IsStepRead false D E S → Passes C S → D.schemas ≡ E.schemas
read_schemas_stay D E C S s p = subst (IsSchemaStep D.schemas E.schemas) (sym (ap (λ (S : Step). S.schema) s.2) ∙ p.step_schema) s.1.schema
