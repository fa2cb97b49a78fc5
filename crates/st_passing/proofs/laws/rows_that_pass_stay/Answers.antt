use Rattle.std.proofs.Common.{◌≡◌, ◌∙◌, sym, refl, map, false}
use Rattle.st_ids.specs.declared.names.CellId.{CellId}
use Rattle.st_ids.specs.declared.names.NodeId.{NodeId}
use Rattle.st_marks.specs.declared.changes.Change.{Change}
use Rattle.st_marks.specs.declared.intents.Intent.{Intent}
use Rattle.st_marks.specs.declared.places.Spot.{Spot}
use Rattle.st_marks.specs.declared.steps.Step.{Step}
use Rattle.st_marks.specs.Document.{Document, content}
use Rattle.st_marks.specs.Embedding.{IsEmbedding, IsMentionedByIntent, row_part}
use Rattle.st_marks.specs.Extends.{IsExtendedBy}
use Rattle.st_marks.specs.Row.{embed_row, step_row}
use Rattle.st_marks.specs.Step.{IsStep}
use Rattle.st_marks.proofs.Climb.{shown, stands}
use Rattle.st_read_laws.specs.Reading.{read}
use Rattle.st_passing.specs.Passing.{DoesNotMeet}
use Rattle.st_passing.proofs.NodesStaying.{row_stays, stands_on}
use Rattle.st_passing.proofs.laws.rows_that_pass_stay.Goals as goal

stays_in_row : (D E : Document) (N : Intent) (C : Change) (S : Step) (n k : NodeId) (a : CellId) → IsExtendedBy D E → (change : IsEmbedding D N C) → (step : IsStep D E S)
    → DoesNotMeet false (map (read false) (embed_row (row_part change.mentioned N n) (content D n))) (map (read false) (step_row step.mentioned (step.grows n)))
    → IsMentionedByIntent D N k → D.place k ≡ Spot.Row n a → E.place k ≡ Spot.Row n a
stays_in_row D E N C S n k a x change step h m e =
    let p = row_part change.mentioned N n in
    stands E x.after k n a (stands_on p step.mentioned (step.grows n) (row_stays a p step.mentioned (step.grows n) h) a k ((change.which k).1 m) (shown D x.before k n a e))

pub returns-clause-row : goal.returns-clause-row
returns-clause-row w = λ p named c d g z h. row_stays z p named g h

pub returns-clause-documents : goal.returns-clause-documents
returns-clause-documents w = λ D E N C S n k a x change step h m e. stays_in_row D E N C S n k a x change step h m e

pub returns-clause-whole : goal.returns-clause-whole
returns-clause-whole w = λ D E N C S x change step rows regs loose k m.
    let go : (s : Spot) → D.place k ≡ s → D.place k ≡ E.place k = λ s. elim s as (λ s. D.place k ≡ s → D.place k ≡ E.place k) [
      | Spot.Nowhere ↦ (λ e. e ∙ sym (loose k e m))
      | Spot.Row n a ↦ (λ e. e ∙ sym (stays_in_row D E N C S n k a x change step (rows n) m e))
      | Spot.Register f ↦ (λ e. e ∙ sym ((x.after.one_held k f).0 (regs f k ((x.before.one_held k f).1 e) m)))
    ] in
    go (D.place k) refl
