-- A document after an intent is extended by a later one after that intent, whatever the two verdicts are.
use Rattle.std.proofs.Common.{◌≡◌, true, List, [], ◌∷◌, map, refl, sym, ap, ◌∙◌, subst}
use Rattle.st_marks.specs.declared.changes.Change.{Change}
use Rattle.st_marks.specs.declared.intents.Intent.{Intent}
use Rattle.st_marks.specs.declared.intents.Owned.{Owned}
use Rattle.st_marks.specs.declared.places.Slot.{Slot}
use Rattle.st_marks.specs.declared.steps.Step.{Step}
use Rattle.st_marks.specs.declared.verdicts.Verdict.{Verdict}
use Rattle.st_marks.specs.Document.{Document, HasShortRows, content, slot}
use Rattle.st_marks.specs.Embedding.{IsEmbedding, row_part}
use Rattle.st_marks.specs.Extends.{GainsItems, IsExtendedBy, item_gained, item_kept, no_more}
use Rattle.st_marks.specs.Intent.{Fits}
use Rattle.st_marks.specs.CarryOut.{full}
use Rattle.st_marks.specs.Row.{SameCell, embed_row, step_row}
use Rattle.st_marks.specs.Step.{IsStep}
use Rattle.st_marks.specs.Verdict.{IsVerdict, carried_document}
use Rattle.st_marks.proofs.OneVerdict.{carried_extends}
use Rattle.st_log_laws.proofs.Names.{names_beside, names_extended}
use Rattle.st_rows.proofs.Existence.{lists_new}
use Rattle.st_reading.proofs.DocumentRowsCrossed.{crossed}

-- cells with their owners
abbrev names_of : List Slot → List Owned
names_of c = map (λ (s : Slot). record { cell = s.cell; node = s.node }) c

content_names : (D : Document) (os : List Owned) → names_of (map (slot D) os) ≡ os
content_names D [] = refl
content_names D (o ∷ os) = ap (λ (l : List Owned). o ∷ l) (content_names D os)

gains_names : {c d : List Slot} → GainsItems SameCell c d → GainsItems (λ (o p : Owned). o ≡ p) (names_of c) (names_of d)
gains_names no_more = no_more
gains_names (item_gained g) = item_gained (gains_names g)
gains_names (item_kept same g) = item_kept (λ i. record { cell = same.0 i; node = same.1 i }) (gains_names g)

pub extends_beside : (D E : Document) (N : Intent) (C : Change) (S : Step) (v u : Verdict) → IsExtendedBy D E → Fits D N → Fits E N → HasShortRows (full D N) → HasShortRows (full E N)
    → IsVerdict D N v → IsVerdict E N u → IsEmbedding D N C → IsStep D E S → IsExtendedBy (carried_document v D N) (carried_document u E N)
extends_beside D E N C S v u x f g a b is was emb step =
    let first = carried_extends D N v x.before f a is in
    let then = carried_extends E N u x.after g b was in
    let names = names_beside D E N v u (names_extended D E x) g in
    record {
      before = first.after;
      after = then.after;
      nodes = names.nodes;
      rows = λ n.
          let led = crossed D E N x f g C S emb step _ (lists_new D N C emb) true v u n (embed_row (row_part emb.mentioned N n) (content D n)) (step_row step.mentioned (step.grows n)) refl refl in
          subst (λ (l : List Owned). GainsItems (λ (o p : Owned). o ≡ p) l ((carried_document u E N).rows n)) (content_names (carried_document v D N) ((carried_document v D N).rows n))
          (subst (GainsItems (λ (o p : Owned). o ≡ p) (names_of (content (carried_document v D N) n))) (content_names (carried_document u E N) ((carried_document u E N).rows n)) (gains_names led.0));
      first_schema = sym first.first_schema ∙ x.first_schema ∙ then.first_schema;
    }
