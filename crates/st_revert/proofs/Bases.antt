-- Whether a schema is in effect after a step, where the way back begins.
use Rattle.std.proofs.Common.{◌≡◌, ◌↔◌, Bool, true, false, ◌&&◌, not, List, Option, Some, None, refl, sym, ap, ◌∙◌, subst, inl, inr, ◌⊎◌, IsTrue}
use Rattle.st_ids.specs.Listing.{Has}
use Rattle.st_ids.specs.Order.{same_rev}
use Rattle.st_ids.proofs.Orders.{same_rev-itself, same_rev-true}
use Rattle.st_ids.specs.declared.names.Rev.{Rev}
use Rattle.st_marks.specs.declared.intents.Intent.{Intent}
use Rattle.st_marks.specs.declared.schemas.SchemaEntry.{SchemaEntry}
use Rattle.st_marks.specs.declared.schemas.SchemaStep.{SchemaStep}
use Rattle.st_marks.specs.Document.{CanBeInEffect, Document, revs}
use Rattle.st_marks.specs.Step.{IsSchemaStep}
use Rattle.st_marks.specs.Verdict.{HasBase, IsBaseInEffect}
use Rattle.st_marks.proofs.Members.{any-has, distinct-between, has-any, has-append, has-map}
use Rattle.st_revert.specs.Reversal.{has_rev, takes_out}

-- a schema that is in effect after a step wasn't taken out by it
kept_after : (before after : List SchemaEntry) (s : Option SchemaStep) (u : Rev) → CanBeInEffect before → IsSchemaStep before after s → Has (revs after) u → takes_out s u ≡ false
kept_after before after None u sound h has = refl
kept_after before after (Some s) u sound h has = go (has_rev s.cut u) refl
  where
    front : List SchemaEntry
    front = h.0

    both : (a b : Bool) → b ≡ true → (a && not b) ≡ false
    both true b e = ap not e
    both false b e = refl

    go : (b : Bool) → has_rev s.cut u ≡ b → (b && not (has_rev s.add u)) ≡ false
    go false e = refl
    go true e = both true (has_rev s.add u) (at (has-append front s.add w.0 (subst (λ l. Has l w.0) h.2 w.1)))
      where
        w : (x : SchemaEntry) × Has after x × (x.rev ≡ u)
        w = has-map (λ (x : SchemaEntry). x.rev) after u has

        at : Has front w.0 ⊎ Has s.add w.0 → has_rev s.add u ≡ true
        at (inr i) = has-any (λ (x : SchemaEntry). same_rev x.rev u) s.add w.0 i (ap (λ r. same_rev r u) w.2 ∙ same_rev-itself u)
        at (inl i) =
            let c = any-has (λ (x : SchemaEntry). same_rev x.rev u) s.cut e in
            absurd (distinct-between (λ (x : SchemaEntry). x.rev) front s.cut w.0 c.0 (subst (Rattle.st_ids.specs.Listing.AreDistinct (λ (x : SchemaEntry). x.rev)) h.1 sound.once) i c.1 (same_rev-true c.0.rev u c.2 ∙ sym w.2))

-- so what the way back says of it is so
pub base_is : (D E : Document) (B : Intent) (s : Option SchemaStep) (u : Rev) → CanBeInEffect D.schemas → IsSchemaStep D.schemas E.schemas s → B.schema ≡ None → B.under ≡ u → Has (revs E.schemas) u
    → IsTrue (not (takes_out s u)) ↔ IsBaseInEffect E B
base_is D E B s u sound h plain under has =
    (λ e. subst (λ o. HasBase E.schemas o B.under) (sym plain) (subst (Has (revs E.schemas)) (sym under) has), λ e. ap not (kept_after D.schemas E.schemas s u sound h has))
