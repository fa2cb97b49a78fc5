-- The text of the last entry in effect is read as the schema that is told of it.
use Rattle.std.proofs.Common.{◌≡◌, List, [], ◌∷◌, Option, None, Some, option_and_then, unwrap_or, refl, sym, ap, ◌∙◌, inl, inr}
use Rattle.std.specs.List.{last_or}
use Rattle.st_ids.specs.Listing.{Has}
use Rattle.st_ids.specs.Root.{opening}
use Rattle.st_ids.specs.declared.names.Rev.{Rev}
use Rattle.st_schema.specs.Reading.{schema_of_text}
use Rattle.st_schema.specs.Schema.{SchemaView}
use Rattle.st_marks.specs.declared.schemas.SchemaEntry.{SchemaEntry}
use Rattle.st_marks.specs.Document.{Document, IsSoundInForm, first_of, last_of, revs}
use Rattle.st_schema_laws.specs.AgreeingInEffect.{ConformsInEffect, Told}
use Rattle.st_edits.specs.InEffect.{empty_schema, last_in_effect, schema_in_effect}
use Rattle.st_schema_laws.specs.Widening.{IsTextOf}

last_entry : (e : SchemaEntry) (es : List SchemaEntry) → (o : SchemaEntry) × (last_or (Some e) es ≡ Some o) × Has (e ∷ es) o × (last_or (Some e.rev) (revs es) ≡ Some o.rev)
last_entry e [] = (e, refl, inl refl, refl)
last_entry e (x ∷ es) = let o = last_entry x es in (o.0, o.1, inr o.2, o.3)

pub read_as_told : (T : Told) (D : Document) → IsSoundInForm D → ConformsInEffect T D → schema_in_effect D ≡ T.view (last_in_effect D)
read_as_told T D s here = go D.schemas s.in_effect.begun here.widening.written
  where
    go : (es : List SchemaEntry) → first_of (revs es) ≡ Some opening → ((e : SchemaEntry) → Has es e → IsTextOf (T.view e.rev) e.text)
        → unwrap_or (option_and_then (λ (e : SchemaEntry). schema_of_text e.text) (last_of es)) empty_schema ≡ T.view (unwrap_or (last_of (revs es)) opening)
    go [] begun told = let bad : None ≡ Some opening = begun in absurd cc
    go (e ∷ es) begun told =
        let o = last_entry e es in
        let text = told o.0 o.2 in
        ap (λ (x : Option SchemaEntry). unwrap_or (option_and_then (λ (e : SchemaEntry). schema_of_text e.text) x) empty_schema) o.1
        ∙ ap (λ (x : Option SchemaView). unwrap_or x empty_schema) text.back
        ∙ ap (λ (x : Option Rev). T.view (unwrap_or x opening)) (sym o.3)
