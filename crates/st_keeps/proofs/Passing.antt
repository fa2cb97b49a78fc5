-- Whether a commit keeps to the schema under which it was made.
use Rattle.std.proofs.Common.{◌≡◌, ◌↔◌, ℕ, Bool, true, List, Some, MatchOption, sym, ap, ◌∙◌, subst}
use Rattle.serde_json.specs.Written.{compact_text}
use Rattle.st_ids.specs.declared.names.Rev.{Rev}
use Rattle.st_schema.specs.Schema.{SchemaView, is_sound}
use Rattle.st_schema.specs.Written.{schema_data}
use Rattle.st_edits.specs.Keeping.{IsUpTo, KeepsToSchema, MayFollow, PassesSchema, text_at}
use Rattle.st_marks.specs.declared.intents.Intent.{Intent}
use Rattle.st_marks.specs.Document.{Document, revs}
use Rattle.st_schema_texts.proofs.Once.{front_once, same_text}

some_same : {A : Type 0} (x y : A) → Some x ≡ Some y → x ≡ y
some_same x y e = cc

module _ (O D : Document) (log : List Intent) (N : Intent) where
  abbrev Passes : Type 0
  Passes = PassesSchema O D log N

  -- the test holds where it does of the schema of the text, with the entries up to it
  pub by_schema : (b : Bool) (text : List ℕ) (U : SchemaView) (front : List Rev) → text_at D.schemas N.under ≡ Some text → is_sound U ≡ true → text ≡ compact_text (schema_data U) → IsUpTo N.under (revs D.schemas) front
      → ((b ≡ true) ↔ MatchOption N.schema (KeepsToSchema O D log U front N) (MayFollow U)) → (b ≡ true) ↔ Passes
  by_schema b text U front at sound written up_to is = (
    λ e. record { schema = U; front = front; view = record { text = at ∙ ap Some written; sound = sound }; up_to = up_to; keeps = is.0 e },
    λ (p : Passes).
        let same : p.schema ≡ U = same_text p.schema U p.view.sound sound (some_same (compact_text (schema_data p.schema)) (compact_text (schema_data U)) (sym p.view.text ∙ at ∙ ap Some written)) in
        let fronts : p.front ≡ front = front_once N.under (revs D.schemas) p.front front p.up_to up_to in
        is.1 (subst (λ (V : SchemaView). MatchOption N.schema (KeepsToSchema O D log V front N) (MayFollow V)) same (subst (λ (f : List Rev). MatchOption N.schema (KeepsToSchema O D log p.schema f N) (MayFollow p.schema)) fronts p.keeps)),
  )
