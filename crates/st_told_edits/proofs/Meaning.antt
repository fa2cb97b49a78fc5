-- What an edit means, in the words of the steps of a world.
use Rattle.std.proofs.Common.{◌≡◌, Some, None, Ok, Err, refl, sym, ◌∙◌, subst}
use Rattle.st_edits.specs.Resolve.{resolve}
use Rattle.st_edits.specs.declared.names.NameCounters.{NameCounters}
use Rattle.st_ids.specs.Or.{IfRefused}
use Rattle.st_ids.specs.declared.fault.Or.{Or}
use Rattle.st_ids.specs.declared.fault.Or.TheVariants.{Fault}
use Rattle.st_marks.specs.Document.{Document}
use Rattle.st_marks.specs.Embedding.{IsEmbedding}
use Rattle.st_marks.specs.declared.changes.Change.{Change}
use Rattle.st_marks.specs.declared.intents.Intent.{Intent}
use Rattle.st_schema.specs.Schema.{SchemaView}
use Rattle.st_script.specs.Steps.{edit_view}
use Rattle.st_script.specs.declared.step.EditAct.{EditAct}
use Rattle.st_script.specs.declared.step.EditAct.TheVariants as edits
use Rattle.st_told_edits.specs.Told.{IsToldOf}
use Rattle.st_tree.specs.declared.edit.EditFault.{EditFault}
use Rattle.st_world.specs.Edits.{edit_of}
use Rattle.st_world.specs.World.{intent_of}

pub means : (D : Document) (s : SchemaView) (G : NameCounters) (e : EditAct) → intent_of D s G (edit_view e) ≡ resolve D s G (edit_of e)
means D s G (edits.Insert at key index items) = refl
means D s G (edits.Remove at key index count) = refl
means D s G (edits.Move at key index count to to_key to_index) = refl
means D s G (edits.Set at key item) = refl
means D s G (edits.Clear at key) = refl

module _ (D : Document) (s : SchemaView) (G : NameCounters) (e : EditAct) where
  pub told : (N : Intent) (C : Change) → resolve D s G (edit_of e) ≡ Ok N → IsEmbedding D N C → IsToldOf D (intent_of D s G (edit_view e)) (Some C)
  told N C is x = subst (λ r. IsToldOf D r (Some C)) (sym (means D s G e ∙ is)) x

  pub refused : (o : Or EditFault) (f : EditFault) → o ≡ Fault f → IfRefused {T = Intent} (Err o) (λ x. resolve D s G (edit_of e) ≡ Err x) → IsToldOf D (intent_of D s G (edit_view e)) None
  refused o f is bad =
      let here : resolve D s G (edit_of e) ≡ Err f = subst (λ (x : Or EditFault). IfRefused {T = Intent} (Err x) (λ x. resolve D s G (edit_of e) ≡ Err x)) is bad in
      subst (λ r. IsToldOf D r None) (sym (means D s G e ∙ here)) tt
