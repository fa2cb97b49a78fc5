-- What a change means in the author's document, by the intent whose change it is there.
use Rattle.std.proofs.Common.{◌≡◌, ℕ, List, Option, None, Some, IfSome, Result, Ok, Err, IfOk, refl, subst}
use Rattle.st_ids.specs.Listing.{Has}
use Rattle.st_lists.specs.declared.lists.Entry.{Entry}
use Rattle.st_marks.specs.declared.changes.Change.{Change}
use Rattle.st_marks.specs.declared.intents.Intent.{Intent}
use Rattle.st_marks.specs.Document.{Document}
use Rattle.st_marks.specs.Embedding.{IsEmbedding}
use Rattle.st_marks.specs.Intent.{Fits}
use Rattle.st_marks.specs.Run.{Run}
use Rattle.st_marks.proofs.OneVerdict.{one_run}
use Rattle.st_meaning.specs.InOrder.{IsInOrder}
use Rattle.st_valid.specs.Author.{author_list}
use Rattle.st_valid.specs.Context.{HasContext, known_revisions}
use Rattle.st_replay.specs.Meant.{IsMeant}

module _ {E : Type 0} (D : Document) (log : List Entry) (session reference : ℕ) (C : Change) where
  pub meant_some : (result : Result (Option Intent) E) → Has (known_revisions (author_list log session reference)) C.under
      → IfOk result (λ o. IfSome o (λ N. Fits D N × IsEmbedding D N C × IsInOrder N))
      → IfOk result (λ o. IfSome o (λ N. (O : Document) → Run O (author_list log session reference) D → IsMeant O log session reference C N))
  meant_some (Ok None) known h = tt
  meant_some (Ok (Some N)) known h = λ O ran. record {
    context = record { meant = record { document = D; ran = ran; intent = N; fits = h.0; embeds = h.1 }; under = known };
    intent = refl;
    order = h.2;
  }
  meant_some (Err e) known h = tt

  pub meant_none : (result : Result (Option Intent) E)
      → IfOk result (λ o. o ≡ None → (N : Intent) → Fits D N → IsEmbedding D N C → ⊥)
      → IfOk result (λ o. o ≡ None → (O : Document) → Run O (author_list log session reference) D → HasContext O log session reference C → ⊥)
  meant_none (Ok o) h = λ none O ran context.
      let same : context.meant.document ≡ D = one_run context.meant.ran ran in
      h none context.meant.intent (subst (λ (F : Document). Fits F context.meant.intent) same context.meant.fits) (subst (λ (F : Document). IsEmbedding F context.meant.intent C) same context.meant.embeds)
  meant_none (Err e) h = tt
