-- What is told of a change is the intent whose change it is.
use Rattle.std.proofs.Common.{◌≡◌, ◌↔◌, Bool, true, false, refl, subst}
use Rattle.st_marks.specs.declared.changes.Change.{Change}
use Rattle.st_marks.specs.declared.intents.Intent.{Intent}
use Rattle.st_marks.specs.Document.{Document}
use Rattle.st_marks.specs.Embedding.{IsEmbedding}
use Rattle.st_marks.specs.Intent.{Fits}
use Rattle.st_marks.proofs.Unique.{one_embedding}
use Rattle.st_lemmas.proofs.Bools.{true-false}
use Rattle.st_same_laws.specs.Same.{LooksAlike, SaysTheSame}
use Rattle.st_same_laws.proofs.JoinsAndWaysBack.{says}
use Rattle.st_same_laws.proofs.OneChange.{embedding_same}
use Rattle.st_told.proofs.FitsAlike.{alike_fits}
use Rattle.st_meaning.specs.InOrder.{IsInOrder}
use Rattle.st_meaning.proofs.OrderedIntents.{ordered_is_intent}

-- what looks like an intent that fits and has a change, fits and has it too, if its lists stand in order
pub fits_too : (D : Document) (N M : Intent) (C : Change) → Fits D N → IsEmbedding D N C → LooksAlike N M → IsInOrder M → Fits D M × IsEmbedding D M C
fits_too D N M C f e s o =
    let v = ordered_is_intent N M f.itself s o in
    let t : SaysTheSame N M = says N M f.itself v s in
    (alike_fits D N M v t f, embedding_same D N M C f.itself v t e)

-- the change of an intent that fits is this one where both are the same
pub is_changed : (D : Document) (N : Intent) (C K : Change) (b : Bool) → Fits D N → IsEmbedding D N K → ((b ≡ true) ↔ (K ≡ C)) → (b ≡ true) ↔ (Fits D N × IsEmbedding D N C)
is_changed D N C K b f e same = (λ t. (f, subst (IsEmbedding D N) (same.0 t) e), λ p. same.1 (one_embedding D N K C e p.1))

pub not_fitting : (D : Document) (N : Intent) (C : Change) (b : Bool) → b ≡ false → ((b ≡ true) ↔ Fits D N) → (false ≡ true) ↔ (Fits D N × IsEmbedding D N C)
not_fitting D N C b off fits = (λ e. absurd (true-false e refl), λ p. absurd (true-false (fits.1 p.0) off))
