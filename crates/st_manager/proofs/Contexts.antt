-- An author's context is judged by the bridge.
use Rattle.std.proofs.Common.{◌↔◌, Bool, ℕ, List, subst}
use Rattle.st_author_laws.specs.Back.{IsOfAnIntent, IsOverBack}
use Rattle.st_author_laws.proofs.ChangesOver.{author_over}
use Rattle.st_ids.specs.Listing.{Has}
use Rattle.st_lists.specs.declared.lists.Entry.{Entry}
use Rattle.st_marks.specs.declared.changes.Change.{Change}
use Rattle.st_marks.specs.declared.steps.Step.{Step}
use Rattle.st_marks.specs.Document.{Document}
use Rattle.st_marks.specs.Extends.{IsExtendedBy}
use Rattle.st_marks.specs.Run.{Run}
use Rattle.st_marks.proofs.OneVerdict.{one_run}
use Rattle.st_normal.specs.Rules.{ObeysChangeRules}
use Rattle.st_read_laws.specs.Reading.{IsStepRead}
use Rattle.st_valid.specs.Author.{author_list}
use Rattle.st_valid.specs.Context.{HasContext, known_revisions}

pub judged : (l : Bool) (O A T : Document) (log : List Entry) (session reference : ℕ) (S : Step) (C : Change) → Run O (author_list log session reference) A → IsExtendedBy A T → IsStepRead l A T S → ObeysChangeRules C
    → HasContext O log session reference C ↔ (IsOverBack S T C × Has (known_revisions (author_list log session reference)) C.under)
judged l O A T log session reference S C r x b w =
    let law = author_over l A T S C x b w in (
      (λ h. (law.0 (subst (λ D. IsOfAnIntent D C) (one_run h.meant.ran r) (h.meant.intent, h.meant.fits, h.meant.embeds)), h.under)),
      (λ h. let n = law.1 h.0 in record { meant = record { document = A; ran = r; intent = n.0; fits = n.1; embeds = n.2 }; under = h.1 }),
    )
