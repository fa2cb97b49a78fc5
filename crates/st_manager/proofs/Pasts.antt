-- What a manager tells of commits.
use Rattle.std.proofs.Common.{◌≡◌, ◌||◌, ◌++◌, Bool, true, false, List, [], ◌∷◌, refl, sym, ap, ◌∙◌, subst}
use Rattle.std.specs.List.{list_any}
use Rattle.st_ids.specs.Order.{same_rev}
use Rattle.st_ids.specs.declared.names.Rev.{Rev}
use Rattle.st_history.specs.Past.{ArePending, Past, has_commit}
use Rattle.st_ledger.specs.Stands.{StandsFor as IsLedgerOf}
use Rattle.st_lists.specs.Log.{commits_in}
use Rattle.st_lists.specs.declared.lists.Entry.{Entry}
use Rattle.st_marks.specs.declared.changes.Change.{Change}
use Rattle.st_marks.specs.declared.intents.Intent.{Intent}
use Rattle.st_marks.specs.Document.{Document}
use Rattle.st_rebaser.specs.InTurn.{ShowInTurn, none_shown, one_shown}
use Rattle.st_window_laws.specs.Windows.{IsWindowOf}
use Rattle.st_manager.specs.Stands.{Stands}
use Rattle.st_manager.specs.Told.{Told, past}
use Rattle.st_manager.specs.declared.manager.Manager.{Manager}

abbrev pub of_intent : Rev → Intent → Bool
of_intent rev N = same_rev N.rev rev

abbrev pub of_change : Rev → Change → Bool
of_change rev C = same_rev C.rev rev

-- changes have the revisions of their intents
same_revisions : {l : Bool} {D F : Document} {Ns : List Intent} {Cs : List Change} (rev : Rev) → ShowInTurn l D Ns Cs F → list_any (of_change rev) Cs ≡ list_any (of_intent rev) Ns
same_revisions rev none_shown = refl
same_revisions rev (one_shown {N} {Ns} {C} {Cs} v is c rest) =
    let same : C.rev ≡ N.rev = ap (λ (X : Change). X.rev) c.2 ∙ c.1.rev in
    let here : same_rev C.rev rev ≡ same_rev N.rev rev = ap (λ r. same_rev r rev) same in
    let more : list_any (of_change rev) Cs ≡ list_any (of_intent rev) Ns = same_revisions rev rest in
    ap (λ b. b || list_any (of_change rev) Cs) here ∙ ap (λ b. same_rev N.rev rev || b) more

any_append : (rev : Rev) (Ns Ms : List Intent) → list_any (of_intent rev) (Ns ++ Ms) ≡ (list_any (of_intent rev) Ns || list_any (of_intent rev) Ms)
any_append rev [] Ms = refl
any_append rev (N ∷ Ns) Ms = go (of_intent rev N) (any_append rev Ns Ms)
  where
    go : (b : Bool) → list_any (of_intent rev) (Ns ++ Ms) ≡ (list_any (of_intent rev) Ns || list_any (of_intent rev) Ms) → (b || list_any (of_intent rev) (Ns ++ Ms)) ≡ ((b || list_any (of_intent rev) Ns) || list_any (of_intent rev) Ms)
    go true e = refl
    go false e = e

pub has_told : {R : Type 0} (l : Bool) (t : Told) (p : Past) (M : Manager R) (rev : Rev) → Stands l t M → past t ≡ p → (b c : Bool) → ((log : List Entry) → IsLedgerOf M.ledger log → b ≡ list_any (of_intent rev) (commits_in log))
    → c ≡ list_any (of_change rev) M.pending.changes → (b || c) ≡ has_commit p rev
has_told l t p M rev s e b c received local =
    ap (λ x. x || c) (received t.log s.ledger) ∙ ap (λ x. list_any (of_intent rev) (commits_in t.log) || x) (local ∙ same_revisions rev s.head.pending.shown) ∙ sym (any_append rev (commits_in t.log) t.pending) ∙ ap (λ q. has_commit q rev) e

pub kept_told : {R : Type 0} (l : Bool) (t : Told) (p : Past) (M : Manager R) → Stands l t M → past t ≡ p → IsWindowOf l p.opening p.log M.window
kept_told l t p M s e = subst (λ (q : Past). IsWindowOf l q.opening q.log M.window) e s.window

pub pending_told : {R : Type 0} (l : Bool) (t : Told) (p : Past) (M : Manager R) → Stands l t M → past t ≡ p → ArePending l p M.pending.changes
pending_told l t p M s e = subst (λ (q : Past). ArePending l q M.pending.changes) e (s.head.document, s.head.local, s.head.to_document, s.head.pending.shown)
