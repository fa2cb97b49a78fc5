-- Entries that are carried out, one after the other.
use Rattle.std.proofs.Common.{◌≡◌, ◌+◌, ℕ, List, ◌∷◌, [], ◌++◌, append-nil, take, drop, Option, Some, None, IfSome, sym, ap, ◌∙◌, subst}
use Rattle.std.specs.List.{cons_option, slice_get}
use Rattle.st_marks.specs.declared.intents.Intent.{Intent}
use Rattle.st_marks.specs.Document.{Document, IsSoundInForm}
use Rattle.st_marks.specs.Intent.{Fits}
use Rattle.st_marks.specs.Run.{Run, done as nothing, next}
use Rattle.st_marks.specs.Verdict.{IsVerdict, carried_document}
use Rattle.st_marks.specs.declared.verdicts.Verdict.{Verdict}
use Rattle.st_marks.proofs.OneVerdict.{carried_extends, run_then}
use Rattle.st_log_laws.specs.Turns.{FitInTurn}
use Rattle.st_lemmas.proofs.Lists.{drop-slice_get}
use Rattle.st_lists.specs.Log.{commit_of, commits_in}
use Rattle.st_lists.specs.declared.lists.Entry.{Entry}
use Rattle.st_lists.proofs.Logs.{commits_append, take-get}
use Rattle.st_plain_log.specs.Receiving.{HasEntered}

-- one more commit is carried out
pub run_more : {O D : Document} {Ns : List Intent} (N : Intent) (E : Document) (v : Verdict) → Run O Ns D → IsVerdict D N v → E ≡ carried_document v D N → Run O (Ns ++ N ∷ []) E
run_more {O} {D} {Ns} N E v r a e = subst (λ F. Run O (Ns ++ N ∷ []) F) (sym e) (run_then r (next v a nothing))

-- the document after a text
pub run_entered : (O D E : Document) (L : List Intent) (o : Option Intent) → Run O L D → HasEntered D o E → Run O (L ++ cons_option o []) E
run_entered O D E L None r e = subst (λ (F : Document). Run O (L ++ []) F) (sym e) (subst (λ l. Run O l D) (sym (append-nil L)) r)
run_entered O D E L (Some N) r e = run_more N E e.0 r e.1 e.2

-- those from a place on
rest_of : (es : List Entry) (i : ℕ) (e : Entry) → slice_get es i ≡ Some e → commits_in (drop i es) ≡ cons_option (commit_of e) (commits_in (drop (i + 1) es))
rest_of es i e at = ap commits_in (drop-slice_get es i e at)

pub entry_fits : (D : Document) (es : List Entry) (i : ℕ) (e : Entry) → slice_get es i ≡ Some e → FitInTurn D (commits_in (drop i es)) → IfSome (commit_of e) (Fits D)
entry_fits D es i e at fit = go (commit_of e) (subst (FitInTurn D) (rest_of es i e at) fit)
  where
    go : (o : Option Intent) → FitInTurn D (cons_option o (commits_in (drop (i + 1) es))) → IfSome o (Fits D)
    go None f = tt
    go (Some N) f = f.0

pub entry_run : (O D E : Document) (es : List Entry) (i : ℕ) (e : Entry) → slice_get es i ≡ Some e → Run O (commits_in (take i es)) D → HasEntered D (commit_of e) E → Run O (commits_in (take (i + 1) es)) E
entry_run O D E es i e at run entered =
    subst (λ l. Run O l E) (sym (ap commits_in (take-get es i e at) ∙ commits_append (take i es) (e ∷ []))) (run_entered O D E (commits_in (take i es)) (commit_of e) run entered)

pub entry_on : (D E : Document) (es : List Entry) (i : ℕ) (e : Entry) → slice_get es i ≡ Some e → IsSoundInForm D → FitInTurn D (commits_in (drop i es)) → HasEntered D (commit_of e) E → IsSoundInForm E × FitInTurn E (commits_in (drop (i + 1) es))
entry_on D E es i e at sound fit entered = go (commit_of e) (subst (FitInTurn D) (rest_of es i e at) fit) entered
  where
    go : (o : Option Intent) → FitInTurn D (cons_option o (commits_in (drop (i + 1) es))) → HasEntered D o E → IsSoundInForm E × FitInTurn E (commits_in (drop (i + 1) es))
    go None f x = (subst IsSoundInForm (sym x) sound, subst (λ F. FitInTurn F (commits_in (drop (i + 1) es))) (sym x) f)
    go (Some N) f x =
        (subst IsSoundInForm (sym x.2) (carried_extends D N x.0 sound f.0 f.1 x.1).after, subst (λ F. FitInTurn F (commits_in (drop (i + 1) es))) (sym x.2) (f.2 x.0 x.1))
