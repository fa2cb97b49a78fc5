-- Plain replays, one after the other.
use Rattle.std.proofs.Common.{◌≡◌, ℕ, ◌+◌, List, [], ◌∷◌, ◌++◌, take, drop, Some, ◌⊎◌, inl, inr, sym, ap, ◌∙◌, subst}
use Rattle.std.specs.List.{cons_option, slice_get}
use Rattle.std.proofs.lemmas.List.{take-append-drop}
use Rattle.st_doc.specs.Doc.{document_of}
use Rattle.st_doc.specs.declared.doc.Doc.{Doc}
use Rattle.st_lists.specs.Log.{commit_in, commits_by, commits_in}
use Rattle.st_lists.specs.declared.lists.Body.{Body}
use Rattle.st_lists.specs.declared.lists.Body.TheVariants.{Join, Leave, Ack}
use Rattle.st_lists.specs.declared.lists.Entry.{Entry}
use Rattle.st_lists.proofs.Logs.{take-get}
use Rattle.st_log_laws.proofs.Turns.{then_one}
use Rattle.st_marks.specs.CarryOut.{full}
use Rattle.st_marks.specs.Document.{Document, HasShortRows, IsSoundInForm}
use Rattle.st_marks.specs.Intent.{Fits}
use Rattle.st_marks.specs.Run.{done}
use Rattle.st_marks.specs.Verdict.{IsVerdict, carried_document}
use Rattle.st_marks.specs.declared.intents.Intent.{Intent}
use Rattle.st_marks.specs.declared.verdicts.Verdict.{Verdict}
use Rattle.st_marks.proofs.OneVerdict.{run_then}
use Rattle.st_author_docs.proofs.Along.{run_one}
use Rattle.st_author_docs.proofs.Authors.{stays_longer}
use Rattle.st_author_docs.specs.Authors.{IsAuthorOf, LeadsTo}
use Rattle.st_author_docs.specs.declared.author_doc.AuthorDoc.{AuthorDoc}
use Rattle.st_author_tests.specs.Replays.{HasReplayed, IsReplay, IsReplayOf}

pub nothing : (d : Doc) → IsSoundInForm (document_of d) → HasReplayed d [] d
nothing d sound = record { fit = tt; leads = record { ran = done; sound = sound } }

pub nothing_said : (d : Doc) (b : Body) → ((u : ℕ) × (b ≡ Join u)) ⊎ ((b ≡ Leave) ⊎ ((r : ℕ) × (b ≡ Ack r))) → IsSoundInForm (document_of d) → HasReplayed d (cons_option (commit_in b) []) d
nothing_said d b (inl h) sound = subst (λ o. HasReplayed d (cons_option o []) d) (sym (ap commit_in h.1)) (nothing d sound)
nothing_said d b (inr (inl e)) sound = subst (λ o. HasReplayed d (cons_option o []) d) (sym (ap commit_in e)) (nothing d sound)
nothing_said d b (inr (inr h)) sound = subst (λ o. HasReplayed d (cons_option o []) d) (sym (ap commit_in h.1)) (nothing d sound)

pub one : (d e : Doc) (N : Intent) (v : Verdict) → Fits (document_of d) N → HasShortRows (full (document_of d) N) → IsVerdict (document_of d) N v
    → document_of e ≡ carried_document v (document_of d) N → IsSoundInForm (document_of e) → HasReplayed d (N ∷ []) e
one d e N v fits short is after sound = record {
  fit = (fits, short, λ w a. tt);
  leads = record { ran = run_one (document_of d) (document_of e) N v is after; sound = sound };
}

pub replay_on : (O : Document) (Ns Ms : List Intent) (d e : Doc) → IsReplay O Ns d → IsReplay (document_of d) Ms e → IsReplay O (Ns ++ Ms) e
replay_on O Ns Ms d e x y = record {
  fit = then_one Ns Ms x.fit x.leads.ran y.fit;
  leads = record { ran = run_then x.leads.ran y.leads.ran; sound = y.leads.sound };
}

module _ (of : List Entry → List Intent) (append : (xs ys : List Entry) → of (xs ++ ys) ≡ of xs ++ of ys) where
  pub entry_on : (a d e : Doc) (es : List Entry) (i : ℕ) (x : Entry) → slice_get es i ≡ Some x → HasReplayed a (of (take i es)) d → HasReplayed d (of (x ∷ [])) e → HasReplayed a (of (take (i + 1) es)) e
  entry_on a d e es i x at before next =
      subst (λ Ns. HasReplayed a Ns e) (sym (ap of (take-get es i x at) ∙ append (take i es) (x ∷ [])))
      (replay_on (document_of a) (of (take i es)) (of (x ∷ [])) d e before next)

-- the whole list, from a copy of the opening
pub replayed : (opening a d e : Doc) (log : List Entry) (s r : ℕ) → document_of a ≡ document_of opening → HasReplayed a (commits_in (take r log)) d → HasReplayed d (commits_by s (drop r log)) e → IsReplayOf (document_of opening) log s r e
replayed opening a d e log s r copied x y =
    subst (λ O. IsReplayOf O log s r e) copied (replay_on (document_of a) (commits_in (take r log)) (commits_by s (drop r log)) d e x y)

-- at the beginning
pub at_opening : (opening a : Doc) → document_of a ≡ document_of opening → IsSoundInForm (document_of opening) → LeadsTo (document_of opening) [] a
at_opening opening a copied sound = subst (λ O. LeadsTo O [] a) copied (record { ran = done; sound = subst IsSoundInForm (sym copied) sound })

-- what is kept by the first entries is so by all
pub behind : (O : Document) (log : List Entry) (s k : ℕ) (a : AuthorDoc) → IsAuthorOf O (take k log) s a → IsAuthorOf O log s a
behind O log s k a x = subst (λ es. IsAuthorOf O es s a) (take-append-drop k log) (stays_longer O (take k log) (drop k log) s a x)
