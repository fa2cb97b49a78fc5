-- Entries whose commits are carried out one after the other: those of all entries, or of the entries of one session.
use Rattle.std.proofs.Common.{◌≡◌, ◌+◌, ℕ, List, [], ◌∷◌, ◌++◌, take, drop, Some, ◌⊎◌, inl, inr, sym, ap, ◌∙◌, subst}
use Rattle.std.specs.List.{cons_option, slice_get}
use Rattle.st_lemmas.proofs.Lists.{drop-slice_get}
use Rattle.st_marks.specs.declared.intents.Intent.{Intent}
use Rattle.st_marks.specs.declared.verdicts.Verdict.{Verdict}
use Rattle.st_marks.specs.Document.{Document}
use Rattle.st_marks.specs.Run.{Run, done, next}
use Rattle.st_marks.specs.Verdict.{IsVerdict, carried_document}
use Rattle.st_marks.proofs.OneVerdict.{run_then}
use Rattle.st_log_laws.specs.Turns.{FitInTurn}
use Rattle.st_log_laws.proofs.Turns.{front, rest}
use Rattle.st_lists.specs.Log.{commit_in}
use Rattle.st_lists.specs.declared.lists.Body.{Body}
use Rattle.st_lists.specs.declared.lists.Body.TheVariants.{Join, Leave, Ack}
use Rattle.st_lists.specs.declared.lists.Entry.{Entry}
use Rattle.st_lists.proofs.Logs.{take-get}

-- one intent that was carried out is a run
pub run_one : (D E : Document) (N : Intent) (v : Verdict) → IsVerdict D N v → E ≡ carried_document v D N → Run D (N ∷ []) E
run_one D E N v a e = next v a (subst (λ F. Run (carried_document v D N) [] F) (sym e) done)

-- what says no commit changes nothing
pub nothing_carried : (D : Document) (b : Body) → ((u : ℕ) × (b ≡ Join u)) ⊎ ((b ≡ Leave) ⊎ ((r : ℕ) × (b ≡ Ack r))) → Run D (cons_option (commit_in b) []) D
nothing_carried D b (inl h) = subst (λ o. Run D (cons_option o []) D) (sym (ap commit_in h.1)) done
nothing_carried D b (inr (inl e)) = subst (λ o. Run D (cons_option o []) D) (sym (ap commit_in e)) done
nothing_carried D b (inr (inr h)) = subst (λ o. Run D (cons_option o []) D) (sym (ap commit_in h.1)) done

module _ (of : List Entry → List Intent) (append : (xs ys : List Entry) → of (xs ++ ys) ≡ of xs ++ of ys) (es : List Entry) (i : ℕ) (e : Entry) (at : slice_get es i ≡ Some e) where
  -- what is left begins with the next entry
  begins : of (drop i es) ≡ of (e ∷ []) ++ of (drop (i + 1) es)
  begins = ap of (drop-slice_get es i e at) ∙ append (e ∷ []) (drop (i + 1) es)

  pub next_fits : (D : Document) → FitInTurn D (of (drop i es)) → FitInTurn D (of (e ∷ []))
  next_fits D fit = front (of (e ∷ [])) (of (drop (i + 1) es)) D (subst (FitInTurn D) begins fit)

  pub rest_fits : (D E : Document) → FitInTurn D (of (drop i es)) → Run D (of (e ∷ [])) E → FitInTurn E (of (drop (i + 1) es))
  rest_fits D E fit run = rest (of (drop (i + 1) es)) run (subst (FitInTurn D) begins fit)

  pub run_on : (O D E : Document) → Run O (of (take i es)) D → Run D (of (e ∷ [])) E → Run O (of (take (i + 1) es)) E
  run_on O D E before one = subst (λ Ns. Run O Ns E) (sym (ap of (take-get es i e at) ∙ append (take i es) (e ∷ []))) (run_then before one)
