-- Changes stay known as entries come.
use Rattle.std.proofs.Common.{◌≡◌, ◌≤◌, ℕ, zero, suc, List, [], ◌∷◌, ◌++◌, length, take, drop, Some, refl, sym, ap, ◌∙◌, subst, arith, append_assoc, ◌⊎◌, inl, inr}
use Rattle.std.specs.List.{slice_get}
use Rattle.std.proofs.lemmas.List.{append-nil, drop-append-le, take-append-le, take_all}
use Rattle.std.proofs.lemmas.Option.{slice_get_within}
use Rattle.st_ids.specs.declared.names.Rev.{Rev}
use Rattle.st_lists.specs.Log.{commits_by, commits_in, commits_of_text, intents_of, log_with}
use Rattle.st_lists.specs.declared.lists.Body.{Body}
use Rattle.st_lists.specs.declared.lists.Body.TheVariants.{Join, Leave, Ack, Commit}
use Rattle.st_lists.specs.declared.lists.Entry.{Entry}
use Rattle.st_lists.proofs.Logs.{by_append, by_own_text, last_entry, text_first}
use Rattle.st_marks.specs.Document.{Document}
use Rattle.st_marks.specs.declared.changes.Change.{Change}
use Rattle.st_marks.specs.declared.intents.Intent.{Intent}
use Rattle.st_valid.specs.Author.{author_list}
use Rattle.st_known_changes.specs.Known.{AreKnownTexts, IsChangeOver, IsKnownIn, IsKnownText}

-- an author's list of a longer log has the commits of the session among the entries that came
author_more : (log es : List Entry) (s r : ℕ) → r ≤ length log → author_list (log ++ es) s r ≡ author_list log s r ++ commits_by s es
author_more log es s r within =
    ap (λ l. commits_in l ++ commits_by s (drop r (log ++ es))) (take-append-le r log es within) ∙ ap (λ l. commits_in (take r log) ++ commits_by s l) (drop-append-le r log es within)
    ∙ ap (λ l. commits_in (take r log) ++ l) (by_append s (drop r log) es) ∙ sym (append_assoc (commits_in (take r log)) (commits_by s (drop r log)) (commits_by s es))

-- an item of a list with one more at its end is one of the list, or that one
get_more : {X : Type 0} (xs : List X) (x : X) (i : ℕ) (y : X) → slice_get (xs ++ x ∷ []) i ≡ Some y → (slice_get xs i ≡ Some y) ⊎ ((i ≡ length xs) × (x ≡ y))
get_more [] x zero y e = let same : x ≡ y = cc in inr (refl, same)
get_more [] x (suc i) y e = cc
get_more (z ∷ zs) x zero y e = inl e
get_more (z ∷ zs) x (suc i) y e = elim (get_more zs x i y e) [ inl q ↦ inl q | inr q ↦ inr (ap (λ n. suc n) q.0, q.1) ]

module _ (O : Document) (r : Rev) (n : ℕ) (C : Change) where
  -- it is known of a text still, where those of its session among the entries were among the commits before it
  text_on : (log es : List Entry) (s : ℕ) (before : List Intent) (text : Body) → n ≤ length log → IsKnownText O log s (commits_by s es ++ before) r n C text → IsKnownText O (log ++ es) s before r n C text
  text_on log es s before (Join uuid) within x = tt
  text_on log es s before Leave within x = tt
  text_on log es s before (Ack reference) within x = tt
  text_on log es s before (Commit reference ids N) within x = λ is at.
      subst (λ l. IsChangeOver O l N C)
      (sym (append_assoc (author_list log s reference) (commits_by s es) before) ∙ ap (λ l. l ++ before) (sym (author_more log es s reference (omega (arith, within, at)))))
      (x is at)

  pub texts_on : (log es : List Entry) (s : ℕ) (before : List Intent) (texts : List Body) → n ≤ length log → AreKnownTexts O log s (commits_by s es ++ before) r n C texts → AreKnownTexts O (log ++ es) s before r n C texts
  texts_on log es s before [] within x = tt
  texts_on log es s before (text ∷ texts) within x =
      (text_on log es s before text within x.0, texts_on log es s (before ++ commits_of_text text) texts within (subst (λ l. AreKnownTexts O log s l r n C texts) (append_assoc (commits_by s es) before (commits_of_text text)) x.1))

  -- of all that wait it is known still where entries have no commit of their session
  pub texts_beside : (log es : List Entry) (s : ℕ) (texts : List Body) → n ≤ length log → commits_by s es ≡ [] → AreKnownTexts O log s [] r n C texts → AreKnownTexts O (log ++ es) s [] r n C texts
  texts_beside log es s texts within none x = texts_on log es s [] texts within (subst (λ l. AreKnownTexts O log s l r n C texts) (sym (append-nil (commits_by s es) ∙ none)) x)

  -- of the others it is where the first of them enters the log
  pub rest_known : (log : List Entry) (s : ℕ) (text : Body) (rest : List Body) → n ≤ length log → AreKnownTexts O log s [] r n C (text ∷ rest) → AreKnownTexts O (log_with log s text) s [] r n C rest
  rest_known log s text rest within x =
      texts_on log (last_entry log s text ∷ []) s [] rest within (subst (λ l. AreKnownTexts O log s l r n C rest) (sym (append-nil (commits_by s (last_entry log s text ∷ [])) ∙ by_own_text log s text)) x.1)

  -- it is of a log with one more entry, of which it is known
  pub log_known : (log : List Entry) (s : ℕ) (body : Body) → IsKnownIn O log r n C → IsKnownText O log s [] r n C body → IsKnownIn O (log_with log s body) r n C
  log_known log s body all last i e at = elim (get_more log x i e at) [ inl q ↦ before q | inr q ↦ here q.0 q.1 ]
    where
      x : Entry
      x = last_entry log s body

      before : slice_get log i ≡ Some e → IsKnownText O (take i (log ++ x ∷ [])) e.session [] r n C e.body
      before q = subst (λ l. IsKnownText O l e.session [] r n C e.body) (sym (take-append-le i log (x ∷ []) (omega (arith, slice_get_within log i e q)))) (all i e q)

      here : i ≡ length log → x ≡ e → IsKnownText O (take i (log ++ x ∷ [])) e.session [] r n C e.body
      here size same =
          let whole : take i (log ++ x ∷ []) ≡ log = take-append-le i log (x ∷ []) (omega (arith, size)) ∙ take_all i log (omega (arith, size)) in
          subst (λ (y : Entry). IsKnownText O (take i (log ++ x ∷ [])) y.session [] r n C y.body) same (subst (λ l. IsKnownText O l s [] r n C body) (sym whole) last)

  -- one more waits behind them
  pub text_more : (log : List Entry) (s : ℕ) (before : List Intent) (texts : List Body) (text : Body) → AreKnownTexts O log s before r n C texts → IsKnownText O log s (before ++ intents_of texts) r n C text → AreKnownTexts O log s before r n C (texts ++ text ∷ [])
  text_more log s before [] text x y = (subst (λ l. IsKnownText O log s l r n C text) (append-nil before) y, tt)
  text_more log s before (q ∷ qs) text x y =
      (x.0, text_more log s (before ++ commits_of_text q) qs text x.1 (subst (λ l. IsKnownText O log s l r n C text) (ap (λ l. before ++ l) (text_first q qs) ∙ sym (append_assoc before (commits_of_text q) (intents_of qs))) y))
