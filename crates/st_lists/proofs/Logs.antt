-- The commits of a log, and those of one session.
use Rattle.std.proofs.Common.{◌≡◌, ◌≤◌, ◌+◌, ◌==◌, ℕ, zero, suc, Bool, true, false, cond, List, [], ◌∷◌, ◌++◌, ◌&&◌, length, length-append, take, drop, filter, Option, Some, None, is_some, refl, sym, ap, ◌∙◌, arith}
use Rattle.std.specs.List.{slice_get, filter_map, cons_option}
use Rattle.std.proofs.lemmas.Bool.Decides.{nat_tests}
use Rattle.std.proofs.lemmas.List.{take-append-le, drop-append-le, take-append-drop}
use Rattle.std.proofs.lemmas.List.Elements.{filter_map-append, filter-append}
use Rattle.st_marks.specs.declared.intents.Intent.{Intent}
use Rattle.st_marks.specs.Extends.{no_more, item_gained, item_kept}
use Rattle.st_log_laws.specs.Turns.{IsSublist}
use Rattle.st_lists.specs.Log.{commit_in, commits_of_text, intents_of, commits_by}
use Rattle.st_lists.specs.Log.{commit_in, commits_of_text, intents_of, commit_of, commits_in, log_with}
use Rattle.st_lists.specs.declared.lists.Body.{Body}
use Rattle.st_lists.specs.declared.lists.Entry.{Entry}

-- ## Lists

pub take-get : {X : Type 0} (xs : List X) (i : ℕ) (x : X) → slice_get xs i ≡ Some x → take (i + 1) xs ≡ take i xs ++ x ∷ []
take-get [] i x e = cc
take-get (y ∷ ys) zero x e = let same : y ≡ x = cc in rw same refl
take-get (y ∷ ys) (suc i) x e =
    let one : suc i + 1 ≡ suc (i + 1) = omega arith in
    rw one (ap (λ l. y ∷ l) (take-get ys i x e))

-- ## Commits

pub commits_append : (xs ys : List Entry) → commits_in (xs ++ ys) ≡ commits_in xs ++ commits_in ys
commits_append xs ys = filter_map-append commit_of xs ys

-- the commits of a log are those of its front, and then those of the rest
pub commits_split : (i : ℕ) (log : List Entry) → commits_in log ≡ commits_in (take i log) ++ commits_in (drop i log)
commits_split i log = ap commits_in (sym (take-append-drop i log)) ∙ commits_append (take i log) (drop i log)

pub by_append : (s : ℕ) (xs ys : List Entry) → commits_by s (xs ++ ys) ≡ commits_by s xs ++ commits_by s ys
by_append s xs ys = ap commits_in (filter-append (λ (e : Entry). e.session == s) xs ys) ∙ commits_append (filter (λ (e : Entry). e.session == s) xs) (filter (λ (e : Entry). e.session == s) ys)

-- those of one session are among all
pub by_sublist : (s : ℕ) (es : List Entry) → IsSublist (commits_by s es) (commits_in es)
by_sublist s [] = no_more
by_sublist s (e ∷ es) = go (e.session == s) (commit_of e) (by_sublist s es)
  where
    go : (b : Bool) (o : Option Intent) → IsSublist (commits_by s es) (commits_in es) → IsSublist (filter_map commit_of (cond b (e ∷ filter (λ (e : Entry). e.session == s) es) (filter (λ (e : Entry). e.session == s) es))) (cons_option (commit_of e) (commits_in es))
    go true o g = here (commit_of e) g
      where
        here : (o : Option Intent) → IsSublist (commits_by s es) (commits_in es) → IsSublist (cons_option o (commits_by s es)) (cons_option o (commits_in es))
        here None g = g
        here (Some N) g = item_kept refl g
    go false o g = here (commit_of e) g
      where
        here : (o : Option Intent) → IsSublist (commits_by s es) (commits_in es) → IsSublist (commits_by s es) (cons_option o (commits_in es))
        here None g = g
        here (Some N) g = item_gained g

-- a commit of the session is the first of its own, one of another isn't among them, and a join is none
pub by_own : (s : ℕ) (e : Entry) (es : List Entry) (N : Intent) → (e.session == s) ≡ true → commit_of e ≡ Some N → commits_by s (e ∷ es) ≡ N ∷ commits_by s es
by_own s e es N own is = rw (own, is) refl

pub by_other : (s : ℕ) (e : Entry) (es : List Entry) → (e.session == s) ≡ false → commits_by s (e ∷ es) ≡ commits_by s es
by_other s e es other = rw other refl

pub by_none : (s : ℕ) (e : Entry) (es : List Entry) → commit_of e ≡ None → commits_by s (e ∷ es) ≡ commits_by s es
by_none s e es is = go (e.session == s)
  where
    go : (b : Bool) → filter_map commit_of (cond b (e ∷ filter (λ (e : Entry). e.session == s) es) (filter (λ (e : Entry). e.session == s) es)) ≡ commits_by s es
    go true = rw is refl
    go false = refl

pub one_commit : (e : Entry) (N : Intent) → commit_of e ≡ Some N → commits_in (e ∷ []) ≡ N ∷ []
one_commit e N is = rw is refl

pub no_commit : (e : Entry) → commit_of e ≡ None → commits_in (e ∷ []) ≡ []
no_commit e is = rw is refl

-- ## A log with one more entry

abbrev pub last_entry : List Entry → ℕ → Body → Entry
last_entry log session body = record { n = length log + 1; session = session; body = body }

pub entered_commits : (log : List Entry) (session : ℕ) (body : Body) → commits_in (log_with log session body) ≡ commits_in log ++ commits_of_text body
entered_commits log session body = commits_append log (last_entry log session body ∷ [])

pub entered_front : (log : List Entry) (session : ℕ) (body : Body) (i : ℕ) → i ≤ length log → take i (log_with log session body) ≡ take i log
entered_front log session body i within = take-append-le i log (last_entry log session body ∷ []) within

pub entered_rest : (log : List Entry) (session : ℕ) (body : Body) (s i : ℕ) → i ≤ length log → commits_by s (drop i (log_with log session body)) ≡ commits_by s (drop i log) ++ commits_by s (last_entry log session body ∷ [])
entered_rest log session body s i within =
    ap (commits_by s) (drop-append-le i log (last_entry log session body ∷ []) within) ∙ by_append s (drop i log) (last_entry log session body ∷ [])

-- ## Texts

pub text_first : (text : Body) (rest : List Body) → intents_of (text ∷ rest) ≡ commits_of_text text ++ intents_of rest
text_first text rest = go (commit_in text)
  where
    go : (o : Option Intent) → cons_option o (intents_of rest) ≡ cons_option o [] ++ intents_of rest
    go None = refl
    go (Some N) = refl

pub texts_append : (xs ys : List Body) → intents_of (xs ++ ys) ≡ intents_of xs ++ intents_of ys
texts_append xs ys = filter_map-append commit_in xs ys

-- a text of the session is its own last one
pub by_own_text : (log : List Entry) (s : ℕ) (text : Body) → commits_by s (last_entry log s text ∷ []) ≡ commits_of_text text
by_own_text log s text = rw (itself s) refl
  where
    itself : (n : ℕ) → (n == n) ≡ true
    itself n = grind (arith, nat_tests)

-- one entry more is an own commit, or none
pub own_counted : (s : ℕ) (es : List Entry) (i : ℕ) (e : Entry) (b : Bool) → slice_get es i ≡ Some e → b ≡ (is_some (commit_of e) && (e.session == s)) → length (commits_by s (take (i + 1) es)) ≡ cond b 1 0 + length (commits_by s (take i es))
own_counted s es i e b at is =
    ap (λ l. length (commits_by s l)) (take-get es i e at) ∙ ap length (by_append s (take i es) (e ∷ [])) ∙ length-append (commits_by s (take i es)) (commits_by s (e ∷ [])) ∙ ap (λ n. length (commits_by s (take i es)) + n) (one (e.session == s) (commit_of e) refl) ∙ omega arith ∙ ap (λ x. cond x 1 0 + length (commits_by s (take i es))) (sym is)
  where
    one : (x : Bool) (o : Option Intent) → commit_of e ≡ o → length (filter_map commit_of (cond x (e ∷ []) [])) ≡ cond (is_some o && x) 1 0
    one false None q = refl
    one false (Some N) q = refl
    one true None q = ap (λ o. length (cons_option o [])) q
    one true (Some N) q = ap (λ o. length (cons_option o [])) q
