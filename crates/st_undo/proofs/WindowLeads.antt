-- The steps of the commits that a window keeps above a number lead from the document of the commits up to it to that of all.
use Rattle.std.proofs.Common.{◌≡◌, ◌≤◌, ◌<◌, ◌+◌, ◌-◌, ℕ, zero, suc, Bool, List, [], ◌∷◌, ◌++◌, length, get_or, take, drop, Option, Some, None, refl, sym, ap, ◌∙◌, subst, arith, inl, inr, ◌⊎◌}
use Rattle.std.specs.List.{cons_option, slice_get}
use Rattle.std.proofs.lemmas.List.{append-nil, take_all}
use Rattle.std.proofs.lemmas.Option.{slice_get_cases}
use Rattle.st_lemmas.proofs.Lists.{drop-slice_get}
use Rattle.st_ids.specs.Listing.{Has}
use Rattle.st_lists.specs.declared.lists.Entry.{Entry}
use Rattle.st_lists.specs.Log.{commit_in, commit_of, commits_in}
use Rattle.st_lists.proofs.Logs.{commits_append, commits_split, no_commit, one_commit, take-get}
use Rattle.st_log_laws.specs.Turns.{FitInTurn}
use Rattle.st_log_laws.proofs.Turns.{front as fits_front, rest as fits_rest, turn_extends}
use Rattle.st_marks.specs.declared.intents.Intent.{Intent}
use Rattle.st_marks.specs.Document.{Document, IsSoundInForm}
use Rattle.st_marks.specs.Extends.{IsExtendedBy}
use Rattle.st_marks.specs.Run.{Run, done, next}
use Rattle.st_marks.specs.Verdict.{carried_document}
use Rattle.st_marks.proofs.OneVerdict.{carried_extends, one_run, run_then}
use Rattle.st_window.specs.declared.kept.Kept.{Kept}
use Rattle.st_window.specs.Window.{RiseFrom}
use Rattle.st_window_laws.specs.Windows.{IsKept, IsWindowOf}
use Rattle.st_undo.specs.inside.Carrying.{LeadInTurn, none_leads, one_leads}

-- ## Commits of a log

-- the commits around that of an entry
pub commits_at : (es : List Entry) (i : ℕ) (e : Entry) (N : Intent) → slice_get es i ≡ Some e → commit_of e ≡ Some N → commits_in es ≡ commits_in (take i es) ++ N ∷ commits_in (drop (i + 1) es)
commits_at es i e N at is =
    commits_split i es ∙ ap (λ l. commits_in (take i es) ++ commits_in l) (drop-slice_get es i e at) ∙ ap (λ o. commits_in (take i es) ++ cons_option o (commits_in (drop (i + 1) es))) is

-- those up to it
pub commits_to : (es : List Entry) (i : ℕ) (e : Entry) (N : Intent) → slice_get es i ≡ Some e → commit_of e ≡ Some N → commits_in (take (i + 1) es) ≡ commits_in (take i es) ++ N ∷ []
commits_to es i e N at is = ap commits_in (take-get es i e at) ∙ commits_append (take i es) (e ∷ []) ∙ ap (λ Ns. commits_in (take i es) ++ Ns) (one_commit e N is)

-- no commit stands in an entry between two numbers
abbrev pub NoneBetween : List Entry → ℕ → ℕ → Type 0
NoneBetween es n m = (i : ℕ) (e : Entry) (N : Intent) → slice_get es i ≡ Some e → commit_of e ≡ Some N → n < i + 1 → i + 1 ≤ m → ⊥

one_entry : (es : List Entry) (m : ℕ) → ((e : Entry) (N : Intent) → slice_get es m ≡ Some e → commit_of e ≡ Some N → ⊥) → commits_in (take (m + 1) es) ≡ commits_in (take m es)
one_entry es m none = go (slice_get_cases es m).1
  where
    go : ((e : Entry) × (m < length es) × (slice_get es m ≡ Some e) × (get_or es m e ≡ e)) ⊎ ((length es ≤ m) × (slice_get es m ≡ None)) → commits_in (take (m + 1) es) ≡ commits_in (take m es)
    go (inl (e, within, at, _)) = look (commit_of e) refl
      where
        look : (o : Option Intent) → commit_of e ≡ o → commits_in (take (m + 1) es) ≡ commits_in (take m es)
        look None is = ap commits_in (take-get es m e at) ∙ commits_append (take m es) (e ∷ []) ∙ ap (λ Ns. commits_in (take m es) ++ Ns) (no_commit e is) ∙ append-nil (commits_in (take m es))
        look (Some N) is = absurd (none e N at is)
    go (inr (past, _)) = ap commits_in (take_all (m + 1) es (omega (arith, past)) ∙ sym (take_all m es past))

pub same_commits : (es : List Entry) (n d : ℕ) → NoneBetween es n (n + d) → commits_in (take (n + d) es) ≡ commits_in (take n es)
same_commits es n zero none = ap (λ k. commits_in (take k es)) (omega arith)
same_commits es n (suc d) none =
    ap (λ k. commits_in (take k es)) (let e : n + suc d ≡ n + d + 1 = omega arith in e)
    ∙ one_entry es (n + d) (λ e N at is. none (n + d) e N at is (omega arith) (omega arith))
    ∙ same_commits es n d (λ i e N at is up low. none i e N at is up (omega (arith, low)))

-- the first number is the least
pub least_first : (n : ℕ) (ks : List Kept) (k : Kept) → RiseFrom n ks → Has ks k → n < k.n
least_first n [] k rise h = absurd h
least_first n (x ∷ xs) k rise (inl e) = subst (λ (y : Kept). n < y.n) e rise.0
least_first n (x ∷ xs) k rise (inr h) = let a = rise.0 in let b : x.n < k.n = least_first x.n xs k rise.1 h in omega (arith, a, b)

-- ## From one commit to the next

module _ (l : Bool) (O : Document) (log : List Entry) (sound : IsSoundInForm O) (fit : FitInTurn O (commits_in log)) where
  -- one that is kept leads from the document of those before it to that of those up to it
  pub record LeadsOn (k : Kept) (w : IsKept l O log k) : Type 0 where
    pub extends : IsExtendedBy w.before (carried_document k.verdict w.before w.intent)
    pub to_after : Run O (commits_in (take (k.n - 1 + 1) log)) (carried_document k.verdict w.before w.intent)

  pub leads_on : (k : Kept) (w : IsKept l O log k) → LeadsOn k w
  leads_on k w = record {
    extends = carried_extends w.before w.intent k.verdict formed fits.0 fits.1 w.verdict;
    to_after = subst (λ Ns. Run O Ns (carried_document k.verdict w.before w.intent)) (sym (commits_to log (k.n - 1) w.entry w.intent w.there is)) (run_then w.to_before (next k.verdict w.verdict done));
  }
    where
      is : commit_of w.entry ≡ Some w.intent
      is = ap commit_in w.commit

      whole : FitInTurn O (commits_in (take (k.n - 1) log) ++ w.intent ∷ commits_in (drop (k.n - 1 + 1) log))
      whole = subst (FitInTurn O) (commits_at log (k.n - 1) w.entry w.intent w.there is) fit

      formed : IsSoundInForm w.before
      formed = (turn_extends sound (fits_front (commits_in (take (k.n - 1) log)) (w.intent ∷ commits_in (drop (k.n - 1 + 1) log)) O whole) w.to_before).after

      fits : FitInTurn w.before (w.intent ∷ commits_in (drop (k.n - 1 + 1) log))
      fits = fits_rest (w.intent ∷ commits_in (drop (k.n - 1 + 1) log)) w.to_before whole

  -- ## All that are kept

  -- behind the last one no commit is left
  at_end : (n : ℕ) (D T : Document) → IsWindowOf l O log (record { floor = n; kept = [] }) → Run O (commits_in (take n log)) D → Run O (commits_in log) T → D ≡ T
  at_end n D T h r t = one_run (subst (λ Ns. Run O Ns D) (sym same ∙ ap commits_in (take_all (n + length log) log (omega arith))) r) t
    where
      same : commits_in (take (n + length log) log) ≡ commits_in (take n log)
      same = same_commits log n (length log) (λ i e N at is up low. (h.all i e N at is up).1)

  -- the window from the first one on
  behind : (n : ℕ) (x : Kept) (xs : List Kept) → IsWindowOf l O log (record { floor = n; kept = x ∷ xs }) → IsWindowOf l O log (record { floor = x.n; kept = xs })
  behind n x xs h = record { rise = h.rise.1; each = λ k i. h.each k (inr i); all = all }
    where
      all : (i : ℕ) (e : Entry) (N : Intent) → slice_get log i ≡ Some e → commit_of e ≡ Some N → x.n < i + 1 → (k : Kept) × Has xs k × (k.n ≡ i + 1)
      all i e N at is up = go (h.all i e N at is (let first = h.rise.0 in omega (arith, first, up)))
        where
          go : (k : Kept) × Has (x ∷ xs) k × (k.n ≡ i + 1) → (k : Kept) × Has xs k × (k.n ≡ i + 1)
          go (k, inl q, number) = let same : x.n ≡ k.n = ap (λ (y : Kept). y.n) q in absurd (omega (arith, same, number, up))
          go (k, inr i, number) = (k, i, number)

  -- no commit stands before the first one
  before_first : (n : ℕ) (x : Kept) (xs : List Kept) → IsWindowOf l O log (record { floor = n; kept = x ∷ xs }) → commits_in (take (x.n - 1) log) ≡ commits_in (take n log)
  before_first n x xs h = ap (λ k. commits_in (take k log)) place ∙ same_commits log n (x.n - 1 - n) none
    where
      up : n < x.n
      up = h.rise.0

      place : x.n - 1 ≡ n + (x.n - 1 - n)
      place = omega (arith, up)

      none : NoneBetween log n (n + (x.n - 1 - n))
      none i e N at is above below = go (h.all i e N at is above)
        where
          go : (k : Kept) × Has (x ∷ xs) k × (k.n ≡ i + 1) → ⊥
          go (k, inl q, number) = let same : x.n ≡ k.n = ap (λ (y : Kept). y.n) q in omega (arith, same, number, below, up)
          go (k, inr i, number) = let later : x.n < k.n = least_first x.n xs k h.rise.1 i in omega (arith, later, number, below, up)

  pub leads : (ks : List Kept) (n : ℕ) (D T : Document) → IsWindowOf l O log (record { floor = n; kept = ks }) → Run O (commits_in (take n log)) D → Run O (commits_in log) T → LeadInTurn l D ks T
  leads [] n D T h r t = subst (λ X. LeadInTurn l D [] X) (at_end n D T h r t) none_leads
  leads (x ∷ xs) n D T h r t = step (h.each x (inl refl)) (λ E q. leads xs x.n E T (behind n x xs h) q t)
    where
      step : IsKept l O log x → ((E : Document) → Run O (commits_in (take x.n log)) E → LeadInTurn l E xs T) → LeadInTurn l D (x ∷ xs) T
      step w on = subst (λ X. LeadInTurn l X (x ∷ xs) T) (sym same) (one_leads (carried_document x.verdict w.before w.intent) o.extends w.step (on (carried_document x.verdict w.before w.intent) after))
        where
          o : LeadsOn x w
          o = leads_on x w

          same : D ≡ w.before
          same = one_run (subst (λ Ns. Run O Ns D) (sym (before_first n x xs h)) r) w.to_before

          after : Run O (commits_in (take x.n log)) (carried_document x.verdict w.before w.intent)
          after = subst (λ k. Run O (commits_in (take k log)) (carried_document x.verdict w.before w.intent)) (let up : n < x.n = h.rise.0 in omega (arith, up)) o.to_after
