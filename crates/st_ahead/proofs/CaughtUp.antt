-- A lag that goes up to the end of the log, and one whose session has received more.
use Rattle.std.proofs.Common.{◌≡◌, ◌≤◌, ◌<◌, ◌+◌, ◌-◌, ℕ, Bool, max, List, [], ◌∷◌, ◌++◌, length, map, take, drop, Some, refl, sym, ap, ◌∙◌, subst, arith, inl, inr}
use Rattle.std.proofs.lemmas.List.{drop_all}
use Rattle.std.proofs.lemmas.Option.{slice_get_within}
use Rattle.st_ids.specs.Listing.{Has}
use Rattle.st_lists.specs.declared.lists.Entry.{Entry}
use Rattle.st_lists.specs.Log.{commit_in, commit_of, commits_by, commits_in}
use Rattle.st_lists.proofs.Logs.{commits_append, commits_split, one_commit, take-get}
use Rattle.st_lemmas.proofs.Lists.{drop-slice_get}
use Rattle.st_log_laws.specs.Turns.{FitInTurn}
use Rattle.st_log_laws.proofs.Turns.{front as fits_front, rest as fits_rest, turn_extends}
use Rattle.st_marks.specs.Document.{Document, IsSoundInForm}
use Rattle.st_marks.specs.Run.{Run, done, next}
use Rattle.st_marks.specs.Verdict.{carried_document}
use Rattle.st_marks.proofs.Members.{has-map, map-has}
use Rattle.st_marks.proofs.OneVerdict.{carried_extends, run_then}
use Rattle.st_seats.specs.Seats.{IsWrittenFrom}
use Rattle.st_window.specs.declared.kept.Kept.{Kept}
use Rattle.st_window.specs.Window.{RiseFrom, WindowView, kept_above}
use Rattle.st_window_laws.specs.Windows.{IsKept, IsWindowOf}
use Rattle.st_window_laws.proofs.Windowed.{risen}
use Rattle.st_ahead.specs.Lags.{AreAhead, IsAhead, IsLagAt, IsOfAnother, RiseAbove}
use Rattle.st_ahead.specs.inside.Lists.{ahead_above, ahead_of}
use Rattle.st_ahead.specs.declared.lag.Ahead.{Ahead}
use Rattle.st_ahead.specs.declared.lag.Lag.{Lag}
use Rattle.st_ahead.proofs.Along.{none_behind, not_own, received_list}
use Rattle.st_ahead.proofs.AheadLists.{begin_later, more_ahead}

-- ## More is received

pub raised : (l : Bool) (O : Document) (log : List Entry) (session known reference last : ℕ) (q : Lag) (xs : List Ahead) → known ≤ reference → reference ≤ length log → last ≡ max q.last reference → xs ≡ ahead_above reference q.ahead
    → IsLagAt l O log session known q → IsLagAt l O log session reference (record { reference = reference; last = last; ahead = xs })
raised l O log session known reference last q xs up within end is h = record {
  at = refl;
  low = omega (arith, end);
  within = omega (arith, within, h.within, end);
  none_sent = none_behind log session q.last last (omega (arith, end)) h.none_sent;
  ahead = subst (λ n. AreAhead l O log session reference n xs) (sym end) (subst (AreAhead l O log session reference (max q.last reference)) (sym is) (begin_later l O log session known q.last reference q.ahead up h.ahead));
}

-- ## What the window has is ahead

rise_of : (n : ℕ) (ks : List Kept) → RiseFrom n ks → RiseAbove n (map ahead_of ks)
rise_of n [] rise = tt
rise_of n (k ∷ ks) rise = (rise.0, rise_of k.n ks rise.1)

module _ (l : Bool) (O : Document) (log : List Entry) (session last : ℕ) (sound : IsSoundInForm O) (fits : FitInTurn O (commits_in log)) (none : commits_by session (drop last log) ≡ []) where
  -- one that is kept
  is_ahead : (k : Kept) → last < k.n → IsKept l O log k → IsAhead l O log session (ahead_of k)
  is_ahead k above h = record {
    commit = record { entry = h.entry; intent = h.intent; there = h.there; commit = is; other = not_own log session last (k.n - 1) h.entry h.intent (omega (arith, above)) none h.there is };
    before = h.before;
    after = carried_document k.verdict h.before h.intent;
    to_before = subst (λ Ns. Run O Ns h.before) (sym (received_list log session (k.n - 1) (none_behind log session last (k.n - 1) (omega (arith, above)) none))) h.to_before;
    to_after = subst (λ Ns. Run O Ns (carried_document k.verdict h.before h.intent)) (sym (received_list log session k.n (none_behind log session last k.n (omega (arith, above)) none) ∙ one_more)) (run_then h.to_before (next k.verdict h.verdict done));
    extends = carried_extends h.before h.intent k.verdict (turn_extends sound (fits_front (commits_in (take (k.n - 1) log)) (commits_in (drop (k.n - 1) log)) O all) h.to_before).after here.0 here.1 h.verdict;
    step = h.step;
  }
    where
      is : commit_of h.entry ≡ Some h.intent
      is = ap commit_in h.commit

      number : k.n - 1 + 1 ≡ k.n
      number = omega (arith, above)

      one_more : commits_in (take k.n log) ≡ commits_in (take (k.n - 1) log) ++ h.intent ∷ []
      one_more = ap (λ n. commits_in (take n log)) (sym number) ∙ ap commits_in (take-get log (k.n - 1) h.entry h.there) ∙ commits_append (take (k.n - 1) log) (h.entry ∷ []) ∙ ap (λ Ns. commits_in (take (k.n - 1) log) ++ Ns) (one_commit h.entry h.intent is)

      all : FitInTurn O (commits_in (take (k.n - 1) log) ++ commits_in (drop (k.n - 1) log))
      all = subst (FitInTurn O) (commits_split (k.n - 1) log) fits

      rest : commits_in (drop (k.n - 1) log) ≡ h.intent ∷ commits_in (drop (k.n - 1 + 1) log)
      rest = ap commits_in (drop-slice_get log (k.n - 1) h.entry h.there) ∙ commits_append (h.entry ∷ []) (drop (k.n - 1 + 1) log) ∙ ap (λ Ns. Ns ++ commits_in (drop (k.n - 1 + 1) log)) (one_commit h.entry h.intent is)

      here : FitInTurn h.before (h.intent ∷ commits_in (drop (k.n - 1 + 1) log))
      here = subst (FitInTurn h.before) rest (fits_rest (commits_in (drop (k.n - 1) log)) h.to_before all)

  -- all that are kept behind the number
  pub are_ahead : (w : WindowView) → IsWindowOf l O log w → w.floor ≤ last → AreAhead l O log session last (length log) (map ahead_of (kept_above last w.kept))
  are_ahead w h low = record { rise = rise_of last (kept_above last w.kept) later.rise; each = each; all = all }
    where
      later : IsWindowOf l O log (record { floor = last; kept = kept_above last w.kept })
      later = risen l O log w last h low

      above : (n : ℕ) (ks : List Kept) (k : Kept) → RiseFrom n ks → Has ks k → n < k.n
      above n [] k rise i = absurd i
      above n (x ∷ xs) k rise (inl e) = subst (λ (y : Kept). n < y.n) e rise.0
      above n (x ∷ xs) k rise (inr i) = let a = rise.0 in let b : x.n < k.n = above x.n xs k rise.1 i in omega (arith, a, b)

      each : (x : Ahead) → Has (map ahead_of (kept_above last w.kept)) x → (x.n ≤ length log) × IsAhead l O log session x
      each x i = go (has-map ahead_of (kept_above last w.kept) x i)
        where
          go : (k : Kept) × Has (kept_above last w.kept) k × (ahead_of k ≡ x) → (x.n ≤ length log) × IsAhead l O log session x
          go (k, j, e) =
              let kept = later.each k j in
              let high : last < k.n = above last (kept_above last w.kept) k later.rise j in
              let inside : k.n - 1 < length log = slice_get_within log (k.n - 1) kept.entry kept.there in
              subst (λ (y : Ahead). (y.n ≤ length log) × IsAhead l O log session y) e (omega (arith, high, inside), is_ahead k high kept)

      all : (n : ℕ) → last < n → n ≤ length log → IsOfAnother log session n → (x : Ahead) × Has (map ahead_of (kept_above last w.kept)) x × (x.n ≡ n)
      all n high within o =
          let k = later.all (n - 1) o.entry o.intent o.there o.commit (omega (arith, high)) in
          (ahead_of k.0, map-has ahead_of (kept_above last w.kept) k.0 k.1, omega (arith, k.2, high))

pub caught_up : (l : Bool) (O : Document) (log : List Entry) (session reference entries : ℕ) (w : WindowView) (q : Lag) (ks : List Kept) (xs : List Ahead) → IsWrittenFrom O log session reference → IsWindowOf l O log w → w.floor ≤ reference → entries ≡ length log
    → ks ≡ kept_above q.last w.kept → xs ≡ q.ahead ++ map ahead_of ks → IsLagAt l O log session reference q
    → IsLagAt l O log session reference (record { reference = q.reference; last = entries; ahead = xs })
caught_up l O log session reference entries w q ks xs written window low end kept is h = record {
  at = h.at;
  low = omega (arith, h.low, h.within, end);
  within = omega (arith, end);
  none_sent = ap (commits_by session) (drop_all entries log (omega (arith, end)));
  ahead = subst (λ n. AreAhead l O log session reference n xs) (sym end) (subst (AreAhead l O log session reference (length log)) (sym (is ∙ ap (λ js. q.ahead ++ map ahead_of js) kept))
      (more_ahead l O log session reference q.last (length log) q.ahead (map ahead_of (kept_above q.last w.kept)) h.low h.within h.ahead
      (are_ahead l O log session q.last written.sound written.commits h.none_sent w window (omega (arith, low, h.low)))));
}

-- the window has all that is behind the lag
pub not_gone : (l : Bool) (O : Document) (log : List Entry) (session reference floor : ℕ) (q : Lag) → floor ≤ reference → IsLagAt l O log session reference q → q.last < floor → ⊥
not_gone l O log session reference floor q low h gone = let up = h.low in omega (arith, low, up, gone)
