-- Lags behind an entry.
use Rattle.std.proofs.Common.{◌≡◌, ◌≤◌, ◌<◌, ◌+◌, ◌-◌, ◌==◌, ℕ, Bool, true, false, cond, max, List, [], ◌∷◌, ◌++◌, length, length-append, drop, Option, Some, None, MatchOption, refl, sym, ap, ◌∙◌, subst, arith}
use Rattle.std.proofs.lemmas.Bool.Decides.{nat_tests}
use Rattle.std.proofs.lemmas.List.{append-nil, drop_all}
use Rattle.std.proofs.lemmas.List.Sums.{fold_push}
use Rattle.std.proofs.lemmas.Option.{slice_get_within}
use Rattle.st_clusters.specs.declared.ids.IdRange.{IdRange}
use Rattle.st_lists.specs.declared.lists.Body.{Body}
use Rattle.st_lists.specs.declared.lists.Body.TheVariants.{Ack, Commit, Join}
use Rattle.st_lists.specs.declared.lists.Entry.{Entry}
use Rattle.st_lists.specs.Log.{commits_by, connected_after, connected_by, is_connected, known_reference, log_with, reference_in, with_reference}
use Rattle.st_lists.proofs.Logs.{by_none, by_other, entered_rest, last_entry}
use Rattle.st_marks.specs.declared.intents.Intent.{Intent}
use Rattle.st_marks.specs.Document.{Document}
use Rattle.st_marks.specs.Run.{Run}
use Rattle.st_valid.specs.Author.{author_list}
use Rattle.st_ahead.specs.Lags.{HasLag, HaveLags, IsAhead, IsLagAt, IsOfAnother}
use Rattle.st_ahead.specs.inside.Carrying.{IsLagOf}
use Rattle.st_ahead.specs.declared.lag.Ahead.{Ahead}
use Rattle.st_ahead.specs.declared.lag.Lag.{Lag}
use Rattle.st_ahead.proofs.Along.{longer_list, still_of_another, was_of_another}
use Rattle.st_ahead.proofs.AheadLists.{none_ahead}

module _ (l : Bool) (O : Document) (log : List Entry) (session : ℕ) (body : Body) where
  abbrev longer : List Entry
  longer = log_with log session body

  abbrev last : Entry
  last = last_entry log session body

  size : length longer ≡ length log + 1
  size = length-append log (last ∷ [])

  -- ## A lag of whose session the entry is no commit

  module _ (s : ℕ) (none : commits_by s (last ∷ []) ≡ []) where
    same_list : (n : ℕ) → n ≤ length log → author_list log s n ≡ author_list longer s n
    same_list n within = sym (longer_list log session body s n within ∙ ap (λ Ns. author_list log s n ++ Ns) none ∙ append-nil (author_list log s n))

    one_stays : (x : Ahead) → x.n ≤ length log → x.n - 1 < length log → IsAhead l O log s x → IsAhead l O longer s x
    one_stays x within inside h = record {
      commit = still_of_another log session body s x.n inside h.commit;
      before = h.before;
      after = h.after;
      to_before = subst (λ Ns. Run O Ns h.before) (same_list (x.n - 1) (omega (arith, within))) h.to_before;
      to_after = subst (λ Ns. Run O Ns h.after) (same_list x.n within) h.to_after;
      extends = h.extends;
      step = h.step;
    }

    pub lag_stays : (k : ℕ) (q : Lag) → IsLagAt l O log s k q → IsLagAt l O longer s k q
    lag_stays k q h = record {
      at = h.at;
      low = h.low;
      within = omega (arith, h.within, size);
      none_sent = entered_rest log session body s q.last h.within ∙ ap (λ Ns. commits_by s (drop q.last log) ++ Ns) none ∙ append-nil (commits_by s (drop q.last log)) ∙ h.none_sent;
      ahead = record {
        rise = h.ahead.rise;
        each = λ x i.
            let a = h.ahead.each x i in
            let inside : x.n - 1 < length log = of_entry log s x.n a.1.commit in
            (a.0, one_stays x (omega (arith, a.0, h.within)) inside a.1);
        all = λ n above within o. h.ahead.all n above within (was_of_another log session body s n (omega (arith, above, within, h.within)) o);
      };
    }
      where
        of_entry : (es : List Entry) (s n : ℕ) → IsOfAnother es s n → n - 1 < length es
        of_entry es s n o = slice_get_within es (n - 1) o.entry o.there

  -- ## All lags

  known_now : (s : ℕ) → known_reference s longer ≡ cond (session == s) (max (known_reference s log) (reference_in (length log + 1) body)) (known_reference s log)
  known_now s = fold_push (with_reference s) 0 log last

  on_now : (s : ℕ) → is_connected s longer ≡ cond (session == s) (connected_after (is_connected s log) body) (is_connected s log)
  on_now s = fold_push (connected_by s) false log last

  itself : (session == session) ≡ true
  itself = grind (arith, nat_tests)

  pub known_own : known_reference session longer ≡ max (known_reference session log) (reference_in (length log + 1) body)
  known_own = known_now session ∙ ap (λ b. cond b (max (known_reference session log) (reference_in (length log + 1) body)) (known_reference session log)) itself

  pub on_own : is_connected session longer ≡ connected_after (is_connected session log) body
  on_own = on_now session ∙ ap (λ b. cond b (connected_after (is_connected session log) body) (is_connected session log)) itself

  -- that of another session
  other_stays : (s : ℕ) (o : Option Lag) → (session == s) ≡ false → HasLag l O log s o → HasLag l O longer s o
  other_stays s None e gone = on_now s ∙ ap (λ b. cond b (connected_after (is_connected s log) body) (is_connected s log)) e ∙ gone
  other_stays s (Some q) e has = (
    on_now s ∙ ap (λ b. cond b (connected_after (is_connected s log) body) (is_connected s log)) e ∙ has.0,
    subst (λ k. IsLagAt l O longer s k q) (sym (known_now s ∙ ap (λ b. cond b (max (known_reference s log) (reference_in (length log + 1) body)) (known_reference s log)) e))
        (lag_stays s (by_other s last [] e) (known_reference s log) q has.1),
  )

  -- all of them, where the session of the entry has its own
  pub lags_stay : (old new : ℕ → Option Lag) → HaveLags l O log old → HasLag l O longer session (new session) → ((s : ℕ) → (s == session) ≡ false → new s ≡ old s) → HaveLags l O longer new
  lags_stay old new before own others s = go (s == session) refl
    where
      turned : (s == session) ≡ false → (session == s) ≡ false
      turned e = go (session == s) refl
        where
          go : (b : Bool) → (session == s) ≡ b → (session == s) ≡ false
          go false q = q
          go true q = let same : session ≡ s = grind (arith, nat_tests) in let there : (s == session) ≡ true = grind (arith, nat_tests) in cc

      go : (b : Bool) → (s == session) ≡ b → HasLag l O longer s (new s)
      go true e = let same : session ≡ s = grind (arith, nat_tests) in subst (λ t. HasLag l O longer t (new t)) same own
      go false e = subst (HasLag l O longer s) (sym (others s e)) (other_stays s (old s) (turned e) (before s))

-- ## A session joins

pub lags_with : (l : Bool) (O : Document) (log : List Entry) (session uuid : ℕ) (q : Lag) (old new : ℕ → Option Lag) → known_reference session log ≤ length log
    → q ≡ record { reference = length log + 1; last = length log + 1; ahead = [] } → HaveLags l O log old
    → new session ≡ Some q → ((s : ℕ) → (s == session) ≡ false → new s ≡ old s) → HaveLags l O (log_with log session (Join uuid)) new
lags_with l O log session uuid q old new low is before own others =
    lags_stay l O log session (Join uuid) old new before (subst (HasLag l O longer session) (sym own) (on_own l O log session (Join uuid), subst (IsLagAt l O longer session (known_reference session longer)) (sym is) lag)) others
  where
    longer : List Entry
    longer = log_with log session (Join uuid)

    known : known_reference session longer ≡ length log + 1
    known = let e = known_own l O log session (Join uuid) in omega (arith, low, e)

    size : length longer ≡ length log + 1
    size = length-append log (last_entry log session (Join uuid) ∷ [])

    lag : IsLagAt l O longer session (known_reference session longer) (record { reference = length log + 1; last = length log + 1; ahead = [] })
    lag = record {
      at = sym known;
      low = omega (arith, known);
      within = omega (arith, size);
      none_sent = ap (commits_by session) (drop_all (length log + 1) longer (omega (arith, size)));
      ahead = none_ahead l O longer session (known_reference session longer) (length log + 1) (λ k a b o. omega (arith, a, b, known));
    }

-- ## One tells what it has received

pub lags_told : (l : Bool) (O : Document) (log : List Entry) (session reference : ℕ) (old new : ℕ → Option Lag) → is_connected session log ≡ true
    → known_reference session log ≤ reference → HaveLags l O log old → IsLagOf l O log session reference (new session) → ((s : ℕ) → (s == session) ≡ false → new s ≡ old s)
    → HaveLags l O (log_with log session (Ack reference)) new
lags_told l O log session reference old new on up before own others =
    lags_stay l O log session (Ack reference) old new before (subst (HasLag l O longer session) (sym own.1) (on_own l O log session (Ack reference) ∙ on, lag)) others
  where
    longer : List Entry
    longer = log_with log session (Ack reference)

    known : known_reference session longer ≡ reference
    known = let e = known_own l O log session (Ack reference) in omega (arith, up, e)

    lag : IsLagAt l O longer session (known_reference session longer) own.0
    lag = subst (λ k. IsLagAt l O longer session k own.0) (sym known) (lag_stays l O log session (Ack reference) session (by_none session (last_entry log session (Ack reference)) [] refl) reference own.0 own.2)

-- ## One commits

pub lags_taken : (l : Bool) (O : Document) (log : List Entry) (session reference : ℕ) (ids : IdRange) (N : Intent) (old new : ℕ → Option Lag) → is_connected session log ≡ true
    → known_reference session log ≤ reference → HaveLags l O log old → IsLagOf l O (log_with log session (Commit reference ids N)) session reference (new session)
    → ((s : ℕ) → (s == session) ≡ false → new s ≡ old s) → HaveLags l O (log_with log session (Commit reference ids N)) new
lags_taken l O log session reference ids N old new on up before own others =
    lags_stay l O log session (Commit reference ids N) old new before (subst (HasLag l O longer session) (sym own.1) (on_own l O log session (Commit reference ids N) ∙ on, lag)) others
  where
    longer : List Entry
    longer = log_with log session (Commit reference ids N)

    known : known_reference session longer ≡ reference
    known = let e = known_own l O log session (Commit reference ids N) in omega (arith, up, e)

    lag : IsLagAt l O longer session (known_reference session longer) own.0
    lag = subst (λ k. IsLagAt l O longer session k own.0) (sym known) own.2

-- ## One lag

there : (on : Bool) (P : Lag → Type 0) (o : Option Lag) → on ≡ true → MatchOption o (on ≡ false) (λ q. (on ≡ true) × P q) → (q : Lag) × (o ≡ Some q) × P q
there on P None is gone = absurd (never on is gone)
  where
    never : (b : Bool) → b ≡ true → b ≡ false → ⊥
    never b e f = cc
there on P (Some q) is has = (q, refl, has.1)

-- a session that is connected has a lag
pub lag_of : (l : Bool) (O : Document) (log : List Entry) (session : ℕ) (o : Option Lag) → is_connected session log ≡ true → HasLag l O log session o → IsLagOf l O log session (known_reference session log) o
lag_of l O log session o on has = there (is_connected session log) (IsLagAt l O log session (known_reference session log)) o on has

pub only_lag : (q p : Lag) → Some q ≡ Some p → q ≡ p
only_lag q p e = cc
