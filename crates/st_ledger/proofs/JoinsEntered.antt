-- A ledger in which a join is entered stands for the log with it.
use Rattle.std.proofs.Common.{◌≡◌, ◌≢◌, ◌≤◌, ◌+◌, ◌-◌, ◌==◌, ◌&&◌, ◌||◌, ℕ, zero, suc, Bool, true, false, cond, max, not, is_some, List, [], ◌∷◌, ◌++◌, length, length-append, Option, None, Some, Ok, Err, Result, refl, sym, ap, ◌∙◌, subst, arith, ◌⊎◌, inl, inr}
use Rattle.std.proofs.lemmas.Bool.Decides.{nat_tests}
use Rattle.std.proofs.lemmas.List.{append-nil}
use Rattle.std.proofs.lemmas.List.Elements.{filter_map-append}
use Rattle.std.proofs.lemmas.List.Sums.{fold_push}
use Rattle.std.specs.BTreeMap.{get}
use Rattle.std.specs.List.{list_any, slice_get}
use Rattle.std.specs.Option.{option_map_or}
use Rattle.st_lemmas.proofs.Bools.{and-true, or-cases, or-false, not-true, true-false}
use Rattle.st_lemmas.proofs.FirstItems.{list_any-push}
use Rattle.st_ids.specs.Listing.{Has}
use Rattle.st_ids.specs.Or.{IfRefused}
use Rattle.st_ids.specs.Order.{rev_cmp, same_rev}
use Rattle.st_ids.specs.declared.fault.Or.{Or}
use Rattle.st_ids.specs.declared.fault.Or.TheVariants.{Fault, NoMemory}
use Rattle.st_clusters.specs.Free.{free_number, is_v4, spans_meet}
use Rattle.st_clusters.specs.Ids.{ids_of}
use Rattle.st_clusters.specs.Log.{IsTableOf}
use Rattle.st_clusters.specs.Table.{Ids, after_joining, clash, join_unless, new_session, session_of}
use Rattle.st_clusters.specs.declared.ids.IdFault.{IdFault}
use Rattle.st_clusters.specs.declared.ids.IdFault.TheVariants.{NotV4}
use Rattle.st_clusters.specs.declared.ids.SessionIds.{SessionIds}
use Rattle.st_clusters.proofs.SessionsTouched.{joined_is}
use Rattle.st_clusters.proofs.TableOfRanges.{table_joins}
use Rattle.st_marks.specs.declared.intents.Intent.{Intent}
use Rattle.st_marks.proofs.Members.{any-has, distinct-append, has-any, has-append}
use Rattle.st_lists.specs.Known.{known_so_far}
use Rattle.st_lists.specs.Log.{clashes, commits_in, is_connected, known_reference, log_with, meets, range_of, ranges_in, sessions_in, uuid_told}
use Rattle.st_lists.specs.Names.{names_in}
use Rattle.st_lists.specs.declared.lists.Body.TheVariants.{Join}
use Rattle.st_lists.specs.declared.lists.Entry.{Entry}
use Rattle.st_lists.proofs.Logs.{entered_commits, last_entry}
use Rattle.st_valid.specs.Sessions.{comes_back, has_joined, is_new_session, tells}
use Rattle.st_ledger.specs.Stands.{AreConnectedIn, AreSessionsOf, StandsFor, meets_span}
use Rattle.st_ledger.specs.declared.ledger.Ledger.{Ledger}
use Rattle.st_ledger.proofs.JoinedSessions.{new_of_ledger}
use Rattle.st_ledger.proofs.MoreEntries.{known_now, known_session, on_now, size_now}
use Rattle.st_ledger.proofs.RoomLeft.{session_low}

-- ## Sessions that have joined

-- the entry in which a session joined
joined_entry : (s u : ℕ) (log : List Entry) → has_joined s u log ≡ true → (e : Entry) × Has log e × (e.session ≡ s) × (uuid_told e ≡ Some u)
joined_entry s u log joined =
    let x = any-has (tells s u) log joined in
    let both = and-true (x.0.session == s) (option_map_or (λ (v : ℕ). v == u) (uuid_told x.0) false) x.2 in
    let own : (x.0.session == s) ≡ true = both.0 in
    let same : x.0.session ≡ s = grind (arith, nat_tests) in
    (x.0, x.1, same, told (uuid_told x.0) both.1)
  where
    told : (o : Option ℕ) → option_map_or (λ (v : ℕ). v == u) o false ≡ true → o ≡ Some u
    told None e = cc
    told (Some v) e = let same : v ≡ u = grind (arith, nat_tests) in ap (λ (w : ℕ). Some w) same

joined_low : (s u : ℕ) (log : List Entry) → has_joined s u log ≡ true → s ≤ sessions_in log
joined_low s u log joined = let x = joined_entry s u log joined in omega (arith, session_low log x.0 0 x.1, x.2)

no_more : (a b : Bool) → (b ≡ true → a ≡ true) → (a || b) ≡ a
no_more a false h = or-false a
no_more true true h = refl
no_more false true h = sym (h refl)

-- those of a log in which a session comes back
back_again : (s u : ℕ) (log : List Entry) (ss : List SessionIds) → has_joined s u log ≡ true → AreSessionsOf log ss → AreSessionsOf (log_with log s (Join u)) ss
back_again s u log ss joined h = record {
  count = let more : sessions_in (log_with log s (Join u)) ≡ max (sessions_in log) s = fold_push (λ most (e : Entry). max most e.session) 0 log (last_entry log s (Join u)) in
      omega (arith, more, h.count, joined_low s u log joined);
  uuids = λ t v. h.uuids t v ∙ sym (list_any-push (tells t v) log (last_entry log s (Join u)) ∙ no_more (has_joined t v log) (s == t && u == v) (same t v));
  spans = λ w. h.spans w ∙ sym (list_any-push (meets w) log (last_entry log s (Join u)) ∙ no_more (clashes w log) (spans_meet (free_number u) (free_number w)) (met w));
}
  where
    same : (t v : ℕ) → (s == t && u == v) ≡ true → has_joined t v log ≡ true
    same t v e =
        let both = and-true (s == t) (u == v) e in
        let one : (s == t) ≡ true = both.0 in
        let two : (u == v) ≡ true = both.1 in
        let session : s ≡ t = grind (arith, nat_tests) in
        let uuid : u ≡ v = grind (arith, nat_tests) in
        subst (λ (k : ℕ). has_joined k v log ≡ true) session (subst (λ (w : ℕ). has_joined s w log ≡ true) uuid joined)

    met : (w : ℕ) → spans_meet (free_number u) (free_number w) ≡ true → clashes w log ≡ true
    met w e =
        let x = joined_entry s u log joined in
        has-any (meets w) log x.0 x.1 (ap (λ (o : Option ℕ). option_map_or (λ (v : ℕ). spans_meet (free_number v) (free_number w)) o false) x.3 ∙ e)

-- ## One session more

slice_last : (xs : List SessionIds) (y : SessionIds) → slice_get (xs ++ y ∷ []) (length xs) ≡ Some y
slice_last [] y = refl
slice_last (x ∷ xs) y = slice_last xs y

slice_other : (xs : List SessionIds) (y : SessionIds) (i : ℕ) → i ≢ length xs → slice_get (xs ++ y ∷ []) i ≡ slice_get xs i
slice_other [] y zero other = absurd (other refl)
slice_other [] y (suc i) other = refl
slice_other (x ∷ xs) y zero other = refl
slice_other (x ∷ xs) y (suc i) other = slice_other xs y i (λ e. other (ap suc e))

slice_past : (xs : List SessionIds) → slice_get xs (length xs) ≡ None
slice_past [] = refl
slice_past (x ∷ xs) = slice_past xs

of_none : (xs : List SessionIds) → session_of xs 0 ≡ None
of_none xs = refl

of_some : (xs : List SessionIds) (i : ℕ) → session_of xs (suc i) ≡ slice_get xs i
of_some xs i =
    let back : suc i - 1 ≡ i = omega arith in
    let some : (suc i == 0) ≡ false = grind (arith, nat_tests) in
    ap (λ b. cond b None (slice_get xs (suc i - 1))) some ∙ ap (slice_get xs) back

of_last : (xs : List SessionIds) (y : SessionIds) (t : ℕ) → t ≡ length xs + 1 → session_of (xs ++ y ∷ []) t ≡ Some y
of_last xs y zero e = absurd (omega (arith, e))
of_last xs y (suc i) e =
    let place : i ≡ length xs = omega (arith, e) in
    of_some (xs ++ y ∷ []) i ∙ ap (slice_get (xs ++ y ∷ [])) place ∙ slice_last xs y

of_next : (xs : List SessionIds) (t : ℕ) → t ≡ length xs + 1 → session_of xs t ≡ None
of_next xs zero e = absurd (omega (arith, e))
of_next xs (suc i) e =
    let place : i ≡ length xs = omega (arith, e) in
    of_some xs i ∙ ap (slice_get xs) place ∙ slice_past xs

of_other : (xs : List SessionIds) (y : SessionIds) (t : ℕ) → t ≢ length xs + 1 → session_of (xs ++ y ∷ []) t ≡ session_of xs t
of_other xs y zero other = of_none (xs ++ y ∷ []) ∙ sym (of_none xs)
of_other xs y (suc i) other = of_some (xs ++ y ∷ []) i ∙ slice_other xs y i (λ e. other (omega (arith, e))) ∙ sym (of_some xs i)

-- those of a log in which the next session joins
one_joined : (s u : ℕ) (log : List Entry) (ss : List SessionIds) → s ≡ length ss + 1 → AreSessionsOf log ss → AreSessionsOf (log_with log s (Join u)) (ss ++ new_session u ∷ [])
one_joined s u log ss next h = record {
  count = let more : sessions_in (log_with log s (Join u)) ≡ max (sessions_in log) s = fold_push (λ most (e : Entry). max most e.session) 0 log (last_entry log s (Join u)) in
      let long : length (ss ++ new_session u ∷ []) ≡ length ss + 1 = length-append ss (new_session u ∷ []) in
      omega (arith, more, long, h.count, next);
  uuids = λ t v. each t v (s == t) refl;
  spans = λ w. list_any-push (meets_span w) ss (new_session u) ∙ ap (λ b. b || spans_meet (free_number u) (free_number w)) (h.spans w) ∙ sym (list_any-push (meets w) log (last_entry log s (Join u)));
}
  where
    has : (v : ℕ) → Option SessionIds → Bool
    has v o = option_map_or (λ (x : SessionIds). x.uuid == v) o false

    each : (t v : ℕ) (b : Bool) → (s == t) ≡ b → option_map_or (λ (x : SessionIds). x.uuid == v) (session_of (ss ++ new_session u ∷ []) t) false ≡ has_joined t v (log_with log s (Join u))
    each t v true e =
        let same : s ≡ t = grind (arith, nat_tests) in
        let place : t ≡ length ss + 1 = omega (arith, same, next) in
        let nothing : has_joined t v log ≡ false = sym (h.uuids t v) ∙ ap (has v) (of_next ss t place) in
        ap (has v) (of_last ss (new_session u) t place)
        ∙ sym (list_any-push (tells t v) log (last_entry log s (Join u)) ∙ ap (λ b. b || (s == t && u == v)) nothing ∙ ap (λ b. b && u == v) e)
    each t v false e =
        let other : t ≢ length ss + 1 = λ place. absurd (true-false (let q : (s == t) ≡ true = grind (arith, nat_tests, place, next) in q) e) in
        ap (has v) (of_other ss (new_session u) t other) ∙ h.uuids t v
        ∙ sym (list_any-push (tells t v) log (last_entry log s (Join u)) ∙ ap (λ b. has_joined t v log || (b && u == v)) e ∙ or-false (has_joined t v log))

-- ## One connected session more

one_connected : (s u : ℕ) (log : List Entry) (connected : List ℕ) → 1 ≤ s → is_connected s log ≡ false → AreConnectedIn log connected → AreConnectedIn (log_with log s (Join u)) (connected ++ s ∷ [])
one_connected s u log connected some off h = record {
  each = λ t. list_any-push (λ (k : ℕ). k == t) connected s ∙ ap (λ b. b || s == t) (h.each t) ∙ either (s == t) (is_connected t log) ∙ sym (on_now log s (Join u) t);
  once = distinct-append (λ (t : ℕ). t) connected (s ∷ []) h.once (tt, tt) apart;
  some = λ t i. low t (has-append connected (s ∷ []) t i);
}
  where
    either : (b c : Bool) → (c || b) ≡ cond b true c
    either false c = or-false c
    either true true = refl
    either true false = refl

    apart : (x y : ℕ) → Has connected x → Has (s ∷ []) y → y ≢ x
    apart x y i (inr j) e = absurd j
    apart x y i (inl j) e =
        let same : (x == s) ≡ true = grind (arith, nat_tests, j, e) in
        true-false (sym (h.each s) ∙ has-any (λ (t : ℕ). t == s) connected x i same) off

    low : (t : ℕ) → (Has connected t ⊎ Has (s ∷ []) t) → 1 ≤ t
    low t (inl i) = h.some t i
    low t (inr (inl j)) = omega (arith, some, j)
    low t (inr (inr j)) = absurd j

-- ## A session joins

with_join : (l k : Ledger) (s u : ℕ) (log : List Entry) → StandsFor l log → 1 ≤ s → is_connected s log ≡ false
    → IsTableOf (ranges_in log) (ids_of k.ids) → AreSessionsOf (log_with log s (Join u)) (ids_of k.ids).sessions → length (ids_of k.ids).sessions ≤ k.entries
    → k.entries ≡ l.entries + 1 → k.connected ≡ l.connected ++ s ∷ [] → k.names ≡ l.names → k.revisions ≡ l.revisions
    → ((t : ℕ) → known_so_far k.known t ≡ cond (s == t) (max (known_so_far l.known t) (l.entries + 1)) (known_so_far l.known t))
    → StandsFor k (log_with log s (Join u))
with_join l k s u log stands some off table sessions few entries connected names revisions known = record {
  entries = entries ∙ ap (λ n. n + 1) stands.entries ∙ sym (size_now log s (Join u));
  ids = subst (λ rs. IsTableOf rs (ids_of k.ids)) (sym ranges) table;
  sessions = sessions;
  few = few;
  known = λ t. known t ∙ ap (λ n. cond (s == t) (max n (l.entries + 1)) n) (stands.known t) ∙ ap (λ n. cond (s == t) (max (known_reference t log) (n + 1)) (known_reference t log)) stands.entries ∙ sym (known_now log s (Join u) t);
  connected = subst (AreConnectedIn (log_with log s (Join u))) (sym connected) (one_connected s u log l.connected some off stands.connected);
  names = names ∙ stands.names ∙ ap names_in (sym commits);
  revisions = λ r. ap (λ m. is_some (get rev_cmp m r)) revisions ∙ stands.revisions r ∙ ap (λ Ns. list_any (λ (N : Intent). same_rev N.rev r) Ns) (sym commits);
}
  where
    ranges : ranges_in (log_with log s (Join u)) ≡ ranges_in log
    ranges = filter_map-append range_of log (last_entry log s (Join u) ∷ []) ∙ append-nil (ranges_in log)

    commits : commits_in (log_with log s (Join u)) ≡ commits_in log
    commits = entered_commits log s (Join u) ∙ append-nil (commits_in log)

new_number : (s u : ℕ) (log : List Entry) → is_new_session s u log ≡ true → s ≡ sessions_in log + 1
new_number s u log new =
    let both = and-true (s == sessions_in log + 1) (is_v4 u && not (clashes u log)) new in
    let own : (s == sessions_in log + 1) ≡ true = both.0 in
    grind (arith, nat_tests)

pub came_back : (l k : Ledger) (s u : ℕ) (log : List Entry) → StandsFor l log → (is_new_session s u log || comes_back s u log) ≡ true → has_joined s u log ≡ true
    → ids_of k.ids ≡ ids_of l.ids → k.entries ≡ l.entries + 1 → k.connected ≡ l.connected ++ s ∷ [] → k.names ≡ l.names → k.revisions ≡ l.revisions
    → ((t : ℕ) → known_so_far k.known t ≡ cond (s == t) (max (known_so_far l.known t) (l.entries + 1)) (known_so_far l.known t))
    → StandsFor k (log_with log s (Join u))
came_back l k s u log stands may joined ids entries connected names revisions known =
    with_join l k s u log stands (some s (stands.sessions.uuids s u ∙ joined)) (off (or-cases (is_new_session s u log) (comes_back s u log) may))
    (subst (IsTableOf (ranges_in log)) (sym ids) stands.ids)
    (subst (λ (t : Ids). AreSessionsOf (log_with log s (Join u)) t.sessions) (sym ids) (back_again s u log (ids_of l.ids).sessions joined stands.sessions))
    (omega (arith, entries, stands.few, ap (λ (t : Ids). length t.sessions) ids))
    entries connected names revisions known
  where
    some : (t : ℕ) → option_map_or (λ (x : SessionIds). x.uuid == u) (session_of (ids_of l.ids).sessions t) false ≡ true → 1 ≤ t
    some zero e = absurd (true-false e (ap (λ (o : Option SessionIds). option_map_or (λ (x : SessionIds). x.uuid == u) o false) (of_none (ids_of l.ids).sessions)))
    some (suc t) e = omega arith

    off : ((is_new_session s u log ≡ true) ⊎ (comes_back s u log ≡ true)) → is_connected s log ≡ false
    off (inl new) = absurd (omega (arith, new_number s u log new, joined_low s u log joined))
    off (inr back) = not-true (is_connected s log) (and-true (not (is_connected s log)) (has_joined s u log) back).0

pub joined_first : (l k : Ledger) (s u n : ℕ) (log : List Entry) → StandsFor l log → (is_new_session s u log || comes_back s u log) ≡ true → has_joined s u log ≡ false
    → after_joining u (ids_of l.ids) ≡ Ok (n, ids_of k.ids) → k.entries ≡ l.entries + 1 → k.connected ≡ l.connected ++ s ∷ [] → k.names ≡ l.names → k.revisions ≡ l.revisions
    → ((t : ℕ) → known_so_far k.known t ≡ cond (s == t) (max (known_so_far l.known t) (l.entries + 1)) (known_so_far l.known t))
    → StandsFor k (log_with log s (Join u))
joined_first l k s u n log stands may apart ids entries connected names revisions known =
    with_join l k s u log stands (omega (arith, next)) (off (is_connected s log) refl)
    (table_joins (ranges_in log) u n (ids_of l.ids) (ids_of k.ids) stands.ids ids)
    (subst (AreSessionsOf (log_with log s (Join u))) made (one_joined s u log (ids_of l.ids).sessions (omega (arith, next, stands.sessions.count)) stands.sessions))
    (let long : length ((ids_of l.ids).sessions ++ new_session u ∷ []) ≡ length (ids_of l.ids).sessions + 1 = length-append (ids_of l.ids).sessions (new_session u ∷ []) in
    omega (arith, entries, stands.few, long, ap (λ (ss : List SessionIds). length ss) made))
    entries connected names revisions known
  where
    new : ((is_new_session s u log ≡ true) ⊎ (comes_back s u log ≡ true)) → s ≡ sessions_in log + 1
    new (inl i) = new_number s u log i
    new (inr back) = absurd (true-false (and-true (not (is_connected s log)) (has_joined s u log) back).1 apart)

    next : s ≡ sessions_in log + 1
    next = new (or-cases (is_new_session s u log) (comes_back s u log) may)

    made : (ids_of l.ids).sessions ++ new_session u ∷ [] ≡ (ids_of k.ids).sessions
    made = ap (λ (t : Ids). t.sessions) (joined_is u (ids_of l.ids) (n, ids_of k.ids) ids)

    off : (b : Bool) → is_connected s log ≡ b → is_connected s log ≡ false
    off true e = absurd (omega (arith, known_session log s e, next))
    off false e = e

-- ## A session is refused

-- a new one may not join if its UUID is refused
pub may_not_join : (l : Ledger) (s u : ℕ) (f : IdFault) (log : List Entry) → StandsFor l log → has_joined s u log ≡ false → after_joining u (ids_of l.ids) ≡ Err f → (is_new_session s u log || comes_back s u log) ≡ false
may_not_join l s u f log stands apart e = go (is_new_session s u log || comes_back s u log) refl
  where
    joins : is_v4 u ≡ true → (o : Option ℕ) → clash u (ids_of l.ids).sessions ≡ o → not (is_some o) ≡ true → ⊥
    joins v (Some n) c free = true-false free refl
    joins v None c free =
        let done : join_unless u (ids_of l.ids) None ≡ Err f = sym (ap (λ b. cond b (join_unless u (ids_of l.ids) (clash u (ids_of l.ids).sessions)) (Err NotV4)) v ∙ ap (join_unless u (ids_of l.ids)) c) ∙ e in
        cc

    new : is_new_session s u log ≡ true → ⊥
    new i =
        let told = new_of_ledger l s u log stands ∙ i in
        let named = and-true (s == length (ids_of l.ids).sessions + 1) (is_v4 u && not (is_some (clash u (ids_of l.ids).sessions))) told in
        let free = and-true (is_v4 u) (not (is_some (clash u (ids_of l.ids).sessions))) named.1 in
        joins free.0 (clash u (ids_of l.ids).sessions) refl free.1

    either : ((is_new_session s u log ≡ true) ⊎ (comes_back s u log ≡ true)) → ⊥
    either (inl i) = new i
    either (inr back) = true-false (and-true (not (is_connected s log)) (has_joined s u log) back).1 apart

    go : (b : Bool) → (is_new_session s u log || comes_back s u log) ≡ b → (is_new_session s u log || comes_back s u log) ≡ false
    go false h = h
    go true h = absurd (either (or-cases (is_new_session s u log) (comes_back s u log) h))

pub refusal_told : (l : Ledger) (s u : ℕ) (joined : Bool) (f : IdFault) → ((log : List Entry) → StandsFor l log → joined ≡ has_joined s u log) → (not joined ≡ true) × (after_joining u (ids_of l.ids) ≡ Err f)
    → (log : List Entry) → StandsFor l log → (is_new_session s u log || comes_back s u log) ≡ false
refusal_told l s u joined f is refused log stands = may_not_join l s u f log stands (sym (is log stands) ∙ not-true joined refused.0) refused.1

-- what is told of a refusal follows it
pub refused_along : {T F : Type 0} (r : Result T (Or F)) (P Q : F → Type 0) → ((f : F) → P f → Q f) → IfRefused r P → IfRefused r Q
refused_along (Ok v) P Q f h = tt
refused_along (Err (Fault a)) P Q f h = f a h
refused_along (Err NoMemory) P Q f h = tt
