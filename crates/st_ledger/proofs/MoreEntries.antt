-- A ledger with one more entry stands for the log with it.
use Rattle.std.proofs.Common.{◌≡◌, ◌≤◌, ◌+◌, ◌-◌, ◌==◌, ◌&&◌, ◌||◌, ℕ, zero, suc, Bool, true, false, cond, max, not, filter, is_some, List, [], ◌∷◌, ◌++◌, length, length-append, map, get_or, set, Option, None, Some, option_map, Ok, refl, sym, ap, ◌∙◌, subst, arith}
use Rattle.std.proofs.lemmas.Bool.Decides.{nat_tests}
use Rattle.std.specs.BTreeMap.{get}
use Rattle.std.specs.List.{list_any, slice_get}
use Rattle.std.specs.Option.{option_map_or}
use Rattle.std.proofs.lemmas.List.{append-nil}
use Rattle.std.proofs.lemmas.List.Elements.{filter_map-append}
use Rattle.std.proofs.lemmas.List.Sums.{fold_push}
use Rattle.st_lemmas.proofs.Bools.{or-false, true-false}
use Rattle.st_lemmas.proofs.FirstItems.{list_any-push}
use Rattle.st_ids.specs.Order.{rev_cmp, same_rev}
use Rattle.st_ids.specs.declared.names.Rev.{Rev}
use Rattle.st_clusters.specs.Free.{free_number, spans_meet}
use Rattle.st_clusters.specs.Ids.{ids_of}
use Rattle.st_clusters.specs.Log.{IsTableOf}
use Rattle.st_clusters.specs.Table.{Ids, after_finalising, no_session, raise_to, session_of}
use Rattle.st_clusters.specs.declared.ids.IdRange.{IdRange}
use Rattle.st_clusters.proofs.RangeTaken.{was_taken}
use Rattle.st_clusters.proofs.Stable.{session_known}
use Rattle.st_clusters.proofs.TableOfRanges.{table_finalises}
use Rattle.st_clusters.specs.declared.ids.SessionIds.{SessionIds}
use Rattle.st_ids.proofs.Shared.{filtered}
use Rattle.st_marks.specs.declared.intents.Intent.{Intent}
use Rattle.st_marks.proofs.Members.{distinct-filter}
use Rattle.st_lists.specs.Known.{known_so_far}
use Rattle.st_lists.specs.Log.{clashes, commits_in, connected_after, connected_by, is_connected, known_reference, log_with, meets, range_of, ranges_in, reference_in, sessions_in, uuid_in, with_reference}
use Rattle.st_lists.specs.Names.{names_in, names_made}
use Rattle.st_lists.proofs.Names.{names_append}
use Rattle.st_lists.specs.declared.lists.Body.{Body}
use Rattle.st_lists.specs.declared.lists.Body.TheVariants.{Ack, Commit, Leave}
use Rattle.st_lists.specs.declared.lists.Entry.{Entry}
use Rattle.st_lists.proofs.Logs.{entered_commits, last_entry}
use Rattle.st_lists.proofs.Minima.{connected_entry}
use Rattle.st_valid.specs.Sessions.{has_joined, tells}
use Rattle.st_ledger.specs.Stands.{AreConnectedIn, AreSessionsOf, StandsFor, meets_span}
use Rattle.st_ledger.specs.declared.ledger.Ledger.{Ledger}
use Rattle.st_ledger.proofs.RoomLeft.{session_low}

-- ## What holds whatever a session says but a join

module _ (log : List Entry) (s : ℕ) (body : Body) where
  abbrev longer : List Entry
  longer = log_with log s body

  pub size_now : length longer ≡ length log + 1
  size_now = length-append log (last_entry log s body ∷ [])

  pub known_now : (t : ℕ) → known_reference t longer ≡ cond (s == t) (max (known_reference t log) (reference_in (length log + 1) body)) (known_reference t log)
  known_now t = fold_push (with_reference t) 0 log (last_entry log s body)

  pub on_now : (t : ℕ) → is_connected t longer ≡ cond (s == t) (connected_after (is_connected t log) body) (is_connected t log)
  on_now t = fold_push (connected_by t) false log (last_entry log s body)

  module _ (none : uuid_in body ≡ None) (low : s ≤ sessions_in log) where
    count_now : sessions_in longer ≡ sessions_in log
    count_now =
        let more : sessions_in longer ≡ max (sessions_in log) s = fold_push (λ most (e : Entry). max most e.session) 0 log (last_entry log s body) in
        omega (arith, more, low)

    joined_now : (t u : ℕ) → has_joined t u longer ≡ has_joined t u log
    joined_now t u = list_any-push (tells t u) log (last_entry log s body) ∙ ap (λ b. has_joined t u log || b) no ∙ or-false (has_joined t u log)
      where
        no : tells t u (last_entry log s body) ≡ false
        no = ap (λ o. s == t && option_map_or (λ v. v == u) o false) none ∙ both (s == t)
          where
            both : (b : Bool) → (b && false) ≡ false
            both true = refl
            both false = refl

    clashes_now : (u : ℕ) → clashes u longer ≡ clashes u log
    clashes_now u = list_any-push (meets u) log (last_entry log s body) ∙ ap (λ b. clashes u log || b) (ap (λ o. option_map_or (λ v. spans_meet (free_number v) (free_number u)) o false) none) ∙ or-false (clashes u log)

    sessions_now : (ss : List SessionIds) → AreSessionsOf log ss → AreSessionsOf longer ss
    sessions_now ss h = record {
      count = h.count ∙ sym count_now;
      uuids = λ t u. h.uuids t u ∙ sym (joined_now t u);
      spans = λ u. h.spans u ∙ sym (clashes_now u);
    }

pub known_session : (log : List Entry) (s : ℕ) → is_connected s log ≡ true → s ≤ sessions_in log
known_session log s on = let x = connected_entry s log on in omega (arith, session_low log x.0 0 x.1, x.2)

-- ## A session tells how many entries it has received

pub told_entered : (l k : Ledger) (s reference : ℕ) (log : List Entry) → StandsFor l log → is_connected s log ≡ true
    → k.entries ≡ l.entries + 1 → ids_of k.ids ≡ ids_of l.ids → k.connected ≡ l.connected → k.names ≡ l.names → k.revisions ≡ l.revisions
    → ((t : ℕ) → known_so_far k.known t ≡ cond (s == t) (max (known_so_far l.known t) reference) (known_so_far l.known t))
    → StandsFor k (log_with log s (Ack reference))
told_entered l k s reference log stands on entries ids connected names revisions known = record {
  entries = entries ∙ ap (λ n. n + 1) stands.entries ∙ sym (size_now log s (Ack reference));
  ids = subst (λ (t : Ids). IsTableOf (ranges_in (log_with log s (Ack reference))) t) (sym ids) (subst (λ rs. IsTableOf rs (ids_of l.ids)) (sym ranges) stands.ids);
  sessions = subst (λ (t : Ids). AreSessionsOf (log_with log s (Ack reference)) t.sessions) (sym ids) (sessions_now log s (Ack reference) refl (known_session log s on) (ids_of l.ids).sessions stands.sessions);
  few = omega (arith, entries, stands.few, ap (λ (t : Ids). length t.sessions) ids);
  known = λ t. known t ∙ ap (λ n. cond (s == t) (max n reference) n) (stands.known t) ∙ sym (known_now log s (Ack reference) t);
  connected = subst (AreConnectedIn (log_with log s (Ack reference))) (sym connected) (record { each = λ t. stands.connected.each t ∙ sym (stays t); once = stands.connected.once; some = stands.connected.some });
  names = names ∙ stands.names ∙ ap names_in (sym commits);
  revisions = λ r. ap (λ m. is_some (get rev_cmp m r)) revisions ∙ stands.revisions r ∙ ap (λ Ns. list_any (λ (N : Intent). same_rev N.rev r) Ns) (sym commits);
}
  where
    ranges : ranges_in (log_with log s (Ack reference)) ≡ ranges_in log
    ranges = filter_map-append range_of log (last_entry log s (Ack reference) ∷ []) ∙ append-nil (ranges_in log)

    commits : commits_in (log_with log s (Ack reference)) ≡ commits_in log
    commits = entered_commits log s (Ack reference) ∙ append-nil (commits_in log)

    stays : (t : ℕ) → is_connected t (log_with log s (Ack reference)) ≡ is_connected t log
    stays t = on_now log s (Ack reference) t ∙ either (s == t)
      where
        either : (b : Bool) → cond b (is_connected t log) (is_connected t log) ≡ is_connected t log
        either true = refl
        either false = refl

-- ## A session leaves

it_goes : (b r : Bool) → (not b && r) ≡ (not b && (b || r))
it_goes true r = refl
it_goes false r = refl

it_stays : (b c r : Bool) → (b ≡ true → c ≡ false) → (c || (not b && r)) ≡ (not b && (c || r))
it_stays false c r h = refl
it_stays true c r h = or-false c ∙ h refl

nowhere : (b : Bool) → false ≡ (b && false)
nowhere true = refl
nowhere false = refl

others_listed : (s t : ℕ) (xs : List ℕ) → list_any (λ (x : ℕ). x == t) (filter (λ (x : ℕ). not (x == s)) xs) ≡ (not (s == t) && list_any (λ (x : ℕ). x == t) xs)
others_listed s t [] = nowhere (not (s == t))
others_listed s t (x ∷ xs) = go (x == s) refl (others_listed s t xs)
  where
    go : (b : Bool) → (x == s) ≡ b → list_any (λ (y : ℕ). y == t) (filter (λ (y : ℕ). not (y == s)) xs) ≡ (not (s == t) && list_any (λ (y : ℕ). y == t) xs)
        → list_any (λ (y : ℕ). y == t) (cond (not b) (x ∷ filter (λ (y : ℕ). not (y == s)) xs) (filter (λ (y : ℕ). not (y == s)) xs)) ≡ (not (s == t) && (x == t || list_any (λ (y : ℕ). y == t) xs))
    go true e h =
        let same : x ≡ s = grind (arith, nat_tests) in
        h ∙ it_goes (s == t) (list_any (λ (y : ℕ). y == t) xs) ∙ ap (λ (k : ℕ). not (s == t) && (k == t || list_any (λ (y : ℕ). y == t) xs)) (sym same)
    go false e h = ap (λ b. x == t || b) h ∙ it_stays (s == t) (x == t) (list_any (λ (y : ℕ). y == t) xs) (apart (x == t) refl)
      where
        apart : (c : Bool) → (x == t) ≡ c → (s == t) ≡ true → c ≡ false
        apart false f g = refl
        apart true f g =
            let one : x ≡ t = grind (arith, nat_tests) in
            let two : s ≡ t = grind (arith, nat_tests) in
            let same : x ≡ s = one ∙ sym two in
            let itself : (s == s) ≡ true = grind (arith, nat_tests) in
            absurd (true-false (ap (λ (k : ℕ). k == s) same ∙ itself) e)

pub left_entered : (l k : Ledger) (s : ℕ) (log : List Entry) → StandsFor l log → is_connected s log ≡ true
    → k.entries ≡ l.entries + 1 → ids_of k.ids ≡ ids_of l.ids → k.connected ≡ filter (λ (t : ℕ). not (t == s)) l.connected → k.names ≡ l.names → k.revisions ≡ l.revisions → k.known ≡ l.known
    → StandsFor k (log_with log s Leave)
left_entered l k s log stands on entries ids connected names revisions known = record {
  entries = entries ∙ ap (λ n. n + 1) stands.entries ∙ sym (size_now log s Leave);
  ids = subst (λ (t : Ids). IsTableOf (ranges_in (log_with log s Leave)) t) (sym ids) (subst (λ rs. IsTableOf rs (ids_of l.ids)) (sym ranges) stands.ids);
  sessions = subst (λ (t : Ids). AreSessionsOf (log_with log s Leave) t.sessions) (sym ids) (sessions_now log s Leave refl (known_session log s on) (ids_of l.ids).sessions stands.sessions);
  few = omega (arith, entries, stands.few, ap (λ (t : Ids). length t.sessions) ids);
  known = λ t. ap (λ m. known_so_far m t) known ∙ stands.known t ∙ sym (known_now log s Leave t ∙ same (s == t) (known_reference t log));
  connected = subst (AreConnectedIn (log_with log s Leave)) (sym connected) (record {
    each = λ t. others_listed s t l.connected ∙ ap (λ b. not (s == t) && b) (stands.connected.each t) ∙ sym (on_now log s Leave t ∙ gone (s == t) (is_connected t log));
    once = distinct-filter (λ (t : ℕ). t) (λ (t : ℕ). not (t == s)) l.connected stands.connected.once;
    some = λ t h. stands.connected.some t (filtered (λ (x : ℕ). not (x == s)) l.connected t h).0;
  });
  names = names ∙ stands.names ∙ ap names_in (sym commits);
  revisions = λ r. ap (λ m. is_some (get rev_cmp m r)) revisions ∙ stands.revisions r ∙ ap (λ Ns. list_any (λ (N : Intent). same_rev N.rev r) Ns) (sym commits);
}
  where
    ranges : ranges_in (log_with log s Leave) ≡ ranges_in log
    ranges = filter_map-append range_of log (last_entry log s Leave ∷ []) ∙ append-nil (ranges_in log)

    commits : commits_in (log_with log s Leave) ≡ commits_in log
    commits = entered_commits log s Leave ∙ append-nil (commits_in log)

    same : (b : Bool) (n : ℕ) → cond b (max n 0) n ≡ n
    same true n = omega arith
    same false n = refl

    gone : (b x : Bool) → cond b false x ≡ (not b && x)
    gone true x = refl
    gone false x = refl

-- ## A session commits

-- sessions that have the same UUIDs are sessions of the same log
slice-map : (xs : List SessionIds) (i : ℕ) → slice_get (map (λ (x : SessionIds). x.uuid) xs) i ≡ option_map (λ (x : SessionIds). x.uuid) (slice_get xs i)
slice-map [] i = refl
slice-map (x ∷ xs) zero = refl
slice-map (x ∷ xs) (suc i) = slice-map xs i

any-map : (u : ℕ) (xs : List SessionIds) → list_any (λ (w : ℕ). spans_meet (free_number w) (free_number u)) (map (λ (x : SessionIds). x.uuid) xs) ≡ list_any (meets_span u) xs
any-map u [] = refl
any-map u (x ∷ xs) = ap (λ b. spans_meet (free_number x.uuid) (free_number u) || b) (any-map u xs)

length-map : (xs : List SessionIds) → length (map (λ (x : SessionIds). x.uuid) xs) ≡ length xs
length-map [] = refl
length-map (x ∷ xs) = ap suc (length-map xs)

uuid-map : (s u : ℕ) (xs : List SessionIds) → option_map_or (λ (w : ℕ). w == u) (cond (s == 0) None (slice_get (map (λ (x : SessionIds). x.uuid) xs) (s - 1))) false ≡ option_map_or (λ (x : SessionIds). x.uuid == u) (session_of xs s) false
uuid-map s u xs = go (s == 0)
  where
    mapped : (o : Option SessionIds) → option_map_or (λ (w : ℕ). w == u) (option_map (λ (x : SessionIds). x.uuid) o) false ≡ option_map_or (λ (x : SessionIds). x.uuid == u) o false
    mapped None = refl
    mapped (Some x) = refl

    go : (b : Bool) → option_map_or (λ (w : ℕ). w == u) (cond b None (slice_get (map (λ (x : SessionIds). x.uuid) xs) (s - 1))) false ≡ option_map_or (λ (x : SessionIds). x.uuid == u) (cond b None (slice_get xs (s - 1))) false
    go true = refl
    go false = ap (λ o. option_map_or (λ (w : ℕ). w == u) o false) (slice-map xs (s - 1)) ∙ mapped (slice_get xs (s - 1))

sessions_alike : (log : List Entry) (xs ys : List SessionIds) → map (λ (x : SessionIds). x.uuid) xs ≡ map (λ (x : SessionIds). x.uuid) ys → AreSessionsOf log xs → AreSessionsOf log ys
sessions_alike log xs ys same h = record {
  count = sym (length-map ys) ∙ ap length (sym same) ∙ length-map xs ∙ h.count;
  uuids = λ s u. sym (uuid-map s u ys) ∙ ap (λ (ws : List ℕ). option_map_or (λ (w : ℕ). w == u) (cond (s == 0) None (slice_get ws (s - 1))) false) (sym same) ∙ uuid-map s u xs ∙ h.uuids s u;
  spans = λ u. sym (any-map u ys) ∙ ap (list_any (λ (w : ℕ). spans_meet (free_number w) (free_number u))) (sym same) ∙ any-map u xs ∙ h.spans u;
}

set-map : (xs : List SessionIds) (i : ℕ) (y : SessionIds) → y.uuid ≡ (get_or xs i no_session).uuid → map (λ (x : SessionIds). x.uuid) (set xs i y) ≡ map (λ (x : SessionIds). x.uuid) xs
set-map [] i y e = refl
set-map (x ∷ xs) zero y e = ap (λ u. u ∷ map (λ (x : SessionIds). x.uuid) xs) e
set-map (x ∷ xs) (suc i) y e = ap (λ us. x.uuid ∷ us) (set-map xs i y e)

taken_sessions : (log : List Entry) (r : IdRange) (t v : Ids) → after_finalising r t ≡ Ok v → AreSessionsOf log t.sessions → AreSessionsOf log v.sessions
taken_sessions log r t v e h =
    let took = was_taken r t v e in
    let known = session_known t.sessions r.session took.ids took.known in
    sessions_alike log t.sessions v.sessions
    (sym (ap (map (λ (x : SessionIds). x.uuid)) took.sessions ∙ set-map t.sessions (r.session - 1) (raise_to took.ids (took.ids.finalised + r.count)) (ap (λ (x : SessionIds). x.uuid) (sym known.2)))) h

one_more : (b : Bool) (n : ℕ) (o : Option ℕ) → is_some (cond b (Some n) o) ≡ (is_some o || b)
one_more true n None = refl
one_more true n (Some m) = refl
one_more false n None = refl
one_more false n (Some m) = refl

pub committed : (l k : Ledger) (s reference : ℕ) (ids : IdRange) (N : Intent) (log : List Entry) → StandsFor l log → is_connected s log ≡ true
    → k.entries ≡ l.entries + 1 → after_finalising ids (ids_of l.ids) ≡ Ok (ids_of k.ids) → k.connected ≡ l.connected → k.names ≡ l.names + names_made N
    → ((r : Rev) → get rev_cmp k.revisions r ≡ cond (same_rev N.rev r) (Some (l.entries + 1)) (get rev_cmp l.revisions r))
    → ((t : ℕ) → known_so_far k.known t ≡ cond (s == t) (max (known_so_far l.known t) reference) (known_so_far l.known t))
    → StandsFor k (log_with log s (Commit reference ids N))
committed l k s reference ids N log stands on entries taken connected names revisions known = record {
  entries = entries ∙ ap (λ n. n + 1) stands.entries ∙ sym (size_now log s (Commit reference ids N));
  ids = subst (λ rs. IsTableOf rs (ids_of k.ids)) (sym (filter_map-append range_of log (last_entry log s (Commit reference ids N) ∷ []))) (table_finalises (ranges_in log) ids (ids_of l.ids) (ids_of k.ids) stands.ids taken);
  sessions = sessions_now log s (Commit reference ids N) refl (known_session log s on) (ids_of k.ids).sessions (taken_sessions log ids (ids_of l.ids) (ids_of k.ids) taken stands.sessions);
  few = omega (arith, entries, stands.few, stands.sessions.count, (taken_sessions log ids (ids_of l.ids) (ids_of k.ids) taken stands.sessions).count);
  known = λ t. known t ∙ ap (λ n. cond (s == t) (max n reference) n) (stands.known t) ∙ sym (known_now log s (Commit reference ids N) t);
  connected = subst (AreConnectedIn (log_with log s (Commit reference ids N))) (sym connected) (record { each = λ t. stands.connected.each t ∙ sym (stays t); once = stands.connected.once; some = stands.connected.some });
  names = names ∙ ap (λ n. n + names_made N) stands.names ∙ sym more_names;
  revisions = λ r. ap is_some (revisions r) ∙ one_more (same_rev N.rev r) (l.entries + 1) (get rev_cmp l.revisions r) ∙ ap (λ b. b || same_rev N.rev r) (stands.revisions r) ∙ sym (ap (λ Ns. list_any (λ (M : Intent). same_rev M.rev r) Ns) commits ∙ list_any-push (λ (M : Intent). same_rev M.rev r) (commits_in log) N);
}
  where
    commits : commits_in (log_with log s (Commit reference ids N)) ≡ commits_in log ++ N ∷ []
    commits = entered_commits log s (Commit reference ids N)

    more_names : names_in (commits_in (log_with log s (Commit reference ids N))) ≡ names_in (commits_in log) + names_made N
    more_names = ap names_in commits ∙ names_append (commits_in log) (N ∷ []) ∙ omega arith

    stays : (t : ℕ) → is_connected t (log_with log s (Commit reference ids N)) ≡ is_connected t log
    stays t = on_now log s (Commit reference ids N) t ∙ either (s == t)
      where
        either : (b : Bool) → cond b (is_connected t log) (is_connected t log) ≡ is_connected t log
        either true = refl
        either false = refl
