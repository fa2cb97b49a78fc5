-- What a log keeps to whose messages were valid where they came.
use Rattle.std.proofs.Common.{◌≡◌, ◌≢◌, ◌≤◌, ◌<◌, ◌+◌, ◌==◌, ℕ, zero, suc, Bool, true, false, cond, nat_le, not, ◌&&◌, is_some, List, [], ◌∷◌, ◌++◌, length, length-append, Some, None, refl, sym, ap, ◌∙◌, subst, arith, ◌⊎◌, inl, inr, append_assoc}
use Rattle.std.specs.List.{cons_option, list_any, slice_get}
use Rattle.std.specs.Option.{option_map_or}
use Rattle.std.proofs.lemmas.Bool.Decides.{nat_tests}
use Rattle.std.proofs.lemmas.List.{append-nil}
use Rattle.std.proofs.lemmas.List.Elements.{filter_map-append}
use Rattle.st_ids.specs.Listing.{Has}
use Rattle.st_ids.specs.Order.{same_rev}
use Rattle.st_ids.specs.Root.{opening}
use Rattle.st_ids.specs.declared.names.Limit.{Limit}
use Rattle.st_ids.specs.declared.names.LimitOf.TheVariants.{Log}
use Rattle.st_ids.specs.declared.names.Rev.{Rev}
use Rattle.st_ids.proofs.Orders.{same_rev-itself}
use Rattle.st_lemmas.proofs.Bools.{and-first, and-second, not-true, or-cases, true-false}
use Rattle.st_clusters.specs.Log.{AreInTurn, GoOn, carried_count}
use Rattle.st_clusters.specs.Table.{most_ids}
use Rattle.st_clusters.specs.declared.ids.IdRange.{IdRange}
use Rattle.st_clusters.proofs.Logs.{carried_own, carried_other}
use Rattle.st_marks.specs.declared.changes.Change.{Change}
use Rattle.st_marks.specs.declared.intents.Intent.{Intent}
use Rattle.st_marks.specs.Document.{Document}
use Rattle.st_marks.proofs.Members.{any-has, has-any, has-append, has-map}
use Rattle.st_log_laws.specs.Names.{HaveNewRevisions, revisions}
use Rattle.st_lists.specs.Log.{commit_of, commits_in, commits_of_text, is_connected, log_with, minimum, range_in, range_of, ranges_in, sessions_in}
use Rattle.st_lists.specs.declared.lists.Body.{Body}
use Rattle.st_lists.specs.declared.lists.Body.TheVariants.{Commit}
use Rattle.st_lists.specs.declared.lists.Entry.{Entry}
use Rattle.st_lists.proofs.Logs.{entered_commits, last_entry}
use Rattle.st_lists.proofs.Minima.{connected_entry}
use Rattle.st_valid.specs.Context.{AuthorsIntent}
use Rattle.st_valid.specs.Ids.{carried_in, ids_are_next, is_new_revision, is_next_range, revision_is_new}
use Rattle.st_valid_laws.specs.Messages.{IsBodyOf, IsValid, IsValidLog, no_message, one_message_more}
use Rattle.st_valid.specs.References.{body_without_change, is_within, minimum_after, reference_said}
use Rattle.st_valid.specs.Room.{has_room_for_entry, has_room_to_say}
use Rattle.st_valid.specs.Sessions.{comes_back, has_joined, is_new_session, session_may, tells}
use Rattle.st_valid.specs.declared.message.Message.{Message}
use Rattle.st_valid.specs.declared.message.ReplayCause.TheVariants as cause
use Rattle.st_valid.specs.declared.message.Said.{Said}
use Rattle.st_valid.specs.declared.message.Said.TheVariants as said
use Rattle.st_valid_laws.proofs.Entered.{minimum_alike, told_alike}
use Rattle.st_valid_laws.proofs.NewRevisions.{new_more}

-- ## What an entry is of its message

-- the entry of a commit
pub record IsCommit (O : Document) (log : List Entry) (session : ℕ) (says : Said) (body : Body) : Type 0 where
  pub reference : ℕ
  pub ids : IdRange
  pub change : Change
  pub says_so : says ≡ said.Commit reference ids (Some change)
  pub meant : AuthorsIntent O log session reference change
  pub is : body ≡ Commit reference ids meant.intent

-- an entry without a commit
pub record HasNoCommit (body : Body) : Type 0 where
  pub commits : commits_of_text body ≡ []
  pub range : range_in body ≡ None

pub commit_or_none : (O : Document) (log : List Entry) (session : ℕ) (says : Said) (body : Body) → IsBodyOf O log session says body → HasNoCommit body ⊎ IsCommit O log session says body
commit_or_none O log session (said.Join uuid) body is = inl (record { commits = rw is refl; range = rw is refl })
commit_or_none O log session said.Leave body is = inl (record { commits = rw is refl; range = rw is refl })
commit_or_none O log session (said.Ack reference) body is = inl (record { commits = rw is refl; range = rw is refl })
commit_or_none O log session (said.Commit reference ids None) body is = absurd is
commit_or_none O log session (said.Commit reference ids (Some C)) body is = inr (record { reference = reference; ids = ids; change = C; says_so = refl; meant = is.0; is = is.1 })

-- ## Entries and their numbers

pub got : {X : Type 0} (xs : List X) (x y : X) (i : ℕ) → slice_get (xs ++ x ∷ []) i ≡ Some y → (slice_get xs i ≡ Some y) ⊎ ((i ≡ length xs) × (x ≡ y))
got [] x y zero e = let same : x ≡ y = cc in inr (refl, same)
got [] x y (suc i) e = cc
got (z ∷ xs) x y zero e = inl e
got (z ∷ xs) x y (suc i) e = elim (got xs x y i e) [ inl h ↦ inl h | inr h ↦ inr (ap suc h.0, h.1) ]

pub numbered : {O : Document} {log : List Entry} → IsValidLog O log → (i : ℕ) (e : Entry) → slice_get log i ≡ Some e → e.n ≡ i + 1
numbered no_message i e at = cc
numbered (one_message_more {log} before m valid body is) i e at = elim (got log (last_entry log m.session body) e i at) [
  | inl h ↦ numbered before i e h
  | inr h ↦ ap (λ (x : Entry). x.n) (sym h.1) ∙ ap (λ k. k + 1) (sym h.0)
]

-- ## Sessions

abbrev pub HaveSessions : List Entry → Type 0
HaveSessions log = (e : Entry) → Has log e → 1 ≤ e.session

joined_some : (log : List Entry) (s u : ℕ) → HaveSessions log → has_joined s u log ≡ true → 1 ≤ s
joined_some log s u each h =
    let x = any-has (tells s u) log h in
    let own : (x.0.session == s) ≡ true = and-first _ _ x.2 in
    let same : x.0.session ≡ s = grind (arith, nat_tests) in
    omega (arith, same, each x.0 x.1)

connected_some : (log : List Entry) (s : ℕ) → HaveSessions log → is_connected s log ≡ true → 1 ≤ s
connected_some log s each h = let x = connected_entry s log h in omega (arith, x.2, each x.0 x.1)

pub speaker_some : (log : List Entry) (s : ℕ) (says : Said) → HaveSessions log → session_may log s says ≡ true → 1 ≤ s
speaker_some log s (said.Join uuid) each h = elim (or-cases (is_new_session s uuid log) (comes_back s uuid log) h) [
  | inl new ↦ (let next : (s == sessions_in log + 1) ≡ true = and-first _ _ new in let same : s ≡ sessions_in log + 1 = grind (arith, nat_tests) in omega (arith, same))
  | inr back ↦ joined_some log s uuid each (and-second _ _ back)
]
speaker_some log s said.Leave each h = connected_some log s each h
speaker_some log s (said.Ack reference) each h = connected_some log s each h
speaker_some log s (said.Commit reference ids change) each h = connected_some log s each h

sessions_more : (log : List Entry) (last e : Entry) → HaveSessions log → 1 ≤ last.session → Has (log ++ last ∷ []) e → 1 ≤ e.session
sessions_more log last e each some h = elim (has-append log (last ∷ []) e h) [
  | inl i ↦ each e i
  | inr i ↦ it i
]
  where
    it : Has (last ∷ []) e → 1 ≤ e.session
    it (inl q) = subst (λ (x : Entry). 1 ≤ x.session) q some
    it (inr q) = absurd q

pub have_sessions : {O : Document} {log : List Entry} → IsValidLog O log → HaveSessions log
have_sessions no_message e h = absurd h
have_sessions (one_message_more {log} before m valid body is) e h =
    sessions_more log (last_entry log m.session body) e (have_sessions before) (speaker_some log m.session m.said (have_sessions before) (valid cause.Session)) h

-- ## Ranges

pub entered_ranges : (log : List Entry) (s : ℕ) (body : Body) → ranges_in (log_with log s body) ≡ ranges_in log ++ cons_option (range_in body) []
entered_ranges log s body = filter_map-append range_of log (last_entry log s body ∷ [])

pub no_range : (log : List Entry) (s : ℕ) (body : Body) → range_in body ≡ None → ranges_in (log_with log s body) ≡ ranges_in log
no_range log s body none = entered_ranges log s body ∙ ap (λ o. ranges_in log ++ cons_option o []) none ∙ append-nil (ranges_in log)

pub one_range : (log : List Entry) (s : ℕ) (body : Body) (reference : ℕ) (ids : IdRange) (N : Intent) → body ≡ Commit reference ids N → ranges_in (log_with log s body) ≡ ranges_in log ++ ids ∷ []
one_range log s body reference ids N is = entered_ranges log s body ∙ ap (λ b. ranges_in log ++ cons_option (range_in b) []) is

goes_on : (before rs : List IdRange) (r : IdRange) → GoOn before rs → 1 ≤ r.session → r.first ≡ carried_count r.session (before ++ rs) + 1 → GoOn before (rs ++ r ∷ [])
goes_on before [] r on some first = (some, rw (append-nil before) at first, tt)
goes_on before (q ∷ rs) r on some first =
    let more : r.first ≡ carried_count r.session ((before ++ q ∷ []) ++ rs) + 1 = rw append_assoc first in
    (on.0, on.1, goes_on (before ++ q ∷ []) rs r on.2 some more)

record IsNextRange (log : List Entry) (s : ℕ) (ids : IdRange) : Type 0 where
  own : ids.session ≡ s
  first : ids.first ≡ carried_in log s + 1
  bound : carried_in log s + ids.count ≤ most_ids

next_range : (log : List Entry) (s : ℕ) (ids : IdRange) → is_next_range log s ids ≡ true → IsNextRange log s ids
next_range log s ids h = record { own = own; first = first; bound = bound }
  where
    own : ids.session ≡ s
    own = let t : (ids.session == s) ≡ true = and-first (ids.session == s) ((ids.first == carried_in log s + 1) && nat_le (carried_in log s + ids.count) most_ids) h in grind (arith, nat_tests)

    rest : ((ids.first == carried_in log s + 1) && nat_le (carried_in log s + ids.count) most_ids) ≡ true
    rest = and-second (ids.session == s) ((ids.first == carried_in log s + 1) && nat_le (carried_in log s + ids.count) most_ids) h

    first : ids.first ≡ carried_in log s + 1
    first = let t : (ids.first == carried_in log s + 1) ≡ true = and-first (ids.first == carried_in log s + 1) (nat_le (carried_in log s + ids.count) most_ids) rest in grind (arith, nat_tests)

    bound : carried_in log s + ids.count ≤ most_ids
    bound = let t : nat_le (carried_in log s + ids.count) most_ids ≡ true = and-second (ids.first == carried_in log s + 1) (nat_le (carried_in log s + ids.count) most_ids) rest in grind (arith, nat_tests)

its_range : (O : Document) (log : List Entry) (m : Message) {body : Body} → IsValid O log m → (c : IsCommit O log m.session m.said body) → IsNextRange log m.session c.ids
its_range O log m valid c = next_range log m.session c.ids (and-first (is_next_range log m.session c.ids) true (subst (λ q. ids_are_next log m.session q ≡ true) c.says_so (valid cause.Ids)))

pub in_turn : {O : Document} {log : List Entry} → IsValidLog O log → AreInTurn (ranges_in log)
in_turn no_message = tt
in_turn {O} (one_message_more {log} before m valid body is) = elim (commit_or_none O log m.session m.said body is) [
  | inl none ↦ subst AreInTurn (sym (no_range log m.session body none.range)) (in_turn before)
  | inr c ↦ (let next = its_range O log m valid c in
      let some : 1 ≤ c.ids.session = subst (λ s. 1 ≤ s) (sym next.own) (speaker_some log m.session m.said (have_sessions before) (valid cause.Session)) in
      let first : c.ids.first ≡ carried_count c.ids.session (ranges_in log) + 1 = next.first ∙ ap (λ s. carried_count s (ranges_in log) + 1) (sym next.own) in
      subst AreInTurn (sym (one_range log m.session body c.reference c.ids c.meant.intent c.is)) (goes_on [] (ranges_in log) c.ids (in_turn before) some first))
]

bound_more : (log : List Entry) (t s : ℕ) (ids : IdRange) → carried_in log s ≤ most_ids → IsNextRange log t ids → carried_count s (ranges_in log ++ ids ∷ []) ≤ most_ids
bound_more log t s ids low next = go (ids.session == s) refl
  where
    itself : (s == s) ≡ true
    itself = grind (arith, nat_tests)

    go : (b : Bool) → (ids.session == s) ≡ b → carried_count s (ranges_in log ++ ids ∷ []) ≤ most_ids
    go true e =
        let own : ids.session ≡ s = grind (arith, nat_tests) in
        let same : carried_in log t ≡ carried_in log s = ap (carried_in log) (sym next.own ∙ own) in
        omega (arith, carried_own s (ranges_in log) ids own, next.bound, same)
    go false e =
        let other : ids.session ≢ s = λ q. true-false (ap (λ (k : ℕ). k == s) q ∙ itself) e in
        omega (arith, carried_other s (ranges_in log) ids other, low)

pub within_bound : {O : Document} {log : List Entry} → IsValidLog O log → (s : ℕ) → carried_in log s ≤ most_ids
within_bound no_message s = omega arith
within_bound {O} (one_message_more {log} before m valid body is) s = elim (commit_or_none O log m.session m.said body is) [
  | inl none ↦ subst (λ rs. carried_count s rs ≤ most_ids) (sym (no_range log m.session body none.range)) (within_bound before s)
  | inr c ↦ subst (λ rs. carried_count s rs ≤ most_ids) (sym (one_range log m.session body c.reference c.ids c.meant.intent c.is)) (bound_more log m.session s c.ids (within_bound before s) (its_range O log m valid c))
]

-- ## The minimum

pub minimum_told : (O : Document) (log : List Entry) (m : Message) (body : Body) → IsValid O log m → IsBodyOf O log m.session m.said body → minimum (log_with log m.session body) ≡ m.min
minimum_told O log m body valid is =
    let told : (m.min == minimum_after log m) ≡ true = and-second (option_map_or (is_within log m.n) (reference_said m.said) true) (m.min == minimum_after log m) (valid cause.Window) in
    let same : m.min ≡ minimum_after log m = grind (arith, nat_tests) in
    minimum_alike log m.session body (body_without_change m.said) (told_alike O log m.session m.said body is) ∙ sym same

-- ## Revisions

record IsNewRevision (log : List Entry) (s : ℕ) (rev : Rev) : Type 0 where
  own : rev.session ≡ s
  new : list_any (λ (N : Intent). same_rev N.rev rev) (commits_in log) ≡ false

its_revision : (O : Document) (log : List Entry) (m : Message) {body : Body} → IsValid O log m → (c : IsCommit O log m.session m.said body) → IsNewRevision log m.session c.meant.intent.rev
its_revision O log m valid c = subst (IsNewRevision log m.session) c.meant.embeds.rev (record { own = own; new = not-true _ (and-second _ _ h) })
  where
    h : is_new_revision log m.session c.change.rev ≡ true
    h = subst (λ q. revision_is_new log m.session q ≡ true) c.says_so (valid cause.Revision)

    own : c.change.rev.session ≡ m.session
    own = let t : (c.change.rev.session == m.session) ≡ true = and-first _ _ h in grind (arith, nat_tests)

pub revision_comes : (O : Document) (log : List Entry) (m : Message) {body : Body} → IsValidLog O log → IsValid O log m → (c : IsCommit O log m.session m.said body) → Has (revisions (commits_in log) ++ opening ∷ []) c.meant.intent.rev → ⊥
revision_comes O log m before valid c h = elim (has-append (revisions (commits_in log)) (opening ∷ []) c.meant.intent.rev h) [
  | inl i ↦ (let x = has-map (λ (N : Intent). N.rev) (commits_in log) c.meant.intent.rev i in
      let same : same_rev x.0.rev c.meant.intent.rev ≡ true = rw x.2 (same_rev-itself c.meant.intent.rev) in
      true-false (has-any (λ (N : Intent). same_rev N.rev c.meant.intent.rev) (commits_in log) x.0 x.1 same) r.new)
  | inr i ↦ first i
]
  where
    r : IsNewRevision log m.session c.meant.intent.rev
    r = its_revision O log m valid c

    some : 1 ≤ m.session
    some = speaker_some log m.session m.said (have_sessions before) (valid cause.Session)

    first : Has (opening ∷ []) c.meant.intent.rev → ⊥
    first (inl q) = let zero_of : 0 ≡ c.meant.intent.rev.session = ap (λ (x : Rev). x.session) q in absurd (omega (arith, zero_of, r.own, some))
    first (inr q) = absurd q

pub no_commit_entered : (log : List Entry) (s : ℕ) (body : Body) → HasNoCommit body → commits_in (log_with log s body) ≡ commits_in log
no_commit_entered log s body none = entered_commits log s body ∙ ap (λ Ns. commits_in log ++ Ns) none.commits ∙ append-nil (commits_in log)

pub commit_entered : {O : Document} (log : List Entry) (s : ℕ) {says : Said} (body : Body) (c : IsCommit O log s says body) → commits_in (log_with log s body) ≡ commits_in log ++ c.meant.intent ∷ []
commit_entered log s body c = entered_commits log s body ∙ ap (λ b. commits_in log ++ commits_of_text b) c.is

pub have_new_revisions : {O : Document} {log : List Entry} → IsValidLog O log → HaveNewRevisions (opening ∷ []) (commits_in log)
have_new_revisions no_message = record { once = tt; new = λ N h. absurd h }
have_new_revisions {O} (one_message_more {log} before m valid body is) = elim (commit_or_none O log m.session m.said body is) [
  | inl none ↦ subst (HaveNewRevisions (opening ∷ [])) (sym (no_commit_entered log m.session body none)) (have_new_revisions before)
  | inr c ↦ subst (HaveNewRevisions (opening ∷ [])) (sym (commit_entered log m.session body c)) (new_more (opening ∷ []) (commits_in log) c.meant.intent (have_new_revisions before) (revision_comes O log m before valid c))
]

pub have_own_revisions : {O : Document} {log : List Entry} → IsValidLog O log → (e : Entry) → Has log e → (N : Intent) → commit_of e ≡ Some N → N.rev.session ≡ e.session
have_own_revisions no_message e h N at = absurd h
have_own_revisions {O} (one_message_more {log} before m valid body is) e h N at = elim (has-append log (last_entry log m.session body ∷ []) e h) [
  | inl i ↦ have_own_revisions before e i N at
  | inr i ↦ last i
]
  where
    last : Has (last_entry log m.session body ∷ []) e → N.rev.session ≡ e.session
    last (inr q) = absurd q
    last (inl q) = elim (commit_or_none O log m.session m.said body is) [
      | inl none ↦ absurd (nothing none (ap commit_of q ∙ at))
      | inr c ↦ (let same : commit_of (last_entry log m.session body) ≡ Some c.meant.intent = ap (λ b. commit_of (last_entry log m.session b)) c.is in
          let one : c.meant.intent ≡ N = only (sym same ∙ ap commit_of q ∙ at) in
          ap (λ (M : Intent). M.rev.session) (sym one) ∙ (its_revision O log m valid c).own ∙ ap (λ (x : Entry). x.session) q)
    ]
      where
        only : {M K : Intent} → Some M ≡ Some K → M ≡ K
        only e = cc

        nothing : HasNoCommit body → commit_of (last_entry log m.session body) ≡ Some N → ⊥
        nothing none e = empty (sym none.commits ∙ ap (λ o. cons_option o []) e)
          where
            empty : [] ≡ N ∷ [] → ⊥
            empty q = cc

-- ## Room

room_for_entry : (log : List Entry) (says : Said) → has_room_to_say log says ≡ true → has_room_for_entry log ≡ true
room_for_entry log (said.Join uuid) h = and-first _ _ h
room_for_entry log said.Leave h = h
room_for_entry log (said.Ack reference) h = h
room_for_entry log (said.Commit reference ids change) h = and-first _ _ h

abbrev full : List Entry → Limit
full log = record { of = Log; kept = length log }

entry_left : (log : List Entry) → has_room_for_entry log ≡ true → length log < 65535
entry_left log h = go (nat_le 65535 (length log)) refl h
  where
    go : (b : Bool) → nat_le 65535 (length log) ≡ b → not (is_some (cond b (Some (full log)) None)) ≡ true → length log < 65535
    go true e h = cc
    go false e h = grind (arith, nat_tests)

pub few_entries : {O : Document} {log : List Entry} → IsValidLog O log → length log ≤ 65535
few_entries no_message = omega arith
few_entries (one_message_more {log} before m valid body is) =
    let more : length (log_with log m.session body) ≡ length log + 1 = length-append log (last_entry log m.session body ∷ []) in
    omega (arith, more, entry_left log (room_for_entry log m.said (valid cause.Limit)))
