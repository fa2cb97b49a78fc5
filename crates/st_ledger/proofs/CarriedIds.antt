-- How many ids a log carries of a session, by the table of its ids.
use Rattle.std.proofs.Common.{◌≡◌, ◌≤◌, ◌+◌, ◌-◌, ◌==◌, ℕ, zero, suc, Bool, true, false, cond, List, [], ◌∷◌, ◌++◌, length, Option, Some, None, Result, Ok, Err, unwrap_or, option_map, ◌&&◌, nat_le, not, is_some, refl, sym, ap, ◌∙◌, subst, arith}
use Rattle.std.specs.List.{list_any, slice_get, slice_set}
use Rattle.std.proofs.lemmas.Bool.Decides.{nat_tests}
use Rattle.std.specs.BTreeMap.{get}
use Rattle.st_ids.specs.Order.{rev_cmp, same_rev}
use Rattle.st_ids.specs.declared.names.Rev.{Rev}
use Rattle.st_clusters.specs.Log.{GoOn, IsTableOf, carried_count}
use Rattle.st_clusters.specs.Table.{Ids, after_finalising, is_next, most_ids, on_session, raise_to, session_of, with_range}
use Rattle.st_clusters.specs.declared.ids.IdFault.{IdFault}
use Rattle.st_clusters.specs.declared.ids.IdFault.TheVariants.{RangeOrder}
use Rattle.st_lemmas.proofs.Bools.{and-true}
use Rattle.st_marks.specs.declared.intents.Intent.{Intent}
use Rattle.st_marks.proofs.Members.{any-has}
use Rattle.st_ledger.proofs.MoreEntries.{known_session}
use Rattle.st_clusters.specs.declared.ids.IdRange.{IdRange}
use Rattle.st_clusters.specs.declared.ids.SessionIds.{SessionIds}
use Rattle.st_clusters.specs.Ids.{ids_of}
use Rattle.st_lists.specs.Log.{commits_in, is_connected, ranges_in}
use Rattle.st_lists.specs.declared.lists.Entry.{Entry}
use Rattle.st_valid.specs.Ids.{carried_in, is_new_revision, is_next_range}
use Rattle.st_ledger.specs.Stands.{StandsFor}
use Rattle.st_ledger.specs.declared.ledger.Ledger.{Ledger}
use Rattle.st_lists.proofs.Texts.{carried_append}

-- ranges are of sessions from 1 on
none_of_zero : (before rs : List IdRange) → GoOn before rs → carried_count 0 rs ≡ 0
none_of_zero before [] on = refl
none_of_zero before (r ∷ rs) on =
    let rest : carried_count 0 rs ≡ 0 = none_of_zero (before ++ r ∷ []) rs on.2 in
    let all : carried_count 0 (r ∷ rs) ≡ carried_count 0 (r ∷ []) + carried_count 0 rs = carried_append 0 (r ∷ []) rs in
    omega (arith, all, rest, other (r.session == 0) refl)
  where
    other : (b : Bool) → (r.session == 0) ≡ b → 0 + cond b r.count 0 ≡ 0
    other true e = let zero_of : r.session ≡ 0 = grind (arith, nat_tests) in absurd (omega (arith, zero_of, on.0))
    other false e = omega arith

past : {A : Type 0} (xs : List A) (i : ℕ) → slice_get xs i ≡ None → length xs ≤ i
past [] i e = omega arith
past (x ∷ xs) zero e = cc
past (x ∷ xs) (suc i) e = omega (arith, past xs i e)

pub carried_kept : (rs : List IdRange) (t : Ids) → IsTableOf rs t → (s : ℕ) → unwrap_or (option_map (λ (x : SessionIds). x.finalised) (session_of t.sessions s)) 0 ≡ carried_count s rs
carried_kept rs t is zero = sym (none_of_zero [] rs is.in_turn)
carried_kept rs t is (suc s) = go (slice_get t.sessions s) refl
  where
    known : session_of t.sessions (suc s) ≡ slice_get t.sessions s
    known =
        let back : suc s - 1 ≡ s = omega arith in
        let some : (suc s == 0) ≡ false = grind (arith, nat_tests) in
        ap (λ b. cond b None (slice_get t.sessions (suc s - 1))) some ∙ ap (slice_get t.sessions) back

    go : (o : Option SessionIds) → slice_get t.sessions s ≡ o → unwrap_or (option_map (λ (x : SessionIds). x.finalised) (session_of t.sessions (suc s))) 0 ≡ carried_count (suc s) rs
    go None e = ap (λ (o : Option SessionIds). unwrap_or (option_map (λ (x : SessionIds). x.finalised) o) 0) (known ∙ e) ∙ sym (is.later (suc s) (omega (arith, past t.sessions s e)))
    go (Some x) e = ap (λ (o : Option SessionIds). unwrap_or (option_map (λ (x : SessionIds). x.finalised) o) 0) (known ∙ e) ∙ is.finalised (suc s) x (known ∙ e)

-- ## What a ledger looks up

pub carried_of_ledger : (l : Ledger) (s : ℕ) (log : List Entry) → StandsFor l log → unwrap_or (option_map (λ (x : SessionIds). x.finalised) (session_of (ids_of l.ids).sessions s)) 0 ≡ carried_in log s
carried_of_ledger l s log stands = carried_kept (ranges_in log) (ids_of l.ids) stands.ids s

pub connected_of_ledger : (l : Ledger) (s : ℕ) (log : List Entry) → StandsFor l log → list_any (λ (t : ℕ). t == s) l.connected ≡ is_connected s log
connected_of_ledger l s log stands = stands.connected.each s

pub next_of_ledger : (l : Ledger) (s carried : ℕ) (ids : IdRange) (log : List Entry) → StandsFor l log → carried ≡ carried_in log s
    → (ids.session == s && (ids.first == carried + 1 && nat_le (carried + ids.count) most_ids)) ≡ is_next_range log s ids
next_of_ledger l s carried ids log stands e = ap (λ n. ids.session == s && (ids.first == n + 1 && nat_le (n + ids.count) most_ids)) e

pub revision_of_ledger : (l : Ledger) (s : ℕ) (rev : Rev) (log : List Entry) → StandsFor l log → (rev.session == s && not (is_some (get rev_cmp l.revisions rev))) ≡ is_new_revision log s rev
revision_of_ledger l s rev log stands = ap (λ b. rev.session == s && not b) (stands.revisions rev)

pub commit_of_ledger : (l : Ledger) (rev : Rev) (log : List Entry) → StandsFor l log → is_some (get rev_cmp l.revisions rev) ≡ list_any (λ (N : Intent). same_rev N.rev rev) (commits_in log)
commit_of_ledger l rev log stands = stands.revisions rev

-- a range that is refused isn't the next one of a session that is connected
pub range_refused : (l : Ledger) (s : ℕ) (ids : IdRange) (f : IdFault) (log : List Entry) → StandsFor l log → is_connected s log ≡ true → after_finalising ids (ids_of l.ids) ≡ Err f → is_next_range log s ids ≡ false
range_refused l s ids f log stands on e = go (is_next_range log s ids) refl
  where
    T : Ids
    T = ids_of l.ids

    after : SessionIds → Result Ids IdFault
    after x = cond (is_next ids x) (Ok (record { sessions = slice_set T.sessions (ids.session - 1) (raise_to x (x.finalised + ids.count)); clusters = with_range ids T.clusters })) (Err (RangeOrder (x.finalised + 1)))

    least : 1 ≤ s
    least =
        let c = any-has (λ (t : ℕ). t == s) l.connected (stands.connected.each s ∙ on) in
        let same : c.0 ≡ s = the_same c.0 s c.2 in
        subst (λ n. 1 ≤ n) same (stands.connected.some c.0 c.1)
      where
        the_same : (a b : ℕ) → (a == b) ≡ true → a ≡ b
        the_same a b e = grind (arith, nat_tests, e)

    refuted : (x : SessionIds) → session_of T.sessions ids.session ≡ Some x → is_next ids x ≡ true → ⊥
    refuted x known next =
        let done : ◌≡◌ {A = Result Ids IdFault} (Ok (record { sessions = slice_set T.sessions (ids.session - 1) (raise_to x (x.finalised + ids.count)); clusters = with_range ids T.clusters })) (Err f) =
        sym (ap (λ b. cond b (Ok (record { sessions = slice_set T.sessions (ids.session - 1) (raise_to x (x.finalised + ids.count)); clusters = with_range ids T.clusters })) (Err (RangeOrder (x.finalised + 1)))) next)
        ∙ sym (ap (λ o. on_session o after) known) ∙ e in
        cc

    found : (o : Option SessionIds) → slice_get T.sessions (s - 1) ≡ o → ids.session ≡ s → ((ids.first == carried_in log s + 1) && nat_le (carried_in log s + ids.count) most_ids) ≡ true → ⊥
    found None g same h =
        let many : length T.sessions ≤ s - 1 = past T.sessions (s - 1) g in
        let count = stands.sessions.count in
        let low = known_session log s on in
        let one = least in
        absurd (omega (arith, many, count, low, one))
    found (Some x) g same h =
        let one = least in
        let some : (s == 0) ≡ false = grind (arith, nat_tests, one) in
        let there : session_of T.sessions s ≡ Some x = ap (λ b. cond b None (slice_get T.sessions (s - 1))) some ∙ g in
        let carried : x.finalised ≡ carried_in log s = stands.ids.finalised s x there in
        refuted x (ap (session_of T.sessions) same ∙ there) (ap (λ n. (ids.first == n + 1) && nat_le (n + ids.count) most_ids) carried ∙ h)

    go : (b : Bool) → is_next_range log s ids ≡ b → is_next_range log s ids ≡ false
    go false h = h
    go true h =
        let p = and-true (ids.session == s) ((ids.first == carried_in log s + 1) && nat_le (carried_in log s + ids.count) most_ids) h in
        let same : ids.session ≡ s = grind (arith, nat_tests, p.0) in
        absurd (found (slice_get T.sessions (s - 1)) refl same p.1)
