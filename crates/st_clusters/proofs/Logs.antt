-- The clusters that the ranges of a log make.
use Rattle.std.proofs.Common.{◌≡◌, ◌≢◌, inl, inr, ◌<◌, ◌≤◌, ◌+◌, ◌-◌, ℕ, true, false, cond, List, [], ◌∷◌, ◌++◌, length, set, refl, sym, subst, ap, ◌∙◌, arith, length-set}
use Rattle.std.proofs.lemmas.List.{get_or_push, length_push, get_or-set_same, get_or-set_other, append_assoc, append-nil}
use Rattle.std.proofs.lemmas.List.Sums.{sum_by_push, fold-append}
use Rattle.std.proofs.lemmas.Bool.{cases_eq, cases_lt}
use Rattle.std.proofs.lemmas.Bool.Decides.{nat_tests}
use Rattle.std.specs.Prelude.{◌==◌}
use Rattle.std.specs.List.{fold}
use Rattle.st_ids.specs.declared.names.Rev.{Rev}
use Rattle.st_clusters.specs.Table.{at, no_cluster, room, new_cluster, with_more, with_growth, with_range, table_of}
use Rattle.st_clusters.specs.Names.{IsInTable, IsFinal, IsFinalBefore, is_of, is_later}
use Rattle.st_clusters.specs.Log.{carried_count, GoOn, AreInTurn}
use Rattle.st_clusters.specs.inside.Kept.{AreApart, IsLastOf}
use Rattle.st_clusters.specs.declared.ids.Cluster.{Cluster}
use Rattle.st_clusters.specs.declared.ids.IdRange.{IdRange}
use Rattle.st_clusters.proofs.Clusters.{at_front, same_at}
use Rattle.st_clusters.proofs.Ranges.{range_cases}
use Rattle.st_clusters.proofs.Kept.{EndBefore, range_apart, range_ends}
use Rattle.st_clusters.proofs.Unique.{one_final}
use Rattle.st_clusters.proofs.Staying.{EndsAt, stays, new_is_of}

-- clusters that some ranges of the log made
pub record AreMadeBy (before : List IdRange) (cs : List Cluster) : Type 0 where
  pub apart : AreApart cs
  pub owned : (i : ℕ) → i < length cs → 1 ≤ (at cs i).session
  pub ends : (i : ℕ) → i < length cs → (at cs i).first + (at cs i).used ≤ carried_count (at cs i).session before + 1
  pub last : (s i : ℕ) → IsLastOf s cs i → (at cs i).first + (at cs i).used ≡ carried_count s before + 1

carried_more : (s : ℕ) (before : List IdRange) (q : IdRange) → carried_count s (before ++ q ∷ []) ≡ carried_count s before + cond (q.session == s) q.count 0
carried_more s before q = sum_by_push (λ (r : IdRange). cond (r.session == s) r.count 0) before q

pub carried_own : (s : ℕ) (before : List IdRange) (q : IdRange) → q.session ≡ s → carried_count s (before ++ q ∷ []) ≡ carried_count s before + q.count
carried_own s before q own = let test : (q.session == s) ≡ true = grind (arith, nat_tests, own) in carried_more s before q ∙ rw test refl

pub carried_other : (s : ℕ) (before : List IdRange) (q : IdRange) → q.session ≢ s → carried_count s (before ++ q ∷ []) ≡ carried_count s before
carried_other s before q other =
    let test : (q.session == s) ≡ false = grind (arith, nat_tests, other) in
    let zero_more : carried_count s before + 0 ≡ carried_count s before = omega arith in
    carried_more s before q ∙ rw test zero_more

carried_rises : (s : ℕ) (before : List IdRange) (q : IdRange) → carried_count s before ≤ carried_count s (before ++ q ∷ [])
carried_rises s before q = omega (arith, carried_more s before q)

-- the last cluster of a session, after another is set in the place of one
last_kept : (s : ℕ) (cs : List Cluster) (k : ℕ) (c : Cluster) (i : ℕ) → k < length cs → c.session ≡ (at cs k).session → IsLastOf s (set cs k c) i → IsLastOf s cs i
last_kept s cs k c i within same h =
    let long : length (set cs k c) ≡ length cs = length-set cs k c in
    let sessions : (j : ℕ) → (at (set cs k c) j).session ≡ (at cs j).session = λ j. same_at (λ x. x.session) cs k c j within same in
    record {
      there = omega (arith, long, h.there);
      own = sym (sessions i) ∙ h.own;
      last = λ j less g own. h.last j less (omega (arith, long, g)) (sessions j ∙ own);
    }

-- and after one is put behind the others
last_front : (s : ℕ) (cs : List Cluster) (c : Cluster) (i : ℕ) → i < length cs → IsLastOf s (cs ++ c ∷ []) i → IsLastOf s cs i × (c.session ≢ s)
last_front s cs c i within h =
    let long : length (cs ++ c ∷ []) ≡ length cs + 1 = length_push cs c in (
      record {
        there = within;
        own = ap (λ (x : Cluster). x.session) (sym (at_front cs c i within)) ∙ h.own;
        last = λ j less g own. h.last j less (omega (arith, long, g)) (ap (λ (x : Cluster). x.session) (at_front cs c j g) ∙ own);
      },
      λ own. h.last (length cs) within (omega (arith, long)) (ap (λ (x : Cluster). x.session) (get_or_push cs c no_cluster (length cs) refl) ∙ own),
    )

one_last : (s : ℕ) (cs : List Cluster) (i k : ℕ) → IsLastOf s cs i → IsLastOf s cs k → i ≡ k
one_last s cs i k h g = elim (cases_eq i k) [
  | inl e ↦ e
  | inr ne ↦ elim (cases_lt i k) [
    | inl l ↦ absurd (h.last k l g.there g.own)
    | inr m ↦ absurd (g.last i (omega (arith, m, ne)) h.there h.own)
  ]
]

-- where the last cluster of each session ends
abbrev Ends : List IdRange → List Cluster → Type 0
Ends before cs = (s i : ℕ) → IsLastOf s cs i → (at cs i).first + (at cs i).used ≡ carried_count s before + 1

-- a cluster with more ids is set, the last of the range's session
ends_set : (before : List IdRange) (q : IdRange) (cs : List Cluster) (k : ℕ) (c : Cluster) → Ends before cs → IsLastOf q.session cs k → c.session ≡ (at cs k).session → c.first ≡ (at cs k).first → c.used ≡ (at cs k).used + q.count → Ends (before ++ q ∷ []) (set cs k c)
ends_set before q cs k c ends mine session first used s i h =
    let old : IsLastOf s cs i = last_kept s cs k c i mine.there session h in
    elim (cases_eq i k) [
      | inl e ↦
          let own : q.session ≡ s = sym mine.own ∙ ap (λ (j : ℕ). (at cs j).session) (sym e) ∙ old.own in
          let end : (at cs i).first + (at cs i).used ≡ carried_count s before + 1 = ends s i old in
          let end_k : (at cs k).first + (at cs k).used ≡ carried_count s before + 1 = rw e at end in
          let more : carried_count s (before ++ q ∷ []) ≡ carried_count s before + q.count = carried_own s before q own in
          let here : at (set cs k c) i ≡ c = ap (λ (j : ℕ). at (set cs k c) j) e ∙ get_or-set_same cs k c no_cluster mine.there in
          rw here (omega (arith, end_k, more, first, used))
      | inr ne ↦
          let other : q.session ≢ s = λ own. ne (one_last s cs i k old (subst (λ (t : ℕ). IsLastOf t cs k) own mine)) in
          let same : carried_count s (before ++ q ∷ []) ≡ carried_count s before = carried_other s before q other in
          let end : (at cs i).first + (at cs i).used ≡ carried_count s before + 1 = ends s i old in
          rw (get_or-set_other cs k i c no_cluster ne) (omega (arith, end, same))
    ]

-- a cluster is put behind the others that ends where the range does; those before it hold what the log before the range says of the other sessions
ends_push : (before : List IdRange) (q : IdRange) (cs : List Cluster) (c : Cluster) → ((s i : ℕ) → q.session ≢ s → IsLastOf s cs i → (at cs i).first + (at cs i).used ≡ carried_count s before + 1) → c.session ≡ q.session → c.first + c.used ≡ carried_count q.session before + 1 + q.count → Ends (before ++ q ∷ []) (cs ++ c ∷ [])
ends_push before q cs c ends session end s i h = elim (cases_lt i (length cs)) [
  | inl l ↦
      let front = last_front s cs c i l h in
      let other : q.session ≢ s = λ own. front.1 (session ∙ own) in
      let same : carried_count s (before ++ q ∷ []) ≡ carried_count s before = carried_other s before q other in
      let old : (at cs i).first + (at cs i).used ≡ carried_count s before + 1 = ends s i other front.0 in
      rw (at_front cs c i l) (omega (arith, old, same))
  | inr g ↦
      let long : length (cs ++ c ∷ []) ≡ length cs + 1 = length_push cs c in
      let e : i ≡ length cs = omega (arith, g, long, h.there) in
      let here : at (cs ++ c ∷ []) i ≡ c = ap (λ (j : ℕ). at (cs ++ c ∷ []) j) e ∙ get_or_push cs c no_cluster (length cs) refl in
      let own : q.session ≡ s = sym session ∙ ap (λ (x : Cluster). x.session) (sym here) ∙ h.own in
      let more : carried_count s (before ++ q ∷ []) ≡ carried_count s before + q.count = carried_own s before q own in
      let of_q : carried_count q.session before ≡ carried_count s before = ap (λ (t : ℕ). carried_count t before) own in
      rw here (omega (arith, end, more, of_q))
]

ends_more : (before : List IdRange) (q : IdRange) (cs : List Cluster) → Ends before cs → q.first ≡ carried_count q.session before + 1 → Ends (before ++ q ∷ []) (with_range q cs)
ends_more before q cs ends next = range_cases (Ends (before ++ q ∷ [])) q cs
    (λ none s i h. let more : carried_count s (before ++ q ∷ []) ≡ carried_count s before + cond (q.session == s) q.count 0 = carried_more s before q in
    let zero_more : cond (q.session == s) q.count 0 ≡ 0 = elim (q.session == s) as (λ b. cond b q.count 0 ≡ 0) [ true ↦ none | false ↦ refl ] in
    let old : (at cs i).first + (at cs i).used ≡ carried_count s before + 1 = ends s i h in
    omega (arith, old, more, zero_more))
    (λ some none. ends_push before q cs (new_cluster cs q.session q.first q.count) (λ s i other h. ends s i h) refl (omega (arith, next)))
    (λ i some last fits. ends_set before q cs i (with_more (at cs i) q.count) ends last refl refl refl)
    (λ i last past end. ends_set before q cs i (with_growth (at cs i) q.count) ends last refl refl refl)
    (λ i last past inner. ends_push before q (set cs i (with_more (at cs i) (room (at cs i)))) (new_cluster cs q.session (q.first + room (at cs i)) (q.count - room (at cs i)))
    (λ s j other h.
    let old : IsLastOf s cs j = last_kept s cs i (with_more (at cs i) (room (at cs i))) j last.there refl h in
    let ne : j ≢ i = λ e. other (sym last.own ∙ ap (λ (k : ℕ). (at cs k).session) (sym e) ∙ old.own) in
    rw (get_or-set_other cs i j (with_more (at cs i) (room (at cs i))) no_cluster ne) (ends s j old))
    refl (omega (arith, next, past)))

pub made_more : (before : List IdRange) (q : IdRange) (cs : List Cluster) → AreMadeBy before cs → 1 ≤ q.session → q.first ≡ carried_count q.session before + 1 → AreMadeBy (before ++ q ∷ []) (with_range q cs)
made_more before q cs made session next =
    let end_before : EndBefore q cs = λ i h own.
    let e : (at cs i).first + (at cs i).used ≤ carried_count (at cs i).session before + 1 = made.ends i h in
    let of_q : carried_count (at cs i).session before ≡ carried_count q.session before = ap (λ (t : ℕ). carried_count t before) own in
    omega (arith, e, of_q, next) in
    let own_more : carried_count q.session (before ++ q ∷ []) ≡ carried_count q.session before + q.count = carried_own q.session before q refl in
    record {
      apart = range_apart q cs made.apart (omega (arith, next)) end_before;
      owned = range_ends (λ s e. 1 ≤ s) q cs end_before made.owned (λ e h. session);
      ends = range_ends (λ s e. e ≤ carried_count s (before ++ q ∷ []) + 1) q cs end_before
          (λ i h. omega (arith, made.ends i h, carried_rises (at cs i).session before q)) (λ e h. omega (arith, h, next, own_more));
      last = ends_more before q cs made.last next;
    }

pub ends_at : (before : List IdRange) (q : IdRange) (cs : List Cluster) → AreMadeBy before cs → q.first ≡ carried_count q.session before + 1 → EndsAt q cs
ends_at before q cs made next i h = made.last q.session i h ∙ sym next

-- ## Whole logs

-- the clusters after more ranges
abbrev pub after : List Cluster → List IdRange → List Cluster
after cs rs = fold (λ ds r. with_range r ds) cs rs

pub made_by_all : (before rs : List IdRange) (cs : List Cluster) → AreMadeBy before cs → GoOn before rs → AreMadeBy (before ++ rs) (after cs rs)
made_by_all before [] cs made on = rw (append-nil before) made
made_by_all before (r ∷ rs) cs made on =
    let all : AreMadeBy ((before ++ r ∷ []) ++ rs) (after (with_range r cs) rs) = made_by_all (before ++ r ∷ []) rs (with_range r cs) (made_more before r cs made on.0 on.1) on.2 in
    rw append_assoc at all

pub stays_after : (rs : List IdRange) (cs : List Cluster) (r : Rev) (n : ℕ) → IsInTable cs r n → IsInTable (after cs rs) r n
stays_after [] cs r n h = h
stays_after (q ∷ qs) cs r n h = stays_after qs (with_range q cs) r n (stays q cs r n h)

-- an id that ranges before carried is of none that comes later
none_of_later : (before later : List IdRange) (r : Rev) → GoOn before later → r.num ≤ carried_count r.session before → is_later later r ≡ false
none_of_later before [] r on low = refl
none_of_later before (q ∷ qs) r on low =
    let rest : is_later qs r ≡ false = none_of_later (before ++ q ∷ []) qs r on.2 (omega (arith, low, carried_rises r.session before q)) in
    let first : is_of r q ≡ false = elim (cases_eq q.session r.session) [
      | inl own ↦ let of_q : carried_count q.session before ≡ carried_count r.session before = ap (λ (t : ℕ). carried_count t before) own in
          let past : r.num < q.first = omega (arith, on.1, low, of_q) in grind (arith, nat_tests, past)
      | inr other ↦ grind (arith, nat_tests, other)
    ] in
    rw (first, rest) refl

pub in_carried : (before : List IdRange) (cs : List Cluster) (r : Rev) (n : ℕ) → AreMadeBy before cs → IsInTable cs r n → r.num ≤ carried_count r.session before
in_carried before cs r n made h =
    let e : (at cs h.place).first + (at cs h.place).used ≤ carried_count (at cs h.place).session before + 1 = made.ends h.place h.there in
    let of_r : carried_count (at cs h.place).session before ≡ carried_count r.session before = ap (λ (t : ℕ). carried_count t before) h.within.own in
    omega (arith, e, of_r, h.within.before)

pub was_before : (before later : List IdRange) (cs : List Cluster) (r : Rev) (n : ℕ) → AreMadeBy before cs → GoOn before later → IsFinal cs r n → IsFinalBefore (after cs later) later r n
was_before before later cs r n made on (inl h) = inl h
was_before before later cs r n made on (inr h) = inr (stays_after later cs r n h, none_of_later before later r on (in_carried before cs r n made h))

in_before : (before later : List IdRange) (cs : List Cluster) (r : Rev) (n : ℕ) → AreMadeBy before cs → GoOn before later → is_later later r ≡ false → IsInTable (after cs later) r n → IsInTable cs r n
in_before before [] cs r n made on test h = h
in_before before (q ∷ qs) cs r n made on test h =
    let none : is_of r q ≡ false = grind (arith, nat_tests, test) in
    let rest : is_later qs r ≡ false = rw none at test in
    let step : IsInTable (with_range q cs) r n = in_before (before ++ q ∷ []) qs (with_range q cs) r n (made_more before q cs made on.0 on.1) on.2 rest h in
    elim (new_is_of q cs r n (ends_at before q cs made on.1) step) [ inl old ↦ old | inr its ↦ cc (its, none) ]

pub is_before : (before later : List IdRange) (cs : List Cluster) (r : Rev) (n : ℕ) → AreMadeBy before cs → GoOn before later → IsFinalBefore (after cs later) later r n → IsFinal cs r n
is_before before later cs r n made on (inl h) = inl h
is_before before later cs r n made on (inr h) = inr (in_before before later cs r n made on h.1 h.0)

pub none_made : AreMadeBy [] []
none_made = record {
  apart = record {
    some = λ i h. absurd (omega (arith, h));
    fits = λ i h. absurd (omega (arith, h));
    numbers_begin = λ i h. absurd (omega (arith, h));
    ids_begin = λ i h. absurd (omega (arith, h));
    numbers = λ i j l h. absurd (omega (arith, h));
    ids = λ i j l h e. absurd (omega (arith, h));
  };
  owned = λ i h. absurd (omega (arith, h));
  ends = λ i h. absurd (omega (arith, h));
  last = λ s i h. absurd (omega (arith, h.there));
}

pub log_made : (rs : List IdRange) → AreInTurn rs → AreMadeBy rs (table_of rs)
log_made rs turn = made_by_all [] rs [] none_made turn

-- ranges that go on after others do so after the front of these
pub front_in_turn : (before rs more : List IdRange) → GoOn before (rs ++ more) → GoOn before rs × GoOn (before ++ rs) more
front_in_turn before [] more on = (tt, rw (append-nil before) on)
front_in_turn before (r ∷ rs) more on =
    let rest : GoOn (before ++ r ∷ []) rs × GoOn ((before ++ r ∷ []) ++ rs) more = front_in_turn (before ++ r ∷ []) rs more on.2 in
    ((on.0, on.1, rest.0), rw append_assoc at rest.1)

pub table_then : (rs later : List IdRange) → table_of (rs ++ later) ≡ after (table_of rs) later
table_then rs later = fold-append (λ ds r. with_range r ds) [] rs later

-- ## The laws

pub law_one_id : (rs : List IdRange) → AreInTurn rs → (r s : Rev) (n : ℕ) → IsFinal (table_of rs) r n → IsFinal (table_of rs) s n → r ≡ s
law_one_id rs turn r s n h k = one_final (table_of rs) r s n (log_made rs turn).apart h k

pub law_as_it_was : (rs later : List IdRange) → AreInTurn (rs ++ later) → (r : Rev) (n : ℕ) → (IsFinal (table_of rs) r n → IsFinalBefore (table_of (rs ++ later)) later r n) × (IsFinalBefore (table_of (rs ++ later)) later r n → IsFinal (table_of rs) r n)
law_as_it_was rs later turn r n =
    let parts : GoOn [] rs × GoOn rs later = front_in_turn [] rs later turn in
    let made : AreMadeBy rs (table_of rs) = log_made rs parts.0 in
    rw (table_then rs later) (was_before rs later (table_of rs) r n made parts.1, is_before rs later (table_of rs) r n made parts.1)
