-- The order in which the spans of the sessions begin, and what is looked up in it.
use Rattle.std.proofs.Common.{◌≡◌, ◌⊎◌, inl, inr, ◌<◌, ◌≤◌, ◌+◌, ◌-◌, ◌^◌, ℕ, true, false, Bool, cond, List, [], ◌∷◌, ◌++◌, length, get_or, set, refl, sym, subst, ap, ◌∙◌, arith, length-set, Option, Some, None, MatchOption}
use Rattle.std.proofs.lemmas.Bool.{cases_eq, cases_lt, cases_Bool}
use Rattle.std.proofs.lemmas.Bool.Decides.{nat_tests}
use Rattle.std.proofs.lemmas.List.{get_or_append_left, get_or_push, length_push}
use Rattle.std.proofs.lemmas.List.Edits.{get_or-insert_at, get_or-insert_below, get_or-insert_above, length-insert}
use Rattle.std.proofs.lemmas.List.Sums.{fails_before_first, passes_at_first, position_or_len_is, prefix_len-le-length}
use Rattle.std.proofs.lemmas.Option.{slice_get-get_or}
use Rattle.std.specs.Prelude.{nat_lt, ◌||◌, ◌==◌, min}
use Rattle.std.specs.List.{insert, position_or_len}
use Rattle.std.specs.List.Sorted.{IsPartitionedBy, IsPartitionPoint}
use Rattle.st_clusters.specs.Free.{free_number, ahead, free_after, spans_meet}
use Rattle.st_clusters.specs.Table.{no_session, last_of, session_meeting, new_session}
use Rattle.st_clusters.specs.inside.Kept.{session_at, start, turn, AreInOrder, IsSound}
use Rattle.st_clusters.specs.inside.Spans.{session_spanning, starts_by, StartBy, IsNearest}
use Rattle.st_ids.specs.Order.{lesser}
use Rattle.st_clusters.specs.declared.ids.Cluster.{Cluster}
use Rattle.st_clusters.specs.declared.ids.SessionIds.{SessionIds}
use Rattle.st_clusters.proofs.Counts.{field_set, read_at}
use Rattle.st_clusters.proofs.Finding.{any_default}
use Rattle.st_clusters.proofs.Rounds.{meets_by_ends, nearer_below, nearer_round, free_low}
use Rattle.st_clusters.proofs.Stable.{one_span}

-- ## The order

-- where a session stands in the order
turn_of : (ss : List SessionIds) (os : List ℕ) (k : ℕ) → AreInOrder ss os → k < length ss → (i : ℕ) × (i < length os) × (get_or os i 0 ≡ k)
turn_of ss os k order h =
    let here : turn os k < length os = order.every k h in
    let is : (get_or os (turn os k) 0 == k) ≡ true = passes_at_first (λ (o : ℕ). o == k) os 0 here in
    (turn os k, here, grind (arith, nat_tests, is))

has_turn : (os : List ℕ) (k i : ℕ) → i < length os → get_or os i 0 ≡ k → turn os k < length os
has_turn os k i within is = elim (cases_lt i (turn os k)) [
  | inl l ↦
      let fails : (get_or os i 0 == k) ≡ false = fails_before_first (λ (o : ℕ). o == k) os i 0 l in
      absurd (grind (arith, nat_tests, fails, is))
  | inr g ↦ omega (arith, g, within)
]

-- sessions whose UUIDs stay
pub order_kept : (ss : List SessionIds) (os : List ℕ) (k : ℕ) (x y : SessionIds) → AreInOrder ss os → k < length ss → x ≡ get_or ss k x → y.uuid ≡ x.uuid → AreInOrder (set ss k y) os
order_kept ss os k x y order within is uuid =
    let here : session_at ss k ≡ x = read_at ss k x within is in
    let same : (j : ℕ) → start (set ss k y) j ≡ start ss j = λ j. field_set (λ z. free_number z.uuid) ss k y j within (ap (λ (u : ℕ). free_number u) (uuid ∙ sym (ap (λ (z : SessionIds). z.uuid) here))) in
    let long : length (set ss k y) ≡ length ss = length-set ss k y in
    record {
      each = order.each ∙ sym long;
      there = λ i h. rw long (order.there i h);
      rise = λ i j l h. rw (same (get_or os i 0), same (get_or os j 0)) (order.rise i j l h);
      every = λ j h. order.every j (omega (arith, long, h));
    }

-- a list after one is put in at a place
put_in : (Q : ℕ → ℕ → Type 0) (os : List ℕ) (n k j : ℕ) → n ≤ length os → (j < n → Q j (get_or os j 0)) → (j ≡ n → Q n k) → ((i : ℕ) → j ≡ i + 1 → n ≤ i → Q (i + 1) (get_or os i 0)) → Q j (get_or (insert os n k) j 0)
put_in Q os n k j within low here high = elim (cases_lt j n) [
  | inl l ↦ subst (Q j) (sym (get_or-insert_below os n k 0 j l within)) (low l)
  | inr g ↦ elim (cases_eq j n) [
    | inl e ↦ subst (λ (i : ℕ). Q i (get_or (insert os n k) i 0)) (sym e) (subst (Q n) (sym (get_or-insert_at os n k 0 within)) (here e))
    | inr ne ↦
        let back : j ≡ j - 1 + 1 = omega (arith, g, ne) in
        subst (λ (i : ℕ). Q i (get_or (insert os n k) i 0)) (sym back)
        (subst (Q (j - 1 + 1)) (sym (get_or-insert_above os n k 0 (j - 1) (omega (arith, g, ne)) within)) (high (j - 1) back (omega (arith, g, ne))))
  ]
]

-- a session that joins stands behind those whose spans begin with its first number or before
pub order_joined : (ss after : List SessionIds) (os qs : List ℕ) (uuid free n k : ℕ) → AreInOrder ss os → StartBy ss os free n → free ≡ free_number uuid → k ≡ length ss → after ≡ ss ++ new_session uuid ∷ [] → qs ≡ insert os n k → AreInOrder after qs
order_joined ss after os qs uuid free n k order count is end joined put =
    let long : length (ss ++ new_session uuid ∷ []) ≡ length ss + 1 = length_push ss (new_session uuid) in
    let more : length (insert os n k) ≡ length os + 1 = length-insert os n k count.within in
    let old : (j : ℕ) → j < length ss → start (ss ++ new_session uuid ∷ []) j ≡ start ss j = λ j h. ap (λ (x : SessionIds). free_number x.uuid) (get_or_append_left ss (new_session uuid ∷ []) no_session j h) in
    let new : start (ss ++ new_session uuid ∷ []) k ≡ free = ap (λ (x : SessionIds). free_number x.uuid) (get_or_push ss (new_session uuid) no_session k (sym end)) ∙ sym is in
    let old_at : (i : ℕ) → i < length os → start (ss ++ new_session uuid ∷ []) (get_or os i 0) ≡ start ss (get_or os i 0) = λ i h. old (get_or os i 0) (order.there i h) in
    rw (joined, put) (record {
      each = omega (arith, long, more, order.each);
      there = λ i h. put_in (λ j o. o < length (ss ++ new_session uuid ∷ [])) os n k i count.within
          (λ l. let t : get_or os i 0 < length ss = order.there i (omega (arith, l, count.within)) in omega (arith, t, long))
          (λ e. omega (arith, end, long))
          (λ j e g. let t : get_or os j 0 < length ss = order.there j (omega (arith, e, h, more)) in omega (arith, t, long));
      rise = λ i j l h. put_in (λ a o. a < j → start (ss ++ new_session uuid ∷ []) o ≤ start (ss ++ new_session uuid ∷ []) (get_or (insert os n k) j 0)) os n k i count.within
          (λ m less. put_in (λ b o. i < b → start (ss ++ new_session uuid ∷ []) (get_or os i 0) ≤ start (ss ++ new_session uuid ∷ []) o) os n k j count.within
          (λ p q. let r : start ss (get_or os i 0) ≤ start ss (get_or os j 0) = order.rise i j q (omega (arith, p, count.within)) in rw (old_at i (omega (arith, m, count.within)), old_at j (omega (arith, p, count.within))) r)
          (λ e q. rw (old_at i (omega (arith, m, count.within)), new) (count.before i m))
          (λ b e g q. let r : start ss (get_or os i 0) ≤ start ss (get_or os b 0) = order.rise i b (omega (arith, m, g)) (omega (arith, e, h, more)) in rw (old_at i (omega (arith, m, count.within)), old_at b (omega (arith, e, h, more))) r)
          less)
          (λ e less. put_in (λ b o. n < b → start (ss ++ new_session uuid ∷ []) k ≤ start (ss ++ new_session uuid ∷ []) o) os n k j count.within
          (λ p q. absurd (omega (arith, p, q)))
          (λ f q. omega arith)
          (λ b f g q. let r : free < start ss (get_or os b 0) = count.after b g (omega (arith, f, h, more)) in rw (new, old_at b (omega (arith, f, h, more))) (omega (arith, r)))
          (omega (arith, e, l)))
          (λ a e g less. put_in (λ b o. a + 1 < b → start (ss ++ new_session uuid ∷ []) (get_or os a 0) ≤ start (ss ++ new_session uuid ∷ []) o) os n k j count.within
          (λ p q. absurd (omega (arith, p, q, g)))
          (λ f q. absurd (omega (arith, f, q, g)))
          (λ b f m q. let r : start ss (get_or os a 0) ≤ start ss (get_or os b 0) = order.rise a b (omega (arith, f, q)) (omega (arith, f, h, more)) in rw (old_at a (omega (arith, f, q, h, more)), old_at b (omega (arith, f, h, more))) r)
          (omega (arith, e, l)))
          l;
      every = λ j h. elim (cases_lt j (length ss)) [
        | inr g ↦ has_turn (insert os n k) j n (omega (arith, more, count.within)) (get_or-insert_at os n k 0 count.within ∙ omega (arith, g, h, long, end))
        | inl l ↦ let has : (i : ℕ) × (i < length os) × (get_or os i 0 ≡ j) = turn_of ss os j order l in
            elim (cases_lt has.0 n) [
              | inl m ↦ has_turn (insert os n k) j has.0 (omega (arith, more, has.1)) (get_or-insert_below os n k 0 has.0 m count.within ∙ has.2)
              | inr m ↦ has_turn (insert os n k) j (has.0 + 1) (omega (arith, more, has.1)) (get_or-insert_above os n k 0 has.0 m count.within ∙ has.2)
            ]
      ];
    })

-- ## How many begin before

pub starts_in_turn : (ss : List SessionIds) (os : List ℕ) (free : ℕ) → AreInOrder ss os → IsPartitionedBy (starts_by ss free) os
starts_in_turn ss os free order i j d le h holds = elim (cases_eq i j) [
  | inl e ↦ rw e holds
  | inr ne ↦
      let within : i < length os = omega (arith, le, h) in
      let at_i : get_or os i d ≡ get_or os i 0 = any_default os i d 0 within in
      let at_j : get_or os j d ≡ get_or os j 0 = any_default os j d 0 h in
      let here : starts_by ss free (get_or os j 0) ≡ true = rw at_j at holds in
      let low : start ss (get_or os j 0) ≤ free = grind (arith, nat_tests, here) in
      let rise : start ss (get_or os i 0) ≤ start ss (get_or os j 0) = order.rise i j (omega (arith, le, ne)) h in
      let inside : get_or os i 0 < length ss = order.there i within in
      let before : start ss (get_or os i 0) ≤ free = omega (arith, rise, low) in
      rw at_i (grind (arith, nat_tests, inside, before))
]

pub start_by-count : (ss : List SessionIds) (os : List ℕ) (free n : ℕ) → AreInOrder ss os → IsPartitionPoint (λ y. starts_by ss free y ≡ true) (λ y. starts_by ss free y ≡ false) os n → n ≤ length os → StartBy ss os free n
start_by-count ss os free n order point within = record {
  within = within;
  before = λ i h. let passes : starts_by ss free (get_or os i 0) ≡ true = point.0 i 0 (omega arith) h in grind (arith, nat_tests, passes);
  after = λ i le h.
      let fails : starts_by ss free (get_or os i 0) ≡ false = point.1 i 0 le h in
      let inside : get_or os i 0 < length ss = order.there i h in
      grind (arith, nat_tests, fails, inside);
}

-- ## The nearest

-- the span of a session begins no later than that of one that stands behind it in the order
no_later : (ss : List SessionIds) (os : List ℕ) (i j : ℕ) → AreInOrder ss os → i ≤ j → j < length os → start ss (get_or os i 0) ≤ start ss (get_or os j 0)
no_later ss os i j order le h = elim (cases_eq i j) [
  | inl e ↦ rw e (omega arith)
  | inr ne ↦ order.rise i j (omega (arith, le, ne)) h
]

pub nearest_before : (ss : List SessionIds) (os : List ℕ) (free n : ℕ) → AreInOrder ss os → ((k : ℕ) → k < length ss → (session_at ss k).uuid < 2 ^ 128) → free < 2 ^ 122 → StartBy ss os free n → 0 < n → IsNearest ss free (get_or os (n - 1) 0)
nearest_before ss os free n order wide low count some =
    let last : n - 1 < length os = omega (arith, count.within, some) in
    let there : get_or os (n - 1) 0 < length ss = order.there (n - 1) last in
    let begins : start ss (get_or os (n - 1) 0) ≤ free = count.before (n - 1) (omega (arith, some)) in
    record {
      there = there;
      nearest = λ k h.
          let has : (i : ℕ) × (i < length os) × (get_or os i 0 ≡ k) = turn_of ss os k order h in
          let bound : start ss k < 2 ^ 122 = free_low (session_at ss k).uuid (wide k h) in
          let bound_last : start ss (get_or os (n - 1) 0) < 2 ^ 122 = free_low (session_at ss (get_or os (n - 1) 0)).uuid (wide (get_or os (n - 1) 0) there) in
          elim (cases_lt has.0 n) [
            | inl l ↦
                let rise : start ss (get_or os has.0 0) ≤ start ss (get_or os (n - 1) 0) = no_later ss os has.0 (n - 1) order (omega (arith, l)) last in
                let at_k : start ss k ≤ start ss (get_or os (n - 1) 0) = rw has.2 at rise in
                nearer_below (start ss (get_or os (n - 1) 0)) (start ss k) free bound_last bound low begins (inl at_k)
            | inr g ↦
                let past : free < start ss (get_or os has.0 0) = count.after has.0 g has.1 in
                let at_k : free < start ss k = rw has.2 at past in
                nearer_below (start ss (get_or os (n - 1) 0)) (start ss k) free bound_last bound low begins (inr at_k)
          ];
    }

pub nearest_round : (ss : List SessionIds) (os : List ℕ) (free n : ℕ) → AreInOrder ss os → ((k : ℕ) → k < length ss → (session_at ss k).uuid < 2 ^ 128) → free < 2 ^ 122 → StartBy ss os free n → n ≡ 0 → 0 < length os → IsNearest ss free (get_or os (length os - 1) 0)
nearest_round ss os free n order wide low count none some =
    let last : length os - 1 < length os = omega (arith, some) in
    let there : get_or os (length os - 1) 0 < length ss = order.there (length os - 1) last in
    let past : free < start ss (get_or os (length os - 1) 0) = count.after (length os - 1) (omega (arith, none)) last in
    record {
      there = there;
      nearest = λ k h.
          let has : (i : ℕ) × (i < length os) × (get_or os i 0 ≡ k) = turn_of ss os k order h in
          let bound : start ss k < 2 ^ 122 = free_low (session_at ss k).uuid (wide k h) in
          let bound_last : start ss (get_or os (length os - 1) 0) < 2 ^ 122 = free_low (session_at ss (get_or os (length os - 1) 0)).uuid (wide (get_or os (length os - 1) 0) there) in
          let rise : start ss (get_or os has.0 0) ≤ start ss (get_or os (length os - 1) 0) = no_later ss os has.0 (length os - 1) order (omega (arith, has.1)) last in
          let at_k : start ss k ≤ start ss (get_or os (length os - 1) 0) = rw has.2 at rise in
          let after : free < start ss (get_or os has.0 0) = count.after has.0 (omega (arith, none)) has.1 in
          let after_k : free < start ss k = rw has.2 at after in
          nearer_round (start ss (get_or os (length os - 1) 0)) (start ss k) free bound_last bound low past after_k at_k;
    }

no_sessions : (ss : List SessionIds) → length ss ≡ 0 → ss ≡ []
no_sessions [] e = refl
no_sessions (x ∷ xs) e = absurd (omega (arith, e))

pub nearest_last : (ss : List SessionIds) (os slice : List ℕ) (free n : ℕ) (o : Option ℕ) → AreInOrder ss os → ((k : ℕ) → k < length ss → (session_at ss k).uuid < 2 ^ 128) → free < 2 ^ 122 → StartBy ss os free n → n ≡ 0 → slice ≡ os → o ≡ last_of slice
    → MatchOption o (ss ≡ []) (λ i. IsNearest ss free i)
nearest_last ss [] slice free n o order wide low count none is last = rw (last, is) (no_sessions ss (sym order.each))
nearest_last ss (p ∷ ps) slice free n o order wide low count none is last =
    rw (last, is, slice_get-get_or (p ∷ ps) (length (p ∷ ps) - 1) 0 (omega arith)) (nearest_round ss (p ∷ ps) free n order wide low count none (omega arith))

-- ## The span

pub spans_at : (ss : List SessionIds) (cs : List Cluster) (ps : List (List ℕ)) (free i : ℕ) (x : SessionIds) → IsSound ss cs ps → free < 2 ^ 122 → IsNearest ss free i → x ≡ get_or ss i x → ahead (free_number x.uuid) free < 2 ^ 32 → session_spanning free ss ≡ Some i
spans_at ss cs ps free i x sound low near read less =
    let here : session_at ss i ≡ x = read_at ss i x near.there read in
    let within : ahead (start ss i) free < 2 ^ 32 = rw (sym here) at less in
    let first : position_or_len (λ (y : SessionIds). nat_lt (ahead (free_number y.uuid) free) (2 ^ 32)) ss ≡ i =
    position_or_len_is (λ (y : SessionIds). nat_lt (ahead (free_number y.uuid) free) (2 ^ 32)) ss i no_session (omega (arith, near.there))
    (λ k h. elim (cases_Bool (nat_lt (ahead (start ss k) free) (2 ^ 32))) [
      | inl t ↦
          let also : ahead (start ss k) free < 2 ^ 32 = grind (arith, nat_tests, t) in
          let same : k ≡ i = one_span ss cs ps k i free sound (omega (arith, h, near.there)) near.there low also within in
          absurd (omega (arith, same, h))
      | inr f ↦ f
    ])
    (λ h. grind (arith, nat_tests, within)) in
    let test : nat_lt i (length ss) ≡ true = grind (arith, nat_tests, near.there) in
    rw (first, test) refl

pub spans_nowhere : (ss : List SessionIds) (free : ℕ) → ((k : ℕ) → k < length ss → 2 ^ 32 ≤ ahead (start ss k) free) → session_spanning free ss ≡ None
spans_nowhere ss free far =
    let first : position_or_len (λ (y : SessionIds). nat_lt (ahead (free_number y.uuid) free) (2 ^ 32)) ss ≡ length ss =
    position_or_len_is (λ (y : SessionIds). nat_lt (ahead (free_number y.uuid) free) (2 ^ 32)) ss (length ss) no_session (omega arith)
    (λ k h. let past : 2 ^ 32 ≤ ahead (start ss k) free = far k h in grind (arith, nat_tests, past))
    (λ h. absurd (omega (arith, h))) in
    let test : nat_lt (length ss) (length ss) ≡ false = grind (arith, nat_tests) in
    rw (first, test) refl

pub spans_far : (ss : List SessionIds) (free i : ℕ) (x : SessionIds) → IsNearest ss free i → x ≡ get_or ss i x → 2 ^ 32 ≤ ahead (free_number x.uuid) free → session_spanning free ss ≡ None
spans_far ss free i x near read more =
    let here : session_at ss i ≡ x = read_at ss i x near.there read in
    let past : 2 ^ 32 ≤ ahead (start ss i) free = rw (sym here) at more in
    spans_nowhere ss free (λ k h. omega (arith, past, near.nearest k h))

-- ## The meeting

either : (a b : Bool) → (a ≡ true) ⊎ (b ≡ true) → (a || b) ≡ true
either true b h = refl
either false b (inl e) = cc
either false b (inr e) = e

-- the first place where one of two tests passes
first_of_two : {X : Type 0} (p q r : X → Bool) (xs : List X) (d : X) → ((k : ℕ) → k < length xs → r (get_or xs k d) ≡ (p (get_or xs k d) || q (get_or xs k d))) → position_or_len p xs ≤ length xs → position_or_len q xs ≤ length xs
    → position_or_len r xs ≡ min (position_or_len p xs) (position_or_len q xs)
first_of_two p q r xs d same lp lq = position_or_len_is r xs (min (position_or_len p xs) (position_or_len q xs)) d (omega (arith, lp))
    (λ k h.
    let no_p : p (get_or xs k d) ≡ false = fails_before_first p xs k d (omega (arith, h)) in
    let no_q : q (get_or xs k d) ≡ false = fails_before_first q xs k d (omega (arith, h)) in
    rw (same k (omega (arith, h, lp)), no_p, no_q) refl)
    (λ h. elim (cases_lt (position_or_len q xs) (position_or_len p xs)) [
      | inl l ↦
          let e : min (position_or_len p xs) (position_or_len q xs) ≡ position_or_len q xs = omega (arith, l) in
          let yes : q (get_or xs (position_or_len q xs) d) ≡ true = passes_at_first q xs d (omega (arith, h, e)) in
          let there : r (get_or xs (position_or_len q xs) d) ≡ (p (get_or xs (position_or_len q xs) d) || q (get_or xs (position_or_len q xs) d)) = same (position_or_len q xs) (omega (arith, h, e)) in
          rw e (there ∙ either (p (get_or xs (position_or_len q xs) d)) (q (get_or xs (position_or_len q xs) d)) (inr yes))
      | inr g ↦
          let e : min (position_or_len p xs) (position_or_len q xs) ≡ position_or_len p xs = omega (arith, g) in
          let yes : p (get_or xs (position_or_len p xs) d) ≡ true = passes_at_first p xs d (omega (arith, h, e)) in
          let there : r (get_or xs (position_or_len p xs) d) ≡ (p (get_or xs (position_or_len p xs) d) || q (get_or xs (position_or_len p xs) d)) = same (position_or_len p xs) (omega (arith, h, e)) in
          rw e (there ∙ either (p (get_or xs (position_or_len p xs) d)) (q (get_or xs (position_or_len p xs) d)) (inl yes))
    ])

-- the first session that has a free number in its span, or the number of all
abbrev first_span : ℕ → List SessionIds → ℕ
first_span free ss = position_or_len (λ (x : SessionIds). nat_lt (ahead (free_number x.uuid) free) (2 ^ 32)) ss

-- the first session that meets a span has its first number or its last
meets_first : (ss : List SessionIds) (uuid first last : ℕ) → ((k : ℕ) → k < length ss → (session_at ss k).uuid < 2 ^ 128) → uuid < 2 ^ 128 → first ≡ free_number uuid → last ≡ free_after first (2 ^ 32 - 1)
    → position_or_len (λ (x : SessionIds). spans_meet (free_number x.uuid) (free_number uuid)) ss ≡ min (first_span first ss) (first_span last ss)
meets_first ss uuid first last wide fits is ends = first_of_two (λ (x : SessionIds). nat_lt (ahead (free_number x.uuid) first) (2 ^ 32)) (λ (x : SessionIds). nat_lt (ahead (free_number x.uuid) last) (2 ^ 32))
    (λ (x : SessionIds). spans_meet (free_number x.uuid) (free_number uuid)) ss no_session
    (λ k h. rw (ends, is) (meets_by_ends (start ss k) (free_number uuid) (free_low (session_at ss k).uuid (wide k h)) (free_low uuid fits)))
    (prefix_len-le-length _ ss) (prefix_len-le-length _ ss)

-- a place that is given where it is below a length
abbrev below : ℕ → ℕ → Option ℕ
below n i = cond (nat_lt i n) (Some i) None

least_below : (n a b : ℕ) → below n (min a b) ≡ lesser (below n a) (below n b)
least_below n a b = elim (cases_lt a n) [
  | inl l ↦ elim (cases_lt b n) [
    | inl m ↦
        let one : nat_lt a n ≡ true = grind (arith, nat_tests, l) in
        let two : nat_lt b n ≡ true = grind (arith, nat_tests, m) in
        let both : min a b < n = omega (arith, l) in
        let all : nat_lt (min a b) n ≡ true = grind (arith, nat_tests, both) in
        rw (one, two, all) refl
    | inr m ↦
        let one : nat_lt a n ≡ true = grind (arith, nat_tests, l) in
        let two : nat_lt b n ≡ false = grind (arith, nat_tests, m) in
        let same : min a b ≡ a = omega (arith, l, m) in
        rw (same, one, two) refl
  ]
  | inr l ↦ elim (cases_lt b n) [
    | inl m ↦
        let one : nat_lt a n ≡ false = grind (arith, nat_tests, l) in
        let same : min a b ≡ b = omega (arith, l, m) in
        rw (same, one) refl
    | inr m ↦
        let one : nat_lt a n ≡ false = grind (arith, nat_tests, l) in
        let two : nat_lt b n ≡ false = grind (arith, nat_tests, m) in
        let both : n ≤ min a b = omega (arith, l, m) in
        let all : nat_lt (min a b) n ≡ false = grind (arith, nat_tests, both) in
        rw (one, two, all) refl
  ]
]

pub meeting_least : (ss : List SessionIds) (uuid first last : ℕ) → ((k : ℕ) → k < length ss → (session_at ss k).uuid < 2 ^ 128) → uuid < 2 ^ 128 → first ≡ free_number uuid → last ≡ free_after first (2 ^ 32 - 1)
    → session_meeting uuid ss ≡ lesser (session_spanning first ss) (session_spanning last ss)
meeting_least ss uuid first last wide fits is ends = ap (λ (i : ℕ). below (length ss) i) (meets_first ss uuid first last wide fits is ends) ∙ least_below (length ss) (first_span first ss) (first_span last ss)
