-- What ranges that are added leave as it is.
use Rattle.std.proofs.Common.{◌≡◌, ◌⊎◌, inl, inr, ◌<◌, ◌≤◌, ◌+◌, ◌-◌, ℕ, true, List, [], ◌∷◌, ◌++◌, length, set, refl, sym, subst, ◌∙◌, arith, length-set}
use Rattle.std.proofs.lemmas.List.{length_push}
use Rattle.std.proofs.lemmas.Bool.{cases_lt}
use Rattle.std.proofs.lemmas.Bool.Decides.{nat_tests}
use Rattle.st_ids.specs.declared.names.Rev.{Rev}
use Rattle.st_clusters.specs.Table.{at, room, new_cluster, with_more, with_growth, with_range}
use Rattle.st_clusters.specs.Names.{IsInTable, IsWithin, IsFinal, is_of}
use Rattle.st_clusters.specs.inside.Kept.{IsLastOf}
use Rattle.st_clusters.specs.declared.ids.Cluster.{Cluster}
use Rattle.st_clusters.specs.declared.ids.IdRange.{IdRange}
use Rattle.st_clusters.proofs.Clusters.{at_set, at_push, at_front}
use Rattle.st_clusters.proofs.Ranges.{range_cases}

-- ## A number stays

stays_set : (cs : List Cluster) (i : ℕ) (c : Cluster) (r : Rev) (n : ℕ) → i < length cs → c.session ≡ (at cs i).session → c.first ≡ (at cs i).first → c.first_final ≡ (at cs i).first_final → (at cs i).used ≤ c.used → IsInTable cs r n → IsInTable (set cs i c) r n
stays_set cs i c r n within session first final more h = record {
  place = h.place;
  there = let long : length (set cs i c) ≡ length cs = length-set cs i c in omega (arith, long, h.there);
  within = at_set (λ k x. IsWithin (at cs k) r n → IsWithin x r n) cs i c h.place within
      (λ w. record { own = session ∙ w.own; from = omega (arith, first, w.from); before = omega (arith, first, more, w.before); number = omega (arith, first, final, w.number) })
      (λ w. w) h.within;
}

stays_push : (cs : List Cluster) (c : Cluster) (r : Rev) (n : ℕ) → IsInTable cs r n → IsInTable (cs ++ c ∷ []) r n
stays_push cs c r n h = record {
  place = h.place;
  there = let long : length (cs ++ c ∷ []) ≡ length cs + 1 = length_push cs c in omega (arith, long, h.there);
  within = subst (λ (x : Cluster). IsWithin x r n) (sym (at_front cs c h.place h.there)) h.within;
}

pub stays : (q : IdRange) (cs : List Cluster) (r : Rev) (n : ℕ) → IsInTable cs r n → IsInTable (with_range q cs) r n
stays q cs r n h = range_cases (λ ds. IsInTable ds r n) q cs
    (λ _. h)
    (λ some none. stays_push cs (new_cluster cs q.session q.first q.count) r n h)
    (λ i some last fits. stays_set cs i (with_more (at cs i) q.count) r n last.there refl refl refl (omega arith) h)
    (λ i last past end. stays_set cs i (with_growth (at cs i) q.count) r n last.there refl refl refl (omega arith) h)
    (λ i last past inner. stays_push (set cs i (with_more (at cs i) (room (at cs i)))) (new_cluster cs q.session (q.first + room (at cs i)) (q.count - room (at cs i))) r n
    (stays_set cs i (with_more (at cs i) (room (at cs i))) r n last.there refl refl refl (omega arith) h))

pub final_stays : (q : IdRange) (cs : List Cluster) (r : Rev) (n : ℕ) → IsFinal cs r n → IsFinal (with_range q cs) r n
final_stays q cs r n (inl h) = inl h
final_stays q cs r n (inr h) = inr (stays q cs r n h)

-- ## A new number is of the range

-- the clusters of a session end where a range begins
abbrev pub EndsAt : IdRange → List Cluster → Type 0
EndsAt q cs = (i : ℕ) → IsLastOf q.session cs i → (at cs i).first + (at cs i).used ≡ q.first

abbrev IsNew : IdRange → List Cluster → Rev → ℕ → Type 0
IsNew q cs r n = IsInTable cs r n ⊎ (is_of r q ≡ true)

of_range : (q : IdRange) (r : Rev) → q.session ≡ r.session → q.first ≤ r.num → r.num < q.first + q.count → is_of r q ≡ true
of_range q r session from before = grind (arith, nat_tests, session, from, before)

-- a cluster that has more ids
new_within : (q : IdRange) (cs : List Cluster) (i m : ℕ) (c : Cluster) (r : Rev) (n : ℕ) → EndsAt q cs → IsLastOf q.session cs i → m ≤ q.count → c.session ≡ (at cs i).session → c.first ≡ (at cs i).first → c.first_final ≡ (at cs i).first_final → c.used ≡ (at cs i).used + m → IsWithin c r n → IsNew q cs r n
new_within q cs i m c r n ends last few session first final used w = elim (cases_lt r.num ((at cs i).first + (at cs i).used)) [
  | inl l ↦ inl (record { place = i; there = last.there; within = record { own = sym session ∙ w.own; from = omega (arith, first, w.from); before = l; number = omega (arith, first, final, w.number) } })
  | inr g ↦ let end : (at cs i).first + (at cs i).used ≡ q.first = ends i last in
      inr (of_range q r (sym last.own ∙ sym session ∙ w.own) (omega (arith, g, end)) (omega (arith, end, few, used, first, w.before)))
]

new_set : (q : IdRange) (cs : List Cluster) (i m : ℕ) (c : Cluster) (r : Rev) (n j : ℕ) → EndsAt q cs → IsLastOf q.session cs i → m ≤ q.count → c.session ≡ (at cs i).session → c.first ≡ (at cs i).first → c.first_final ≡ (at cs i).first_final → c.used ≡ (at cs i).used + m
    → j < length (set cs i c) → IsWithin (at (set cs i c) j) r n → IsNew q cs r n
new_set q cs i m c r n j ends last few session first final used h w =
    at_set (λ k x. k < length cs → IsWithin x r n → IsNew q cs r n) cs i c j last.there
    (λ _ v. new_within q cs i m c r n ends last few session first final used v)
    (λ g v. inl (record { place = j; there = g; within = v }))
    (let long : length (set cs i c) ≡ length cs = length-set cs i c in omega (arith, long, h)) w

-- a new cluster
new_begun : (q : IdRange) (cs ds : List Cluster) (m : ℕ) (r : Rev) (n : ℕ) → m ≤ q.count → IsWithin (new_cluster ds q.session (q.first + m) (q.count - m)) r n → IsNew q cs r n
new_begun q cs ds m r n few w = inr (of_range q r w.own (omega (arith, w.from)) (omega (arith, few, w.before)))

pub new_is_of : (q : IdRange) (cs : List Cluster) (r : Rev) (n : ℕ) → EndsAt q cs → IsInTable (with_range q cs) r n → IsNew q cs r n
new_is_of q cs r n ends = range_cases (λ ds. IsInTable ds r n → IsNew q cs r n) q cs
    (λ _ h. inl h)
    (λ some none h. at_push (λ k x. IsWithin x r n → IsNew q cs r n) cs (new_cluster cs q.session q.first q.count) h.place h.there
    (λ w. inr (of_range q r w.own w.from w.before)) (λ g w. inl (record { place = h.place; there = g; within = w })) h.within)
    (λ i some last fits h. new_set q cs i q.count (with_more (at cs i) q.count) r n h.place ends last (omega arith) refl refl refl refl h.there h.within)
    (λ i last past end h. new_set q cs i q.count (with_growth (at cs i) q.count) r n h.place ends last (omega arith) refl refl refl refl h.there h.within)
    (λ i last past inner h. at_push (λ k x. IsWithin x r n → IsNew q cs r n) (set cs i (with_more (at cs i) (room (at cs i)))) (new_cluster cs q.session (q.first + room (at cs i)) (q.count - room (at cs i))) h.place h.there
    (λ w. new_begun q cs cs (room (at cs i)) r n (omega (arith, past)) w)
    (λ g w. new_set q cs i (room (at cs i)) (with_more (at cs i) (room (at cs i))) r n h.place ends last (omega (arith, past)) refl refl refl refl g w) h.within)
