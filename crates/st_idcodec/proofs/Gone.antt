-- The clusters of a table go behind each other, also after a further range.
use Rattle.std.proofs.Common.{◌≡◌, ◌≢◌, ◌⊎◌, inl, inr, ◌<◌, ◌≤◌, ◌+◌, ◌-◌, ℕ, zero, suc, true, false, refl, sym, subst, ap, ◌∙◌, arith, List, [], ◌∷◌, ◌++◌, length, set, length-set, Some}
use Rattle.std.proofs.lemmas.Bool.{cases_Bool, cases_eq, cases_lt}
use Rattle.std.proofs.lemmas.Bool.Decides.{nat_tests}
use Rattle.std.proofs.lemmas.List.{length_push, append_assoc, append-nil, get_or-set_same, get_or-set_other, get_or_push, set-append_left}
use Rattle.std.specs.Prelude.{◌==◌, nat_le}
use Rattle.st_clusters.specs.Table.{at, no_cluster, room, new_cluster, with_more, with_growth, put_at, with_range, places_of, last_of}
use Rattle.st_clusters.specs.inside.Kept.{IsLastOf}
use Rattle.st_clusters.specs.declared.ids.Cluster.{Cluster}
use Rattle.st_clusters.specs.declared.ids.IdRange.{IdRange}
use Rattle.st_clusters.proofs.Clusters.{at_front, places_set, last_is}
use Rattle.st_clusters.proofs.Ranges.{free_set, cases_option}
use Rattle.st_idcodec.proofs.Going.{used_of, used_grow, used_same, set_end, Begins, IsSize, Goes, AllGo}

-- ## One is put behind the others

push_go : (n : ℕ) (before cs : List Cluster) (c : Cluster) → AllGo n before cs → Goes n (before ++ cs) c → AllGo n before (cs ++ c ∷ [])
push_go n before [] c all goes = (subst (λ (ds : List Cluster). Goes n ds c) (append-nil before) goes, tt)
push_go n before (d ∷ cs) c all goes = (all.0, push_go n (before ++ d ∷ []) cs c all.1 (subst (λ (ds : List Cluster). Goes n ds c) (sym (append_assoc before (d ∷ []) cs)) goes))

-- ## One before them is set

-- clusters whose difference those of other sessions don't see
abbrev IsLike : Cluster → Cluster → Type 0
IsLike c x = (c.session ≡ x.session) × (c.first_final ≡ x.first_final) × (c.capacity ≡ x.capacity)

other_begins : (s : ℕ) (cs : List Cluster) (k : ℕ) (c : Cluster) → IsLike c (at cs k) → c.session ≢ s → Begins s cs → Begins s (set cs k c)
other_begins s cs k c like other (inl none) = inl (ap last_of (places_set s 0 k cs c like.0) ∙ none)
other_begins s cs k c like other (inr h) =
    let last : IsLastOf s cs h.0 = last_is s cs h.0 h.1 in
    let ne : h.0 ≢ k = λ e. other (like.0 ∙ ap (λ (j : ℕ). (at cs j).session) (sym e) ∙ last.own) in
    inr (h.0, ap last_of (places_set s 0 k cs c like.0) ∙ h.1, ap room (get_or-set_other cs k h.0 c no_cluster ne) ∙ h.2, λ e. h.3 (e ∙ length-set cs k c))

other_goes : (n : ℕ) (cs : List Cluster) (k : ℕ) (c d : Cluster) → k < length cs → IsLike c (at cs k) → d.session ≢ c.session → Goes n cs d → Goes n (set cs k c) d
other_goes n cs k c d within like other g = record {
  low = g.low;
  high = g.high;
  begins = other_begins d.session cs k c like (λ e. other (sym e)) g.begins;
  size = g.size;
  final = g.final ∙ sym (free_set cs k c within like.1 like.2);
  first = g.first ∙ ap (λ (m : ℕ). m + 1) (sym (used_same d.session cs k c within (λ e. other (sym e ∙ sym like.0)) like.0));
}

other_go : (n : ℕ) (before cs : List Cluster) (k : ℕ) (c : Cluster) → k < length before → IsLike c (at before k) → ((j : ℕ) → j < length cs → (at cs j).session ≢ c.session) → AllGo n before cs → AllGo n (set before k c) cs
other_go n before [] k c within like apart all = tt
other_go n before (d ∷ cs) k c within like apart all =
    let long : length (before ++ d ∷ []) ≡ length before + 1 = length_push before d in
    let rest : AllGo n (set (before ++ d ∷ []) k c) cs = other_go n (before ++ d ∷ []) cs k c (omega (arith, within, long)) (subst (IsLike c) (sym (at_front before d k within)) like) (λ j h. apart (suc j) (omega (arith, h))) all.1 in
    (other_goes n before k c d within like (apart 0 (omega arith)) all.0, subst (λ (ds : List Cluster). AllGo n ds cs) (set-append_left before (d ∷ []) k c within) rest)

-- ## One of them is set

same_goes : (n : ℕ) (before : List Cluster) (c d : Cluster) → c.session ≡ d.session → c.first ≡ d.first → c.first_final ≡ d.first_final → IsSize c → Goes n before d → Goes n before c
same_goes n before c d session first final size g = record {
  low = omega (arith, g.low, session);
  high = omega (arith, g.high, session);
  begins = subst (λ (s : ℕ). Begins s before) (sym session) g.begins;
  size = size;
  final = final ∙ g.final;
  first = first ∙ g.first ∙ ap (λ (s : ℕ). used_of s before + 1) (sym session);
}

none_go : (n : ℕ) (before cs : List Cluster) → length cs ≡ 0 → AllGo n before cs
none_go n before [] e = tt
none_go n before (c ∷ cs) e = absurd (omega (arith, e))

-- those behind one that is set
behind_go : (n : ℕ) (before cs : List Cluster) (c d : Cluster) → c.session ≡ d.session → c.first_final ≡ d.first_final → (c.capacity ≡ d.capacity) ⊎ (length cs ≡ 0) → ((j : ℕ) → j < length cs → (at cs j).session ≢ c.session)
    → AllGo n (before ++ d ∷ []) cs → AllGo n (before ++ c ∷ []) cs
behind_go n before cs c d session final (inr none) apart all = none_go n (before ++ c ∷ []) cs none
behind_go n before cs c d session final (inl capacity) apart all =
    let long : length (before ++ d ∷ []) ≡ length before + 1 = length_push before d in
    let here : at (before ++ d ∷ []) (length before) ≡ d = get_or_push before d no_cluster (length before) refl in
    subst (λ (ds : List Cluster). AllGo n ds cs) (set_end before d c) (other_go n (before ++ d ∷ []) cs (length before) c (omega (arith, long)) (subst (IsLike c) (sym here) (session, final, capacity)) apart all)

abbrev FitsAt : List Cluster → ℕ → Cluster → Type 0
FitsAt cs i c = (c.session ≡ (at cs i).session) × (c.first ≡ (at cs i).first) × (c.first_final ≡ (at cs i).first_final) × IsSize c × ((c.capacity ≡ (at cs i).capacity) ⊎ (i + 1 ≡ length cs))

end_left : (a b i : ℕ) (cs : List Cluster) → (a ≡ b) ⊎ (i + 1 ≡ suc (length cs)) → (a ≡ b) ⊎ (i ≡ length cs)
end_left a b i cs (inl e) = inl e
end_left a b i cs (inr e) = inr (omega (arith, e))

end_inner : (a b i : ℕ) (cs : List Cluster) → (a ≡ b) ⊎ (suc i + 1 ≡ suc (length cs)) → (a ≡ b) ⊎ (i + 1 ≡ length cs)
end_inner a b i cs (inl e) = inl e
end_inner a b i cs (inr e) = inr (omega (arith, e))

end_none : (a b : ℕ) (cs : List Cluster) → (a ≡ b) ⊎ (0 ≡ length cs) → (a ≡ b) ⊎ (length cs ≡ 0)
end_none a b cs (inl e) = inl e
end_none a b cs (inr e) = inr (sym e)

set_go : (n : ℕ) (before cs : List Cluster) (i : ℕ) (c : Cluster) → i < length cs → FitsAt cs i c → ((j : ℕ) → i < j → j < length cs → (at cs j).session ≢ c.session) → AllGo n before cs → AllGo n before (set cs i c)
set_go n before [] i c within fits apart all = absurd (omega (arith, within))
set_go n before (d ∷ cs) zero c within fits apart all = (
  same_goes n before c d fits.0 fits.1 fits.2 fits.3 all.0,
  behind_go n before cs c d fits.0 fits.2 (end_none c.capacity d.capacity cs (end_left c.capacity d.capacity 0 cs fits.4)) (λ j h. apart (suc j) (omega arith) (omega (arith, h))) all.1,
)
set_go n before (d ∷ cs) (suc i) c within fits apart all = (
  all.0,
  set_go n (before ++ d ∷ []) cs i c (omega (arith, within)) (fits.0, fits.1, fits.2, fits.3, end_inner c.capacity (at cs i).capacity i cs fits.4) (λ j less h. apart (suc j) (omega (arith, less)) (omega (arith, h))) all.1,
)

-- ## A further range

size_at : (n : ℕ) (before cs : List Cluster) (i : ℕ) → i < length cs → AllGo n before cs → IsSize (at cs i)
size_at n before [] i h all = absurd (omega (arith, h))
size_at n before (c ∷ cs) zero h all = all.0.size
size_at n before (c ∷ cs) (suc i) h all = size_at n (before ++ c ∷ []) cs i (omega (arith, h)) all.1

size_new : (cs : List Cluster) (s f k : ℕ) → 0 < k → IsSize (new_cluster cs s f k)
size_new cs s f k some = record {
  some = omega (arith, some);
  large = omega arith;
  full = elim (cases_lt k 512) [ inl l ↦ inr (omega (arith, l), inl (omega (arith, l))) | inr g ↦ inl (omega (arith, g)) ];
}

-- a cluster with more ids in its room
full_more : (c : Cluster) (k : ℕ) → k ≤ room c → IsSize c → ((c.used + k ≡ c.capacity) ⊎ ((c.used + k < c.capacity) × ((c.capacity ≡ 512) ⊎ ((1024 ≤ c.capacity) × (c.capacity < c.used + k + 512)))))
full_more c k fits size = elim size.full [
  | inl e ↦ inl (omega (arith, e, fits))
  | inr h ↦ elim (cases_lt (c.used + k) c.capacity) [
    | inr g ↦ inl (omega (arith, g, fits, h.0))
    | inl l ↦ inr (l, elim h.1 [ inl small ↦ inl small | inr big ↦ inr (big.0, omega (arith, big.1)) ])
  ]
]

size_more : (c : Cluster) (k : ℕ) → k ≤ room c → IsSize c → IsSize (with_more c k)
size_more c k fits size = record { some = omega (arith, size.some); large = size.large; full = full_more c k fits size }

within_size : (c : Cluster) → IsSize c → c.used ≤ c.capacity
within_size c size = elim size.full [ inl e ↦ omega (arith, e) | inr h ↦ omega (arith, h.0) ]

-- a cluster that grew
size_growth : (c : Cluster) (k : ℕ) → room c < k → IsSize c → IsSize (with_growth c k)
size_growth c k past size =
    let fits : c.used ≤ c.capacity = within_size c size in
    record {
      some = omega (arith, size.some);
      large = omega (arith, size.large);
      full = elim (cases_lt (k - room c) 512) [
        | inl l ↦ inr (omega (arith, l, past, fits), inr (omega (arith, l, size.large), omega (arith, l, past, fits)))
        | inr g ↦ inl (omega (arith, g, past, fits))
      ];
    }

behind_last : (s : ℕ) (cs : List Cluster) (i : ℕ) (c : Cluster) → IsLastOf s cs i → c.session ≡ (at cs i).session → (j : ℕ) → i < j → j < length cs → (at cs j).session ≢ c.session
behind_last s cs i c last same j less h e = last.last j less h (e ∙ same ∙ last.own)

new_behind : (n : ℕ) (cs : List Cluster) (s f k : ℕ) → 0 < k → 1 ≤ s → s ≤ n → Begins s cs → f ≡ used_of s cs + 1 → Goes n cs (new_cluster cs s f k)
new_behind n cs s f k some low high begins first = record { low = low; high = high; begins = begins; size = size_new cs s f k some; final = refl; first = first }

-- what a full cluster leaves goes behind the others
rest_behind : (n : ℕ) (r : IdRange) (cs : List Cluster) (i : ℕ) → last_of (places_of r.session cs) ≡ Some i → IsSize (at cs i) → room (at cs i) < r.count → i + 1 ≢ length cs → 1 ≤ r.session → r.session ≤ n → r.first ≡ used_of r.session cs + 1
    → Goes n (set cs i (with_more (at cs i) (room (at cs i)))) (new_cluster cs r.session (r.first + room (at cs i)) (r.count - room (at cs i)))
rest_behind n r cs i place size past inner low high next =
    let last : IsLastOf r.session cs i = last_is r.session cs i place in
    let fits : (at cs i).used ≤ (at cs i).capacity = within_size (at cs i) size in
    let here : at (set cs i (with_more (at cs i) (room (at cs i)))) i ≡ with_more (at cs i) (room (at cs i)) = get_or-set_same cs i (with_more (at cs i) (room (at cs i))) no_cluster last.there in
    let full : room (with_more (at cs i) (room (at cs i))) ≡ 0 = omega (arith, fits) in
    let used : used_of r.session (set cs i (with_more (at cs i) (room (at cs i)))) ≡ used_of r.session cs + room (at cs i) = used_grow r.session cs i (with_more (at cs i) (room (at cs i))) (room (at cs i)) last.there last.own refl refl in
    record {
      low = low;
      high = high;
      begins = inr (i, ap last_of (places_set r.session 0 i cs (with_more (at cs i) (room (at cs i))) refl) ∙ place, ap room here ∙ full, λ e. inner (e ∙ length-set cs i (with_more (at cs i) (room (at cs i)))));
      size = size_new cs r.session (r.first + room (at cs i)) (r.count - room (at cs i)) (omega (arith, past));
      final = sym (free_set cs i (with_more (at cs i) (room (at cs i))) last.there refl refl);
      first = omega (arith, next, used);
    }

-- the clusters with a range whose session has a last one
put_go : (n : ℕ) (r : IdRange) (cs : List Cluster) (i : ℕ) → last_of (places_of r.session cs) ≡ Some i → AllGo n [] cs → 1 ≤ r.session → r.session ≤ n → r.first ≡ used_of r.session cs + 1 → AllGo n [] (put_at r cs i)
put_go n r cs i place all low high next =
    let last : IsLastOf r.session cs i = last_is r.session cs i place in
    let size : IsSize (at cs i) = size_at n [] cs i last.there all in
    elim (cases_lt (room (at cs i)) r.count) [
      | inr fits ↦
          let test : nat_le r.count (room (at cs i)) ≡ true = grind (arith, nat_tests, fits) in
          rw test (set_go n [] cs i (with_more (at cs i) r.count) last.there (refl, refl, refl, size_more (at cs i) r.count (omega (arith, fits)) size, inl refl) (behind_last r.session cs i (with_more (at cs i) r.count) last refl) all)
      | inl past ↦
          let test : nat_le r.count (room (at cs i)) ≡ false = grind (arith, nat_tests, past) in
          rw test (elim (cases_eq (i + 1) (length cs)) [
            | inl e ↦
                let end : (i + 1 == length cs) ≡ true = grind (arith, nat_tests, e) in
                rw end (set_go n [] cs i (with_growth (at cs i) r.count) last.there (refl, refl, refl, size_growth (at cs i) r.count past size, inr e) (behind_last r.session cs i (with_growth (at cs i) r.count) last refl) all)
            | inr ne ↦
                let end : (i + 1 == length cs) ≡ false = grind (arith, nat_tests, ne) in
                rw end (push_go n [] (set cs i (with_more (at cs i) (room (at cs i)))) (new_cluster cs r.session (r.first + room (at cs i)) (r.count - room (at cs i)))
                (set_go n [] cs i (with_more (at cs i) (room (at cs i))) last.there (refl, refl, refl, size_more (at cs i) (room (at cs i)) (omega arith) size, inl refl) (behind_last r.session cs i (with_more (at cs i) (room (at cs i))) last refl) all)
                (rest_behind n r cs i place size past ne low high next))
          ])
    ]

pub range_go : (n : ℕ) (r : IdRange) (cs : List Cluster) → AllGo n [] cs → 1 ≤ r.session → r.session ≤ n → r.first ≡ used_of r.session cs + 1 → AllGo n [] (with_range r cs)
range_go n r cs all low high next = elim (cases_Bool (r.count == 0)) [
  | inl e ↦ rw e all
  | inr e ↦ let some : 0 < r.count = grind (arith, nat_tests, e) in
      rw e (elim (cases_option (last_of (places_of r.session cs))) [
        | inl none ↦ rw none (push_go n [] cs (new_cluster cs r.session r.first r.count) all (new_behind n cs r.session r.first r.count some low high (inl none) next))
        | inr h ↦ rw h.1 (put_go n r cs h.0 h.1 all low high next)
      ])
]
