-- The clusters of a table, each of which begins behind those before it.
use Rattle.std.proofs.Common.{◌≡◌, ◌≢◌, ◌⊎◌, inl, inr, ◌<◌, ◌≤◌, ◌+◌, ◌-◌, ◌^◌, ℕ, true, false, cond, refl, sym, ap, ◌∙◌, arith, List, [], ◌∷◌, ◌++◌, length, set, Some, None}
use Rattle.std.proofs.lemmas.Bool.Decides.{nat_tests}
use Rattle.std.proofs.lemmas.List.{length_push, set-get_or, get_or_push, set-append_right}
use Rattle.std.proofs.lemmas.List.Sums.{sum_by-set, sum_by_push}
use Rattle.std.proofs.lemmas.Option.{slice_get-get_or}
use Rattle.std.specs.List.{sum_by}
use Rattle.std.specs.Prelude.{◌==◌, min, nat_le}
use Rattle.st_clusters.specs.Table.{at, no_cluster, room, next_free, new_cluster, with_more, with_growth, with_range, places_of, last_of}
use Rattle.st_clusters.specs.declared.ids.Cluster.{Cluster}
use Rattle.st_clusters.specs.declared.ids.IdRange.{IdRange}
use Rattle.st_clusters.proofs.Clusters.{places_push}
use Rattle.st_clusters.proofs.Ranges.{range_cases}
use Rattle.st_idcodec.specs.inside.Reading.{part, front_of, rest_of}
use Rattle.st_idcodec.proofs.Parsing.{cluster_same}

-- ## How many ids of a session the clusters give

abbrev pub used_of : ℕ → List Cluster → ℕ
used_of s cs = sum_by (λ (c : Cluster). cond (c.session == s) c.used 0) cs

with_own : (c : Cluster) (s : ℕ) → c.session ≡ s → cond (c.session == s) c.used 0 ≡ c.used
with_own c s own = let test : (c.session == s) ≡ true = grind (arith, nat_tests, own) in rw test refl

with_other : (c : Cluster) (s : ℕ) → c.session ≢ s → cond (c.session == s) c.used 0 ≡ 0
with_other c s other = let test : (c.session == s) ≡ false = grind (arith, nat_tests, other) in rw test refl

used_push : (s : ℕ) (cs : List Cluster) (c : Cluster) → used_of s (cs ++ c ∷ []) ≡ used_of s cs + cond (c.session == s) c.used 0
used_push s cs c = sum_by_push (λ (c : Cluster). cond (c.session == s) c.used 0) cs c

used_set : (s : ℕ) (cs : List Cluster) (i : ℕ) (c : Cluster) → i < length cs → used_of s (set cs i c) + cond ((at cs i).session == s) (at cs i).used 0 ≡ used_of s cs + cond (c.session == s) c.used 0
used_set s cs i c h = sum_by-set (λ (c : Cluster). cond (c.session == s) c.used 0) cs i c no_cluster h

pub used_new : (s : ℕ) (cs : List Cluster) (c : Cluster) → c.session ≡ s → used_of s (cs ++ c ∷ []) ≡ used_of s cs + c.used
used_new s cs c own =
    let a : used_of s (cs ++ c ∷ []) ≡ used_of s cs + cond (c.session == s) c.used 0 = used_push s cs c in
    let b : cond (c.session == s) c.used 0 ≡ c.used = with_own c s own in
    a ∙ ap (λ (n : ℕ). used_of s cs + n) b

pub used_grow : (s : ℕ) (cs : List Cluster) (i : ℕ) (c : Cluster) (n : ℕ) → i < length cs → (at cs i).session ≡ s → c.session ≡ (at cs i).session → c.used ≡ (at cs i).used + n → used_of s (set cs i c) ≡ used_of s cs + n
used_grow s cs i c n h own same more =
    let a : used_of s (set cs i c) + cond ((at cs i).session == s) (at cs i).used 0 ≡ used_of s cs + cond (c.session == s) c.used 0 = used_set s cs i c h in
    let b : cond ((at cs i).session == s) (at cs i).used 0 ≡ (at cs i).used = with_own (at cs i) s own in
    let d : cond (c.session == s) c.used 0 ≡ c.used = with_own c s (same ∙ own) in
    omega (arith, a, b, d, more)

pub used_same : (s : ℕ) (cs : List Cluster) (i : ℕ) (c : Cluster) → i < length cs → (at cs i).session ≢ s → c.session ≡ (at cs i).session → used_of s (set cs i c) ≡ used_of s cs
used_same s cs i c h other same =
    let a : used_of s (set cs i c) + cond ((at cs i).session == s) (at cs i).used 0 ≡ used_of s cs + cond (c.session == s) c.used 0 = used_set s cs i c h in
    let b : cond ((at cs i).session == s) (at cs i).used 0 ≡ 0 = with_other (at cs i) s other in
    let d : cond (c.session == s) c.used 0 ≡ 0 = with_other c s (λ e. other (sym same ∙ e)) in
    omega (arith, a, b, d)

pub used_more : (r : IdRange) (cs : List Cluster) → used_of r.session (with_range r cs) ≡ used_of r.session cs + r.count
used_more r cs = range_cases (λ ds. used_of r.session ds ≡ used_of r.session cs + r.count) r cs
    (λ none. omega (arith, none))
    (λ some none. used_new r.session cs (new_cluster cs r.session r.first r.count) refl)
    (λ i some last fits. used_grow r.session cs i (with_more (at cs i) r.count) r.count last.there last.own refl refl)
    (λ i last past end. used_grow r.session cs i (with_growth (at cs i) r.count) r.count last.there last.own refl refl)
    (λ i last past inner.
    let full : List Cluster = set cs i (with_more (at cs i) (room (at cs i))) in
    let a : used_of r.session (set cs i (with_more (at cs i) (room (at cs i)))) ≡ used_of r.session cs + room (at cs i) = used_grow r.session cs i (with_more (at cs i) (room (at cs i))) (room (at cs i)) last.there last.own refl refl in
    let b : used_of r.session (set cs i (with_more (at cs i) (room (at cs i))) ++ new_cluster cs r.session (r.first + room (at cs i)) (r.count - room (at cs i)) ∷ []) ≡ used_of r.session (set cs i (with_more (at cs i) (room (at cs i)))) + (r.count - room (at cs i)) =
    used_new r.session (set cs i (with_more (at cs i) (room (at cs i)))) (new_cluster cs r.session (r.first + room (at cs i)) (r.count - room (at cs i))) refl in
    omega (arith, a, b, past))

other_new : (s : ℕ) (cs : List Cluster) (c : Cluster) → c.session ≢ s → used_of s (cs ++ c ∷ []) ≡ used_of s cs
other_new s cs c other =
    let a : used_of s (cs ++ c ∷ []) ≡ used_of s cs + cond (c.session == s) c.used 0 = used_push s cs c in
    let b : cond (c.session == s) c.used 0 ≡ 0 = with_other c s other in
    omega (arith, a, b)

pub used_others : (s : ℕ) (r : IdRange) (cs : List Cluster) → r.session ≢ s → used_of s (with_range r cs) ≡ used_of s cs
used_others s r cs other = range_cases (λ ds. used_of s ds ≡ used_of s cs) r cs
    (λ none. refl)
    (λ some none. other_new s cs (new_cluster cs r.session r.first r.count) other)
    (λ i some last fits. used_same s cs i (with_more (at cs i) r.count) last.there (λ e. other (sym last.own ∙ e)) refl)
    (λ i last past end. used_same s cs i (with_growth (at cs i) r.count) last.there (λ e. other (sym last.own ∙ e)) refl)
    (λ i last past inner. other_new s (set cs i (with_more (at cs i) (room (at cs i)))) (new_cluster cs r.session (r.first + room (at cs i)) (r.count - room (at cs i))) other
    ∙ used_same s cs i (with_more (at cs i) (room (at cs i))) last.there (λ e. other (sym last.own ∙ e)) refl)

-- ## A cluster behind others

-- no cluster is the session's, or its last one is full and isn't the last of all
abbrev pub Begins : ℕ → List Cluster → Type 0
Begins s cs = (last_of (places_of s cs) ≡ None) ⊎ ((i : ℕ) × (last_of (places_of s cs) ≡ Some i) × (room (at cs i) ≡ 0) × (i + 1 ≢ length cs))

-- a cluster that ranges can give
pub record IsSize (c : Cluster) : Type 0 where
  pub some : 1 ≤ c.used
  pub large : 512 ≤ c.capacity
  pub full : (c.used ≡ c.capacity) ⊎ ((c.used < c.capacity) × ((c.capacity ≡ 512) ⊎ ((1024 ≤ c.capacity) × (c.capacity < c.used + 512))))

-- a cluster of one of n sessions that can stand behind some others
pub record Goes (n : ℕ) (before : List Cluster) (c : Cluster) : Type 0 where
  pub low : 1 ≤ c.session
  pub high : c.session ≤ n
  pub begins : Begins c.session before
  pub size : IsSize c
  pub final : c.first_final ≡ next_free before
  pub first : c.first ≡ used_of c.session before + 1

-- so can each of some clusters
abbrev pub AllGo : ℕ → List Cluster → List Cluster → Type 0
AllGo n before [] = Unit {0}
AllGo n before (c ∷ cs) = Goes n before c × AllGo n (before ++ c ∷ []) cs

-- ## The two ranges of a cluster

none_more : (r : IdRange) (cs : List Cluster) → r.count ≡ 0 → with_range r cs ≡ cs
none_more r cs e = let test : (r.count == 0) ≡ true = grind (arith, nat_tests, e) in rw test refl

rest_nothing : (cs : List Cluster) (i s f n k : ℕ) → k ≡ 0 → set cs i (with_more (at cs i) k) ++ new_cluster cs s (f + k) (n - k) ∷ [] ≡ cs ++ new_cluster cs s f n ∷ []
rest_nothing cs i s f n k e =
    let first : f + 0 ≡ f = omega arith in
    let count : n - 0 ≡ n = omega arith in
    let same : with_more (at cs i) 0 ≡ at cs i = cluster_same (with_more (at cs i) 0) (at cs i) (refl, refl, refl, refl, omega arith) in
    rw (e, first, count, same, set-get_or cs i no_cluster) refl

-- a range of a session that begins
pub new_goes : (r : IdRange) (cs : List Cluster) → Begins r.session cs → 0 < r.count → with_range r cs ≡ cs ++ new_cluster cs r.session r.first r.count ∷ []
new_goes r cs (inl none) some = let test : (r.count == 0) ≡ false = grind (arith, nat_tests, some) in rw (test, none) refl
new_goes r cs (inr h) some =
    let test : (r.count == 0) ≡ false = grind (arith, nat_tests, some) in
    let past : nat_le r.count (room (at cs h.0)) ≡ false = grind (arith, nat_tests, some, h.2) in
    let inner : (h.0 + 1 == length cs) ≡ false = grind (arith, nat_tests, h.3) in
    rw (test, h.1, past, inner) (rest_nothing cs h.0 r.session r.first r.count (room (at cs h.0)) h.2)

last_push : (ps : List ℕ) (p : ℕ) → last_of (ps ++ p ∷ []) ≡ Some p
last_push ps p =
    let long : length (ps ++ p ∷ []) ≡ length ps + 1 = length_push ps p in
    let here : length (ps ++ p ∷ []) - 1 ≡ length ps = omega (arith, long) in
    slice_get-get_or (ps ++ p ∷ []) (length (ps ++ p ∷ []) - 1) 0 (omega (arith, long)) ∙ ap (λ (x : ℕ). Some x) (get_or_push ps p 0 (length (ps ++ p ∷ []) - 1) (sym here))

last_place : (s : ℕ) (cs : List Cluster) (c : Cluster) → c.session ≡ s → last_of (places_of s (cs ++ c ∷ [])) ≡ Some (length cs)
last_place s cs c own =
    let test : (c.session == s) ≡ true = grind (arith, nat_tests, own) in
    let e : 0 + length cs ≡ length cs = omega arith in
    rw (places_push s 0 cs c, test, e) (last_push (places_of s cs) (length cs))

pub set_end : (cs : List Cluster) (c y : Cluster) → set (cs ++ c ∷ []) (length cs) y ≡ cs ++ y ∷ []
set_end cs c y =
    let e : length cs - length cs ≡ 0 = omega arith in
    set-append_right cs (c ∷ []) (length cs) (length cs) y refl (omega arith) ∙ ap (λ (i : ℕ). cs ++ set (c ∷ []) i y) e

-- a range that makes the last cluster grow
grows_last : (cs : List Cluster) (c : Cluster) (r : IdRange) → c.session ≡ r.session → room c < r.count → with_range r (cs ++ c ∷ []) ≡ cs ++ with_growth c r.count ∷ []
grows_last cs c r own less =
    let test : (r.count == 0) ≡ false = grind (arith, nat_tests, less) in
    let long : length (cs ++ c ∷ []) ≡ length cs + 1 = length_push cs c in
    let here : at (cs ++ c ∷ []) (length cs) ≡ c = get_or_push cs c no_cluster (length cs) refl in
    let past : nat_le r.count (room c) ≡ false = grind (arith, nat_tests, less) in
    let end : (length cs + 1 == length (cs ++ c ∷ [])) ≡ true = grind (arith, nat_tests, long) in
    rw (test, last_place r.session cs c own, here, past, end) (set_end cs c (with_growth c r.count))

part_full : (c : Cluster) → c.used ≡ c.capacity → part c ≡ c.used
part_full c e = let test : (c.used == c.capacity) ≡ true = grind (arith, nat_tests, e) in rw test refl

part_less : (c : Cluster) → c.used < c.capacity → part c ≡ min (c.capacity - 512) c.used
part_less c e = let test : (c.used == c.capacity) ≡ false = grind (arith, nat_tests, e) in rw test refl

-- the clusters after the two ranges of one that goes behind them
pub both_parts : (n : ℕ) (cs : List Cluster) (c : Cluster) → Goes n cs c → c.first + c.used ≤ 2 ^ 32 - 1 → with_range (rest_of c) (with_range (front_of c) cs) ≡ cs ++ c ∷ []
both_parts n cs c g low = elim g.size.full [
  | inl full ↦
      let p : part c ≡ c.used = part_full c full in
      let front : with_range (front_of c) cs ≡ cs ++ new_cluster cs c.session c.first (part c) ∷ [] = new_goes (front_of c) cs g.begins (omega (arith, p, g.size.some)) in
      let same : new_cluster cs c.session c.first (part c) ≡ c = cluster_same (new_cluster cs c.session c.first (part c)) c (refl, refl, sym g.final, omega (arith, p, full, g.size.large), p) in
      none_more (rest_of c) (with_range (front_of c) cs) (omega (arith, p)) ∙ front ∙ ap (λ (x : Cluster). cs ++ x ∷ []) same
  | inr h ↦
      let p : part c ≡ min (c.capacity - 512) c.used = part_less c h.0 in
      elim h.1 [
        | inl small ↦
            let none : part c ≡ 0 = omega (arith, p, small) in
            let rest : with_range (rest_of c) cs ≡ cs ++ new_cluster cs c.session (min (c.first + part c) (2 ^ 32 - 1)) (c.used - part c) ∷ [] = new_goes (rest_of c) cs g.begins (omega (arith, none, g.size.some)) in
            let same : new_cluster cs c.session (min (c.first + part c) (2 ^ 32 - 1)) (c.used - part c) ≡ c =
            cluster_same (new_cluster cs c.session (min (c.first + part c) (2 ^ 32 - 1)) (c.used - part c)) c (refl, omega (arith, none, low), sym g.final, omega (arith, none, small, h.0), omega (arith, none)) in
            ap (λ (ds : List Cluster). with_range (rest_of c) ds) (none_more (front_of c) cs none) ∙ rest ∙ ap (λ (x : Cluster). cs ++ x ∷ []) same
        | inr big ↦
            let most : part c ≡ c.capacity - 512 = omega (arith, p, big.0, big.1) in
            let front : with_range (front_of c) cs ≡ cs ++ new_cluster cs c.session c.first (part c) ∷ [] = new_goes (front_of c) cs g.begins (omega (arith, most, big.0)) in
            let rest : with_range (rest_of c) (cs ++ new_cluster cs c.session c.first (part c) ∷ []) ≡ cs ++ with_growth (new_cluster cs c.session c.first (part c)) (c.used - part c) ∷ [] =
            grows_last cs (new_cluster cs c.session c.first (part c)) (rest_of c) refl (omega (arith, most, big.0, big.1)) in
            let same : with_growth (new_cluster cs c.session c.first (part c)) (c.used - part c) ≡ c =
            cluster_same (with_growth (new_cluster cs c.session c.first (part c)) (c.used - part c)) c (refl, refl, sym g.final, omega (arith, most, big.0, big.1, h.0), omega (arith, most, big.0, big.1)) in
            ap (λ (ds : List Cluster). with_range (rest_of c) ds) front ∙ rest ∙ ap (λ (x : Cluster). cs ++ x ∷ []) same
      ]
]
