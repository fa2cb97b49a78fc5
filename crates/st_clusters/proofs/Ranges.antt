-- What a range of the log changes in the clusters.
use Rattle.std.proofs.Common.{◌≡◌, ◌≢◌, ◌⊎◌, inl, inr, ◌<◌, ◌≤◌, ◌+◌, ◌-◌, ℕ, true, false, List, [], ◌∷◌, ◌++◌, length, get_or, set, refl, sym, ap, ◌∙◌, arith, length-set}
use Rattle.std.proofs.lemmas.List.{get_or-set_same, get_or_push, length_push}
use Rattle.std.proofs.lemmas.Bool.{cases_eq, cases_lt, cases_Bool}
use Rattle.std.proofs.lemmas.Bool.Decides.{nat_tests}
use Rattle.std.specs.Prelude.{◌==◌, Option, Some, None, nat_le, slice_get}
use Rattle.std.proofs.lemmas.Option.{slice_get-get_or}
use Rattle.st_clusters.specs.Table.{at, no_cluster, room, next_free, new_cluster, with_more, with_growth, put_at, with_range, places_of, last_of}
use Rattle.st_clusters.specs.inside.Kept.{AreApart, IsLastOf}
use Rattle.st_clusters.specs.declared.ids.Cluster.{Cluster}
use Rattle.st_clusters.specs.declared.ids.IdRange.{IdRange}
use Rattle.st_clusters.proofs.Clusters.{same_at, places_all, last_is}

-- ## The next free number

free_at : (cs : List Cluster) (n : ℕ) → n + 1 ≡ length cs → next_free cs ≡ (at cs n).first_final + (at cs n).capacity
free_at [] n e = absurd (omega (arith, e))
free_at (c ∷ cs) n e =
    let same : length cs ≡ n = omega (arith, e) in
    ap (λ (k : ℕ). (at (c ∷ cs) k).first_final + (at (c ∷ cs) k).capacity) same

pub free_push : (cs : List Cluster) (c : Cluster) → next_free (cs ++ c ∷ []) ≡ c.first_final + c.capacity
free_push cs c = free_at (cs ++ c ∷ []) (length cs) (sym (length_push cs c)) ∙ ap (λ (x : Cluster). x.first_final + x.capacity) (get_or_push cs c no_cluster (length cs) refl)

pub free_above : (cs : List Cluster) → AreApart cs → (j : ℕ) → j < length cs → (at cs j).first_final + (at cs j).capacity ≤ next_free cs
free_above cs apart j h =
    let n : ℕ = length cs - 1 in
    let end : next_free cs ≡ (at cs (length cs - 1)).first_final + (at cs (length cs - 1)).capacity = free_at cs (length cs - 1) (omega (arith, h)) in
    elim (cases_lt j (length cs - 1)) [
      | inl l ↦ let below : (at cs j).first_final + (at cs j).capacity ≤ (at cs (length cs - 1)).first_final = apart.numbers j (length cs - 1) l (omega (arith, h)) in omega (arith, end, below)
      | inr g ↦ let same : j ≡ length cs - 1 = omega (arith, g, h) in
          let here : (at cs j).first_final + (at cs j).capacity ≡ next_free cs = ap (λ (k : ℕ). (at cs k).first_final + (at cs k).capacity) same ∙ sym end in
          omega (arith, here)
    ]

pub free_some : (cs : List Cluster) → AreApart cs → 1 ≤ next_free cs
free_some [] apart = omega arith
free_some (c ∷ cs) apart =
    let above : (at (c ∷ cs) 0).first_final + (at (c ∷ cs) 0).capacity ≤ next_free (c ∷ cs) = free_above (c ∷ cs) apart 0 (omega arith) in
    let some : 1 ≤ (at (c ∷ cs) 0).first_final = apart.numbers_begin 0 (omega arith) in
    omega (arith, above, some)

pub free_set : (cs : List Cluster) (i : ℕ) (c : Cluster) → i < length cs → c.first_final ≡ (at cs i).first_final → c.capacity ≡ (at cs i).capacity → next_free (set cs i c) ≡ next_free cs
free_set cs i c h final capacity =
    let long : length (set cs i c) ≡ length cs = length-set cs i c in
    free_at (set cs i c) (length cs - 1) (omega (arith, long, h))
    ∙ same_at (λ x. x.first_final + x.capacity) cs i c (length cs - 1) h (cc (final, capacity))
    ∙ sym (free_at cs (length cs - 1) (omega (arith, h)))

pub free_set_last : (cs : List Cluster) (i : ℕ) (c : Cluster) → i + 1 ≡ length cs → next_free (set cs i c) ≡ c.first_final + c.capacity
free_set_last cs i c e =
    let long : length (set cs i c) ≡ length cs = length-set cs i c in
    free_at (set cs i c) i (omega (arith, long, e)) ∙ ap (λ (x : Cluster). x.first_final + x.capacity) (get_or-set_same cs i c no_cluster (omega (arith, e)))

-- ## The five ways

pub cases_option : (o : Option ℕ) → (o ≡ None) ⊎ ((i : ℕ) × (o ≡ Some i))
cases_option None = inl refl
cases_option (Some i) = inr (i, refl)

none_last : (ps : List ℕ) → last_of ps ≡ None → length ps ≡ 0
none_last [] e = refl
none_last (q ∷ qs) e =
    let got : slice_get (q ∷ qs) (length (q ∷ qs) - 1) ≡ Some (get_or (q ∷ qs) (length (q ∷ qs) - 1) 0) = slice_get-get_or (q ∷ qs) (length (q ∷ qs) - 1) 0 (omega arith) in
    cc (e, got)

-- no cluster is the session's
abbrev pub IsNoneOf : ℕ → List Cluster → Type 0
IsNoneOf s cs = (j : ℕ) → j < length cs → (at cs j).session ≡ s → ⊥

last_of-None : (s : ℕ) (cs : List Cluster) → last_of (places_of s cs) ≡ None → IsNoneOf s cs
last_of-None s cs e j h own =
    let none : length (places_of s cs) ≡ 0 = none_last (places_of s cs) e in
    let has : (l : ℕ) × (l < length (places_of s cs)) × (get_or (places_of s cs) l 0 ≡ 0 + j) = places_all s 0 cs j h own in
    omega (arith, none, has.1)

-- the ways of a range whose session has a last cluster
in_last : (P : List Cluster → Type 0) (r : IdRange) (cs : List Cluster) (i : ℕ) → 0 < r.count → IsLastOf r.session cs i
    → ((i : ℕ) → 0 < r.count → IsLastOf r.session cs i → r.count ≤ room (at cs i) → P (set cs i (with_more (at cs i) r.count)))
    → ((i : ℕ) → IsLastOf r.session cs i → room (at cs i) < r.count → i + 1 ≡ length cs → P (set cs i (with_growth (at cs i) r.count)))
    → ((i : ℕ) → IsLastOf r.session cs i → room (at cs i) < r.count → i + 1 ≢ length cs
    → P (set cs i (with_more (at cs i) (room (at cs i))) ++ new_cluster cs r.session (r.first + room (at cs i)) (r.count - room (at cs i)) ∷ []))
    → P (put_at r cs i)
in_last P r cs i some last fills grows goes_on = elim (cases_lt (room (at cs i)) r.count) [
  | inr fits ↦ let test : nat_le r.count (room (at cs i)) ≡ true = grind (arith, nat_tests, fits) in rw test (fills i some last fits)
  | inl past ↦ let test : nat_le r.count (room (at cs i)) ≡ false = grind (arith, nat_tests, past) in
      rw test (elim (cases_eq (i + 1) (length cs)) [
        | inl e ↦ let end : (i + 1 == length cs) ≡ true = grind (arith, nat_tests, e) in rw end (grows i last past e)
        | inr ne ↦ let end : (i + 1 == length cs) ≡ false = grind (arith, nat_tests, ne) in rw end (goes_on i last past ne)
      ])
]

-- whatever holds in each of the five ways holds of the clusters with the range
pub range_cases : (P : List Cluster → Type 0) (r : IdRange) (cs : List Cluster)
    → (r.count ≡ 0 → P cs)
    → (0 < r.count → IsNoneOf r.session cs → P (cs ++ new_cluster cs r.session r.first r.count ∷ []))
    → ((i : ℕ) → 0 < r.count → IsLastOf r.session cs i → r.count ≤ room (at cs i) → P (set cs i (with_more (at cs i) r.count)))
    → ((i : ℕ) → IsLastOf r.session cs i → room (at cs i) < r.count → i + 1 ≡ length cs → P (set cs i (with_growth (at cs i) r.count)))
    → ((i : ℕ) → IsLastOf r.session cs i → room (at cs i) < r.count → i + 1 ≢ length cs
    → P (set cs i (with_more (at cs i) (room (at cs i))) ++ new_cluster cs r.session (r.first + room (at cs i)) (r.count - room (at cs i)) ∷ []))
    → P (with_range r cs)
range_cases P r cs nothing begins fills grows goes_on = elim (cases_Bool (r.count == 0)) [
  | inl e ↦ rw e (nothing (grind (arith, nat_tests, e)))
  | inr e ↦ let some : 0 < r.count = grind (arith, nat_tests, e) in
      rw e (elim (cases_option (last_of (places_of r.session cs))) [
        | inl n ↦ rw n (begins some (last_of-None r.session cs n))
        | inr h ↦ rw h.1 (in_last P r cs h.0 some (last_is r.session cs h.0 h.1) fills grows goes_on)
      ])
]
