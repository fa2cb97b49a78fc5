-- Which cluster has an id, and which has a number.
use Rattle.std.proofs.Common.{◌≡◌, inl, inr, ◌<◌, ◌≤◌, ◌+◌, ◌-◌, ℕ, true, false, List, length, get_or, sym, ap, ◌∙◌, arith, Option, Some, None, MatchOption}
use Rattle.std.proofs.lemmas.Bool.{cases_eq, cases_lt}
use Rattle.std.proofs.lemmas.Bool.Decides.{nat_tests}
use Rattle.std.specs.Prelude.{nat_le, slice_get}
use Rattle.std.proofs.lemmas.Option.{slice_get-get_or}
use Rattle.std.specs.List.Sorted.{IsPartitionedBy, IsPartitionPoint, IsNonDecreasingBy}
use Rattle.st_ids.specs.declared.names.Rev.{Rev}
use Rattle.st_clusters.specs.Table.{at, no_cluster, places_of}
use Rattle.st_clusters.specs.Names.{IsInTable, IsWithin}
use Rattle.st_clusters.specs.inside.Kept.{AreApart, MayHaveId, MayHaveNumber, begins_by}
use Rattle.st_clusters.specs.declared.ids.Cluster.{Cluster}
use Rattle.st_clusters.proofs.Clusters.{places_are, places_rise, places_all}

-- a place of a list, whatever is read past its end
pub any_default : {A : Type 0} (xs : List A) (i : ℕ) (d e : A) → i < length xs → get_or xs i d ≡ get_or xs i e
any_default {A = A} xs i d e h =
    let one : slice_get xs i ≡ Some (get_or xs i d) = slice_get-get_or xs i d h in
    let two : slice_get xs i ≡ Some (get_or xs i e) = slice_get-get_or xs i e h in
    cc (one, two)

-- a place among a session's
place_is : (s : ℕ) (cs : List Cluster) (k : ℕ) → k < length (places_of s cs) → (get_or (places_of s cs) k 0 < length cs) × ((at cs (get_or (places_of s cs) k 0)).session ≡ s)
place_is s cs k h =
    let p : (0 ≤ get_or (places_of s cs) k 0) × (get_or (places_of s cs) k 0 < 0 + length cs) × ((at cs (get_or (places_of s cs) k 0 - 0)).session ≡ s) = places_are s 0 cs k h in
    let e : get_or (places_of s cs) k 0 - 0 ≡ get_or (places_of s cs) k 0 = omega arith in
    (omega (arith, p.1), rw e at p.2)

-- the session's clusters begin one after the other
firsts_rise : (s : ℕ) (cs : List Cluster) → AreApart cs → (k l : ℕ) → k < l → l < length (places_of s cs) → (at cs (get_or (places_of s cs) k 0)).first + (at cs (get_or (places_of s cs) k 0)).used ≤ (at cs (get_or (places_of s cs) l 0)).first
firsts_rise s cs apart k l less h =
    let pk = place_is s cs k (omega (arith, less, h)) in
    let pl = place_is s cs l h in
    apart.ids (get_or (places_of s cs) k 0) (get_or (places_of s cs) l 0) (places_rise s 0 cs k l less h) pl.0 (pk.1 ∙ sym pl.1)

pub begin_in_turn : (s num : ℕ) (cs : List Cluster) → AreApart cs → IsPartitionedBy (begins_by cs num) (places_of s cs)
begin_in_turn s num cs apart i j d le h holds = elim (cases_eq i j) [
  | inl e ↦ rw e holds
  | inr ne ↦
      let within : i < length (places_of s cs) = omega (arith, le, h) in
      let at_i : get_or (places_of s cs) i d ≡ get_or (places_of s cs) i 0 = any_default (places_of s cs) i d 0 within in
      let at_j : get_or (places_of s cs) j d ≡ get_or (places_of s cs) j 0 = any_default (places_of s cs) j d 0 h in
      let here : begins_by cs num (get_or (places_of s cs) j 0) ≡ true = rw at_j at holds in
      let low : (at cs (get_or (places_of s cs) j 0)).first ≤ num = grind (arith, nat_tests, here) in
      let rise : (at cs (get_or (places_of s cs) i 0)).first + (at cs (get_or (places_of s cs) i 0)).used ≤ (at cs (get_or (places_of s cs) j 0)).first = firsts_rise s cs apart i j (omega (arith, le, ne)) h in
      let inside : get_or (places_of s cs) i 0 < length cs = (place_is s cs i within).0 in
      let before : (at cs (get_or (places_of s cs) i 0)).first ≤ num = omega (arith, rise, low) in
      rw at_i (grind (arith, nat_tests, inside, before))
]

pub found_id : (r : Rev) (cs : List Cluster) (count : ℕ) → AreApart cs → IsPartitionPoint (λ y. begins_by cs r.num y ≡ true) (λ y. begins_by cs r.num y ≡ false) (places_of r.session cs) count → 0 < count → count ≤ length (places_of r.session cs)
    → MayHaveId cs r (get_or (places_of r.session cs) (count - 1) 0)
found_id r cs count apart point some within =
    let here = place_is r.session cs (count - 1) (omega (arith, some, within)) in
    let passes : begins_by cs r.num (get_or (places_of r.session cs) (count - 1) 0) ≡ true = point.0 (count - 1) 0 (omega arith) (omega (arith, some)) in
    let begins : (at cs (get_or (places_of r.session cs) (count - 1) 0)).first ≤ r.num = grind (arith, nat_tests, passes) in
    record {
      there = here.0;
      own = here.1;
      begins = begins;
      only = λ n h.
          let has : (l : ℕ) × (l < length (places_of r.session cs)) × (get_or (places_of r.session cs) l 0 ≡ 0 + h.place) = places_all r.session 0 cs h.place h.there h.within.own in
          let at_l : get_or (places_of r.session cs) has.0 0 ≡ h.place = omega (arith, has.2) in
          let test : begins_by cs r.num h.place ≡ true = grind (arith, nat_tests, h.there, h.within.from) in
          elim (cases_eq has.0 (count - 1)) [
            | inl e ↦ sym at_l ∙ ap (λ (k : ℕ). get_or (places_of r.session cs) k 0) e
            | inr ne ↦ elim (cases_lt has.0 count) [
              | inl l ↦ let ends : (at cs (get_or (places_of r.session cs) has.0 0)).first + (at cs (get_or (places_of r.session cs) has.0 0)).used ≤ (at cs (get_or (places_of r.session cs) (count - 1) 0)).first = firsts_rise r.session cs apart has.0 (count - 1) (omega (arith, l, ne)) (omega (arith, some, within)) in
                  let there : (at cs h.place).first + (at cs h.place).used ≤ (at cs (get_or (places_of r.session cs) (count - 1) 0)).first = rw at_l at ends in
                  absurd (omega (arith, there, begins, h.within.before))
              | inr g ↦ let fails : begins_by cs r.num (get_or (places_of r.session cs) has.0 0) ≡ false = point.1 has.0 0 g has.1 in
                  let fails_here : begins_by cs r.num h.place ≡ false = rw at_l at fails in
                  cc (test, fails_here)
            ]
          ];
    }

pub found_no_id : (r : Rev) (cs : List Cluster) (count : ℕ) → IsPartitionPoint (λ y. begins_by cs r.num y ≡ true) (λ y. begins_by cs r.num y ≡ false) (places_of r.session cs) count → count ≡ 0 → (n : ℕ) → ¬ IsInTable cs r n
found_no_id r cs count point none n h =
    let has : (l : ℕ) × (l < length (places_of r.session cs)) × (get_or (places_of r.session cs) l 0 ≡ 0 + h.place) = places_all r.session 0 cs h.place h.there h.within.own in
    let at_l : get_or (places_of r.session cs) has.0 0 ≡ h.place = omega (arith, has.2) in
    let test : begins_by cs r.num h.place ≡ true = grind (arith, nat_tests, h.there, h.within.from) in
    let fails : begins_by cs r.num (get_or (places_of r.session cs) has.0 0) ≡ false = point.1 has.0 0 (omega (arith, none)) has.1 in
    let fails_here : begins_by cs r.num h.place ≡ false = rw at_l at fails in
    cc (test, fails_here)

-- ## By number

pub numbers_in_turn : (cs : List Cluster) → AreApart cs → IsNonDecreasingBy (λ (c : Cluster). c.first_final) cs
numbers_in_turn cs apart i j d le h = elim (cases_eq i j) [
  | inl e ↦ rw e (omega arith)
  | inr ne ↦
      let at_i : get_or cs i d ≡ at cs i = any_default cs i d no_cluster (omega (arith, le, h)) in
      let at_j : get_or cs j d ≡ at cs j = any_default cs j d no_cluster h in
      let rise : (at cs i).first_final + (at cs i).capacity ≤ (at cs j).first_final = apart.numbers i j (omega (arith, le, ne)) h in
      rw (at_i, at_j) (omega (arith, rise))
]

pub found_number : (n : ℕ) (cs : List Cluster) (count : ℕ) → AreApart cs → IsPartitionPoint (λ y. nat_le y.first_final n ≡ true) (λ y. nat_le y.first_final n ≡ false) cs count → 0 < count → count ≤ length cs → MayHaveNumber cs n (count - 1)
found_number n cs count apart point some within =
    let passes : nat_le (at cs (count - 1)).first_final n ≡ true = point.0 (count - 1) no_cluster (omega arith) (omega (arith, some)) in
    record {
      there = omega (arith, some, within);
      begins = grind (arith, nat_tests, passes);
      only = λ r h. elim (cases_eq h.place (count - 1)) [
        | inl e ↦ e
        | inr ne ↦ elim (cases_lt h.place count) [
          | inl l ↦ let ends : (at cs h.place).first_final + (at cs h.place).capacity ≤ (at cs (count - 1)).first_final = apart.numbers h.place (count - 1) (omega (arith, l, ne)) (omega (arith, some, within)) in
              let inside : (at cs h.place).used ≤ (at cs h.place).capacity = apart.fits h.place h.there in
              let low : (at cs (count - 1)).first_final ≤ n = grind (arith, nat_tests, passes) in
              absurd (omega (arith, ends, inside, low, h.within.number, h.within.before, h.within.from))
          | inr g ↦ let fails : nat_le (at cs h.place).first_final n ≡ false = point.1 h.place no_cluster g h.there in
              let high : n < (at cs h.place).first_final = grind (arith, nat_tests, fails) in
              absurd (omega (arith, high, h.within.number))
        ]
      ];
    }

pub found_no_number : (n : ℕ) (cs : List Cluster) (count : ℕ) → IsPartitionPoint (λ y. nat_le y.first_final n ≡ true) (λ y. nat_le y.first_final n ≡ false) cs count → count ≡ 0 → (r : Rev) → ¬ IsInTable cs r n
found_no_number n cs count point none r h =
    let fails : nat_le (at cs h.place).first_final n ≡ false = point.1 h.place no_cluster (omega (arith, none)) h.there in
    let high : n < (at cs h.place).first_final = grind (arith, nat_tests, fails) in
    omega (arith, high, h.within.number)

-- ## What the cluster says

pub final_found : (cs : List Cluster) (r : Rev) (i : ℕ) (o : Option ℕ) → MayHaveId cs r i → MatchOption o ((at cs i).first + (at cs i).used ≤ r.num) (λ n. (r.num < (at cs i).first + (at cs i).used) × (n ≡ (at cs i).first_final + (r.num - (at cs i).first)))
    → MatchOption o ((n : ℕ) → ¬ IsInTable cs r n) (λ n. IsInTable cs r n)
final_found cs r i None may past = λ n h.
    let here : (at cs i).first + (at cs i).used ≤ r.num = past in
    let there : (at cs h.place).first + (at cs h.place).used ≤ r.num = rw (may.only n h) here in
    omega (arith, there, h.within.before)
final_found cs r i (Some n) may found = record { place = i; there = may.there; within = record { own = may.own; from = may.begins; before = found.0; number = found.1 } }

pub id_found : (cs : List Cluster) (n i : ℕ) (o : Option Rev) → MayHaveNumber cs n i → MatchOption o ((at cs i).first_final + (at cs i).used ≤ n) (λ r. IsWithin (at cs i) r n)
    → MatchOption o ((r : Rev) → ¬ IsInTable cs r n) (λ r. IsInTable cs r n)
id_found cs n i None may past = λ r h.
    let here : (at cs i).first_final + (at cs i).used ≤ n = past in
    let there : (at cs h.place).first_final + (at cs h.place).used ≤ n = rw (may.only r h) here in
    omega (arith, there, h.within.number, h.within.before, h.within.from)
id_found cs n i (Some r) may found = record { place = i; there = may.there; within = found }
