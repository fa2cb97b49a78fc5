-- Stable ids are names of one id each.
use Rattle.std.proofs.Common.{◌≡◌, ◌⊎◌, inl, inr, ◌<◌, ◌≤◌, ◌+◌, ◌-◌, ◌^◌, ℕ, true, false, Bool, cond, List, length, get_or, refl, sym, ap, ◌∙◌, arith, Option, Some, None}
use Rattle.std.proofs.lemmas.Bool.{cases_eq, cases_lt, cases_Bool}
use Rattle.std.proofs.lemmas.Bool.Decides.{nat_tests}
use Rattle.std.proofs.lemmas.List.Quantifiers.{position-Some}
use Rattle.std.proofs.lemmas.List.Sums.{fails_before_first}
use Rattle.std.proofs.lemmas.Option.{slice_get-get_or, slice_get_within}
use Rattle.std.specs.Prelude.{Ok, IfOk, nat_lt, nat_le, ◌==◌, ◌&&◌, slice_get}
use Rattle.std.specs.List.{position_or_len}
use Rattle.st_ids.specs.declared.names.Rev.{Rev}
use Rattle.st_clusters.specs.Free.{is_v4, free_number, uuid_of, ahead, free_after, spans_meet}
use Rattle.st_clusters.specs.Table.{no_session, session_of}
use Rattle.st_clusters.specs.Names.{nth_uuid, stable_in, stable_of}
use Rattle.st_clusters.specs.inside.Kept.{session_at, IsSound, AreCounts}
use Rattle.st_clusters.specs.inside.Spans.{session_spanning, id_at}
use Rattle.st_clusters.specs.declared.ids.Cluster.{Cluster}
use Rattle.st_clusters.specs.declared.ids.SessionIds.{SessionIds}
use Rattle.st_clusters.proofs.Rounds.{after_ahead, ahead_after, after_low, both_meet, free_low, uuid_of_free, free_of_uuid, uuid_is_v4}
use Rattle.st_clusters.proofs.Unique.{rev_is}
use Rattle.st_clusters.proofs.Counts.{read_at}

-- the free number of a session
abbrev free_at : List SessionIds → ℕ → ℕ
free_at ss k = free_number (session_at ss k).uuid

one_way : (ss : List SessionIds) (cs : List Cluster) (ps : List (List ℕ)) (i k x : ℕ) → IsSound ss cs ps → i < k → k < length ss → x < 2 ^ 122 → ahead (free_at ss i) x < 2 ^ 32 → ahead (free_at ss k) x < 2 ^ 32 → ⊥
one_way ss cs ps i k x sound less within low near far =
    let meets : spans_meet (free_at ss i) (free_at ss k) ≡ true = both_meet (free_at ss i) (free_at ss k) x
    (free_low (session_at ss i).uuid (sound.wide i (omega (arith, less, within)))) (free_low (session_at ss k).uuid (sound.wide k within)) low near far in
    let apart : spans_meet (free_at ss i) (free_at ss k) ≡ false = sound.spans i k less within in
    cc (meets, apart)

-- a free number is in one span alone
pub one_span : (ss : List SessionIds) (cs : List Cluster) (ps : List (List ℕ)) (i k x : ℕ) → IsSound ss cs ps → i < length ss → k < length ss → x < 2 ^ 122 → ahead (free_at ss i) x < 2 ^ 32 → ahead (free_at ss k) x < 2 ^ 32 → i ≡ k
one_span ss cs ps i k x sound hi hk low near far = elim (cases_eq i k) [
  | inl e ↦ e
  | inr ne ↦ elim (cases_lt i k) [
    | inl l ↦ absurd (one_way ss cs ps i k x sound l hk low near far)
    | inr g ↦ absurd (one_way ss cs ps k i x sound (omega (arith, g, ne)) hi low far near)
  ]
]

-- what an id with a stable id is
pub record IsStable (ss : List SessionIds) (r : Rev) (u : ℕ) : Type 0 where
  pub place : ℕ
  pub session : r.session ≡ place + 1
  pub there : place < length ss
  pub some : 1 ≤ r.num
  pub made : r.num ≤ (session_at ss place).generated
  pub is : u ≡ nth_uuid (session_at ss place) r.num

pub cases_session : (o : Option SessionIds) → (o ≡ None) ⊎ ((x : SessionIds) × (o ≡ Some x))
cases_session None = inl refl
cases_session (Some x) = inr (x, refl)

pub session_known : (ss : List SessionIds) (s : ℕ) (x : SessionIds) → session_of ss s ≡ Some x → (s ≡ (s - 1) + 1) × (s - 1 < length ss) × (session_at ss (s - 1) ≡ x)
session_known ss s x e = elim (cases_Bool (s == 0)) [
  | inl t ↦ let none : None ≡ Some x = rw t at e in cc
  | inr t ↦
      let some : 0 < s = grind (arith, nat_tests, t) in
      let got : slice_get ss (s - 1) ≡ Some x = rw t at e in
      let within : s - 1 < length ss = slice_get_within ss (s - 1) x got in
      let same : slice_get ss (s - 1) ≡ Some (session_at ss (s - 1)) = slice_get-get_or ss (s - 1) no_session within in
      (omega (arith, some), within, cc (same, got))
]

stable_made : (x : SessionIds) (n u : ℕ) → stable_in (Some x) n ≡ Some u → (1 ≤ n) × (n ≤ x.generated) × (u ≡ nth_uuid x n)
stable_made x n u e = elim (cases_Bool (nat_le 1 n && nat_le n x.generated)) [
  | inl t ↦ let made : Some (nth_uuid x n) ≡ Some u = rw t at e in (grind (arith, nat_tests, t), grind (arith, nat_tests, t), cc made)
  | inr t ↦ let none : None ≡ Some u = rw t at e in absurd (cc none)
]

pub stable_parts : (ss : List SessionIds) (r : Rev) (u : ℕ) → stable_of ss r ≡ Some u → IsStable ss r u
stable_parts ss r u e = elim (cases_session (session_of ss r.session)) [
  | inl n ↦ let none : None ≡ Some u = rw n at e in absurd (cc none)
  | inr h ↦
      let known = session_known ss r.session h.0 h.1 in
      let made = stable_made h.0 r.num u (rw h.1 at e) in
      record { place = r.session - 1; session = known.0; there = known.1; some = made.0; made = rw known.2 made.1; is = rw known.2 made.2 }
]

pub stable_made_of : (ss : List SessionIds) (r : Rev) (k : ℕ) → r.session ≡ k + 1 → k < length ss → 1 ≤ r.num → r.num ≤ (session_at ss k).generated → stable_of ss r ≡ Some (nth_uuid (session_at ss k) r.num)
stable_made_of ss r k session within some made =
    let back : r.session - 1 ≡ k = omega (arith, session) in
    let test : (r.session == 0) ≡ false = grind (arith, nat_tests, session) in
    let counts : (nat_le 1 r.num && nat_le r.num (session_at ss k).generated) ≡ true = grind (arith, nat_tests, some, made) in
    rw (test, back, slice_get-get_or ss k no_session within, counts) refl

-- the free number of a stable id
number_of : (ss : List SessionIds) (cs : List Cluster) (ps : List (List ℕ)) (r : Rev) (u : ℕ) → IsSound ss cs ps → (h : IsStable ss r u) → (is_v4 u ≡ true) × (free_number u < 2 ^ 122) × (ahead (free_at ss h.place) (free_number u) ≡ r.num - 1) × (r.num - 1 < 2 ^ 32)
number_of ss cs ps r u sound h =
    let c : AreCounts (session_at ss h.place) = sound.counts h.place h.there in
    let low : free_at ss h.place < 2 ^ 122 = free_low (session_at ss h.place).uuid (sound.wide h.place h.there) in
    let few : r.num - 1 < 2 ^ 32 = omega (arith, h.made, c.made) in
    let free : free_number u ≡ free_after (free_at ss h.place) (r.num - 1) = ap (λ (v : ℕ). free_number v) h.is ∙ free_of_uuid (free_after (free_at ss h.place) (r.num - 1)) (after_low (free_at ss h.place) (r.num - 1)) in
    let bound : free_after (free_at ss h.place) (r.num - 1) < 2 ^ 122 = after_low (free_at ss h.place) (r.num - 1) in (
      ap (λ (v : ℕ). is_v4 v) h.is ∙ uuid_is_v4 (free_after (free_at ss h.place) (r.num - 1)) bound,
      rw free bound,
      ap (λ (x : ℕ). ahead (free_at ss h.place) x) free ∙ ahead_after (free_at ss h.place) (r.num - 1) low (omega (arith, few)),
      few,
    )

-- no other id has it
pub one_stable : (ss : List SessionIds) (cs : List Cluster) (ps : List (List ℕ)) (r s : Rev) (u : ℕ) → IsSound ss cs ps → stable_of ss r ≡ Some u → stable_of ss s ≡ Some u → r ≡ s
one_stable ss cs ps r s u sound hr hs =
    let h : IsStable ss r u = stable_parts ss r u hr in
    let k : IsStable ss s u = stable_parts ss s u hs in
    let nh = number_of ss cs ps r u sound h in
    let nk = number_of ss cs ps s u sound k in
    let same : h.place ≡ k.place = one_span ss cs ps h.place k.place (free_number u) sound h.there k.there nh.1 (omega (arith, nh.2, nh.3)) (omega (arith, nk.2, nk.3)) in
    let ahead_same : ahead (free_at ss h.place) (free_number u) ≡ ahead (free_at ss k.place) (free_number u) = ap (λ (i : ℕ). ahead (free_at ss i) (free_number u)) same in
    rev_is r s (omega (arith, h.session, k.session, same)) (omega (arith, ahead_same, nh.2, nk.2, h.some, k.some))

-- ## What is found

-- the session at a place has the number in its span
spans_it : (free : ℕ) (ss : List SessionIds) (place : ℕ) → session_spanning free ss ≡ Some place → (place < length ss) × (ahead (free_at ss place) free < 2 ^ 32)
spans_it free ss place e =
    let found = position-Some (λ (x : SessionIds). nat_lt (ahead (free_number x.uuid) free) (2 ^ 32)) ss place no_session e in
    (found.0, grind (arith, nat_tests, found.1))

pub found_ok : (ss : List SessionIds) (cs : List Cluster) (ps : List (List ℕ)) (u free place : ℕ) (x : SessionIds) → IsSound ss cs ps → u < 2 ^ 128 → is_v4 u ≡ true → free ≡ free_number u → session_spanning free ss ≡ Some place → x ≡ get_or ss place x
    → IfOk (id_at place x free) (λ r. stable_of ss r ≡ Some u)
found_ok ss cs ps u free place x sound wide v4 is spans read =
    let span = spans_it free ss place spans in
    let here : session_at ss place ≡ x = read_at ss place x span.0 read in
    let low : free_at ss place < 2 ^ 122 = free_low (session_at ss place).uuid (sound.wide place span.0) in
    let bound : free < 2 ^ 122 = rw is (free_low u wide) in
    rw (sym here) (elim (cases_Bool (nat_lt (ahead (free_at ss place) free) (session_at ss place).generated)) [
      | inl t ↦
          let less : ahead (free_at ss place) free < (session_at ss place).generated = grind (arith, nat_tests, t) in
          let made : stable_of ss (record { session = place + 1; num = ahead (free_at ss place) free + 1 }) ≡ Some (nth_uuid (session_at ss place) (ahead (free_at ss place) free + 1)) =
          stable_made_of ss (record { session = place + 1; num = ahead (free_at ss place) free + 1 }) place refl span.0 (omega arith) (omega (arith, less)) in
          let back : ahead (free_at ss place) free + 1 - 1 ≡ ahead (free_at ss place) free = omega arith in
          let number : free_after (free_at ss place) (ahead (free_at ss place) free + 1 - 1) ≡ free = rw back (after_ahead (free_at ss place) free low bound) in
          rw t (made ∙ ap (λ (v : ℕ). Some v) (ap (λ (v : ℕ). uuid_of v) (number ∙ is) ∙ uuid_of_free u wide v4))
      | inr t ↦ rw t tt
    ])

pub found_back : (ss : List SessionIds) (cs : List Cluster) (ps : List (List ℕ)) (u free place : ℕ) (x : SessionIds) → IsSound ss cs ps → free ≡ free_number u → session_spanning free ss ≡ Some place → x ≡ get_or ss place x
    → (r : Rev) → stable_of ss r ≡ Some u → id_at place x free ≡ Ok r
found_back ss cs ps u free place x sound is spans read r stable =
    let span = spans_it free ss place spans in
    let here : session_at ss place ≡ x = read_at ss place x span.0 read in
    let h : IsStable ss r u = stable_parts ss r u stable in
    let n = number_of ss cs ps r u sound h in
    let bound : free < 2 ^ 122 = rw is n.1 in
    let its : ahead (free_at ss h.place) free ≡ r.num - 1 = rw is n.2 in
    let same : h.place ≡ place = one_span ss cs ps h.place place free sound h.there span.0 bound (omega (arith, its, n.3)) span.1 in
    let at_place : ahead (free_at ss place) free ≡ r.num - 1 = rw same at its in
    let made : r.num ≤ (session_at ss place).generated = rw same at h.made in
    let session : r.session ≡ place + 1 = h.session ∙ ap (λ (i : ℕ). i + 1) same in
    let test : nat_lt (ahead (free_at ss place) free) (session_at ss place).generated ≡ true = grind (arith, nat_tests, at_place, made, h.some) in
    rw (sym here, test) (ap (λ (s : Rev). Ok s) (rev_is (record { session = place + 1; num = ahead (free_at ss place) free + 1 }) r (sym session) (omega (arith, at_place, h.some))))

none_spans : (b : Bool) (i : ℕ) → cond b (Some i) None ≡ None → b ≡ false
none_spans true i e = cc
none_spans false i e = refl

pub found_none : (ss : List SessionIds) (cs : List Cluster) (ps : List (List ℕ)) (u free : ℕ) → IsSound ss cs ps → free ≡ free_number u → session_spanning free ss ≡ None → (r : Rev) → stable_of ss r ≡ Some u → ⊥
found_none ss cs ps u free sound is none r stable =
    let h : IsStable ss r u = stable_parts ss r u stable in
    let n = number_of ss cs ps r u sound h in
    let its : ahead (free_at ss h.place) free ≡ r.num - 1 = rw is n.2 in
    let test : nat_lt (position_or_len (λ (x : SessionIds). nat_lt (ahead (free_number x.uuid) free) (2 ^ 32)) ss) (length ss) ≡ false = none_spans _ _ none in
    let past : length ss ≤ position_or_len (λ (x : SessionIds). nat_lt (ahead (free_number x.uuid) free) (2 ^ 32)) ss = grind (arith, nat_tests, test) in
    let far : nat_lt (ahead (free_at ss h.place) free) (2 ^ 32) ≡ false = fails_before_first (λ (x : SessionIds). nat_lt (ahead (free_number x.uuid) free) (2 ^ 32)) ss h.place no_session (omega (arith, past, h.there)) in
    grind (arith, nat_tests, far, its, n.3)

pub not_v4 : (ss : List SessionIds) (cs : List Cluster) (ps : List (List ℕ)) (u : ℕ) → IsSound ss cs ps → is_v4 u ≡ false → (r : Rev) → stable_of ss r ≡ Some u → ⊥
not_v4 ss cs ps u sound test r stable =
    let n = number_of ss cs ps r u sound (stable_parts ss r u stable) in
    cc (test, n.0)
