-- A table of which only the finalised ids are kept.
use Rattle.std.proofs.Common.{◌≡◌, ◌⊎◌, inl, inr, ◌+◌, ◌-◌, ℕ, true, false, refl, sym, ap, ◌∙◌, arith, List, [], ◌∷◌, ◌++◌, length, map, set, Option, Some, None, subst}
use Rattle.std.proofs.lemmas.Bool.{cases_Bool}
use Rattle.std.proofs.lemmas.List.{length-map, map-append, map-set, get_or-map}
use Rattle.std.proofs.lemmas.Bool.Decides.{nat_tests}
use Rattle.std.proofs.lemmas.Option.{slice_get-get_or}
use Rattle.std.proofs.Math.Seq.{map-set_same}
use Rattle.std.specs.Prelude.{◌==◌, Result, Ok, Err, max, nat_lt, codes}
use Rattle.serde_json.specs.Data.{Data, object, member, no_members, array}
use Rattle.serde_json.specs.View.{items_of}
use Rattle.st_clusters.specs.Free.{is_v4}
use Rattle.st_clusters.specs.Table.{Ids, no_session, most_ids, session_of, is_next, raise_to, new_session, with_session, join_unless, clash, with_range, after_joining, after_generating, after_taking, after_rewinding, after_finalising}
use Rattle.st_ids.specs.Or.{and_then}
use Rattle.st_clusters.specs.declared.ids.IdFault.{IdFault}
use Rattle.st_clusters.specs.declared.ids.IdFault.TheVariants.{Session, Full, NotV4}
use Rattle.st_clusters.specs.declared.ids.IdRange.{IdRange}
use Rattle.st_clusters.specs.declared.ids.SessionIds.{SessionIds}
use Rattle.st_clusters.proofs.Stable.{cases_session, session_known}
use Rattle.st_idcodec.specs.TableText.{uuid_data, cluster_data, table_data}
use Rattle.st_clusters.specs.Reached.{Call, joining, generating, taking, rewinding, finalising, IsReached, AreWide, after_calls, no_ids}
use Rattle.st_idcodec.specs.Tables.{Step, joins, finalises, IsTable, after_steps, only_finalised, only_final}
use Rattle.st_idcodec.proofs.Complete.{joins_too}
use Rattle.st_idcodec.proofs.Sessions.{IsTaken, is_taken}
use Rattle.st_clusters.proofs.SessionsTouched.{with_joined, joined_is}

uuids_same : (ss : List SessionIds) → map (λ (x : SessionIds). x.uuid) (map only_finalised ss) ≡ map (λ (x : SessionIds). x.uuid) ss
uuids_same [] = refl
uuids_same (x ∷ ss) = ap (λ (us : List ℕ). x.uuid ∷ us) (uuids_same ss)

data_same : (ss : List SessionIds) → map uuid_data (map only_finalised ss) ≡ map uuid_data ss
data_same [] = refl
data_same (x ∷ ss) = ap (λ (ds : List Data). uuid_data x ∷ ds) (data_same ss)

pub value_same : (t : Ids) → table_data (only_final t) ≡ table_data t
value_same t = ap (λ (ds : List Data). object (member (codes "clusters") (array (items_of (map cluster_data t.clusters))) (member (codes "uuids") (array (items_of ds)) no_members))) (data_same t.sessions)

-- the same finalised ids of a session set among the others
same_final : (t : Ids) (s : ℕ) (x y : SessionIds) → session_of t.sessions s ≡ Some x → only_finalised y ≡ only_finalised x → only_final (with_session t s y) ≡ only_final t
same_final t s x y known same =
    let k = session_known t.sessions s x known in
    ap (λ (ss : List SessionIds). record { sessions = ss; clusters = t.clusters }) (map-set_same only_finalised t.sessions (s - 1) y no_session (same ∙ ap only_finalised (sym k.2)))

abbrev second_of : {A : Type 0} → Ids → Result (A × Ids) IdFault → Ids
second_of t (Ok p) = p.1
second_of t (Err f) = t

abbrev first_ok : Ids → Result Ids IdFault → Ids
first_ok t (Ok v) = v
first_ok t (Err f) = t

abbrev number_of : ℕ → Result (ℕ × Ids) IdFault → ℕ
number_of n (Ok p) = p.0
number_of n (Err f) = n

number_unless : (u : ℕ) (t : Ids) (o : Option ℕ) (p : ℕ × Ids) → join_unless u t o ≡ Ok p → length t.sessions + 1 ≡ p.0
number_unless u t (Some s) p e = absurd (cc e)
number_unless u t None p e = ap (number_of 0) e

number_is : (u : ℕ) (t : Ids) (p : ℕ × Ids) → after_joining u t ≡ Ok p → length t.sessions + 1 ≡ p.0
number_is u t p e = elim (cases_Bool (is_v4 u)) [
  | inl v ↦ number_unless u t (clash u t.sessions) p (rw v at e)
  | inr v ↦ let none : ◌≡◌ {A = Result (ℕ × Ids) IdFault} (Err NotV4) (Ok p) = rw v at e in absurd (cc none)
]

pub final_joins : (u n : ℕ) (t w : Ids) → after_joining u t ≡ Ok (n, w) → after_joining u (only_final t) ≡ Ok (n, only_final w)
final_joins u n t w e =
    let number : length t.sessions + 1 ≡ n = number_is u t (n, w) e in
    let made : with_joined u t ≡ w = joined_is u t (n, w) e in
    let long : length (map only_finalised t.sessions) + 1 ≡ n = ap (λ (k : ℕ). k + 1) (length-map t.sessions only_finalised) ∙ number in
    let behind : with_joined u (only_final t) ≡ only_final w =
    ap (λ (ss : List SessionIds). record { sessions = ss; clusters = t.clusters }) (sym (map-append only_finalised t.sessions (new_session u ∷ []))) ∙ ap only_final made in
    joins_too u t (only_final t) (n, w) (sym (uuids_same t.sessions)) e ∙ ap (λ (k : ℕ). Ok (k, with_joined u (only_final t))) long ∙ ap (λ (v : Ids). Ok (n, v)) behind

pub final_generates : (s n : ℕ) (t w : Ids) → after_generating s t ≡ Ok (n, w) → only_final w ≡ only_final t
final_generates s n t w e = elim (cases_session (session_of t.sessions s)) [
  | inl none ↦ let stop : ◌≡◌ {A = Result (ℕ × Ids) IdFault} (Err Session) (Ok (n, w)) = rw none at e in absurd (cc stop)
  | inr h ↦ elim (cases_Bool (nat_lt h.0.generated most_ids)) [
    | inr full ↦ let stop : ◌≡◌ {A = Result (ℕ × Ids) IdFault} (Err Full) (Ok (n, w)) = rw (h.1, full) at e in absurd (cc stop)
    | inl test ↦
        let done : ◌≡◌ {A = Result (ℕ × Ids) IdFault} (Ok (h.0.generated + 1, with_session t s (record h.0 { generated = h.0.generated + 1 }))) (Ok (n, w)) = rw (h.1, test) at e in
        ap only_final (sym (ap (second_of t) done)) ∙ same_final t s h.0 (record h.0 { generated = h.0.generated + 1 }) h.1 refl
  ]
]

pub final_takes : (s : ℕ) (r : IdRange) (t w : Ids) → after_taking s t ≡ Ok (r, w) → only_final w ≡ only_final t
final_takes s r t w e = elim (cases_session (session_of t.sessions s)) [
  | inl none ↦ let stop : ◌≡◌ {A = Result (IdRange × Ids) IdFault} (Err Session) (Ok (r, w)) = rw none at e in absurd (cc stop)
  | inr h ↦
      let done : ◌≡◌ {A = Result (IdRange × Ids) IdFault} (Ok (record { session = s; first = h.0.taken + 1; count = h.0.generated - h.0.taken }, with_session t s (record h.0 { taken = h.0.generated }))) (Ok (r, w)) = rw h.1 at e in
      ap only_final (sym (ap (second_of t) done)) ∙ same_final t s h.0 (record h.0 { taken = h.0.generated }) h.1 refl
]

pub final_rewinds : (s : ℕ) (t w : Ids) → after_rewinding s t ≡ Ok w → only_final w ≡ only_final t
final_rewinds s t w e = elim (cases_session (session_of t.sessions s)) [
  | inl none ↦ let stop : ◌≡◌ {A = Result Ids IdFault} (Err Session) (Ok w) = rw none at e in absurd (cc stop)
  | inr h ↦
      let done : ◌≡◌ {A = Result Ids IdFault} (Ok (with_session t s (record h.0 { taken = h.0.finalised }))) (Ok w) = rw h.1 at e in
      ap only_final (sym (ap (first_ok t) done)) ∙ same_final t s h.0 (record h.0 { taken = h.0.finalised }) h.1 refl
]

raise_same : (x : SessionIds) (c : ℕ) → raise_to (only_finalised x) (x.finalised + c) ≡ only_finalised (raise_to x (x.finalised + c))
raise_same x c = let m : max x.finalised (x.finalised + c) ≡ x.finalised + c = omega arith in rw m refl

known_final : (t u : Ids) (r : IdRange) (took : IsTaken r t u) → session_of (map only_finalised t.sessions) r.session ≡ Some (only_finalised took.ids)
known_final t u r took =
    let test : (r.session == 0) ≡ false = grind (arith, nat_tests, took.number) in
    let long : length (map only_finalised t.sessions) ≡ length t.sessions = length-map t.sessions only_finalised in
    rw test (slice_get-get_or (map only_finalised t.sessions) (r.session - 1) no_session (omega (arith, took.within, long))
    ∙ ap (λ (x : SessionIds). Some x) (get_or-map only_finalised t.sessions (r.session - 1) no_session no_session took.within ∙ ap only_finalised took.here))

pub final_finalises : (r : IdRange) (t w : Ids) → after_finalising r t ≡ Ok w → after_finalising r (only_final t) ≡ Ok (only_final w)
final_finalises r t w e =
    let took : IsTaken r t w = is_taken r t w e in
    let test : is_next r (only_finalised took.ids) ≡ true = grind (arith, nat_tests, took.next, took.few) in
    let put : set (map only_finalised t.sessions) (r.session - 1) (raise_to (only_finalised took.ids) (took.ids.finalised + r.count)) ≡ map only_finalised (set t.sessions (r.session - 1) (raise_to took.ids (took.ids.finalised + r.count))) =
    ap (λ (y : SessionIds). set (map only_finalised t.sessions) (r.session - 1) y) (raise_same took.ids r.count) ∙ sym (map-set only_finalised t.sessions (r.session - 1) (raise_to took.ids (took.ids.finalised + r.count))) in
    rw (known_final t w r took, test) (ap (λ (ss : List SessionIds). Ok (record { sessions = ss; clusters = with_range r t.clusters })) put ∙ ap (λ (v : Ids). Ok (only_final v)) took.made)

-- ## Any calls

steps_then : (xs ys : List Step) (a : Ids) → after_steps (xs ++ ys) a ≡ and_then (after_steps xs a) (λ v. after_steps ys v)
steps_then [] ys a = refl
steps_then (joins u ∷ xs) ys a = elim (after_joining u a) as (λ o. and_then o (λ p. after_steps (xs ++ ys) p.1) ≡ and_then (and_then o (λ p. after_steps xs p.1)) (λ v. after_steps ys v)) [ Ok p ↦ steps_then xs ys p.1 | Err f ↦ refl ]
steps_then (finalises r ∷ xs) ys a = elim (after_finalising r a) as (λ o. and_then o (λ v. after_steps (xs ++ ys) v) ≡ and_then (and_then o (λ v. after_steps xs v)) (λ v. after_steps ys v)) [ Ok v ↦ steps_then xs ys v | Err f ↦ refl ]

-- steps that lead to a table
abbrev LedTo : Ids → Type 0
LedTo t = (steps : List Step) × (after_steps steps no_ids ≡ Ok t)

LedTo-after_steps : (s : Step) (t v : Ids) → LedTo t → after_steps (s ∷ []) t ≡ Ok v → LedTo v
LedTo-after_steps s t v led e = (led.0 ++ s ∷ [], steps_then led.0 (s ∷ []) no_ids ∙ ap (λ (o : Result Ids IdFault). and_then o (λ w. after_steps (s ∷ []) w)) led.1 ∙ e)

join_more : (u n : ℕ) (t v : Ids) → LedTo t → after_joining u t ≡ Ok (n, v) → LedTo v
join_more u n t v led e = LedTo-after_steps (joins u) t v led (rw e refl)

range_more : (r : IdRange) (t v : Ids) → LedTo t → after_finalising r t ≡ Ok v → LedTo v
range_more r t v led e = LedTo-after_steps (finalises r) t v led (rw e refl)

same_led : (t v : Ids) → v ≡ t → LedTo t → LedTo v
same_led t v e led = subst LedTo (sym e) led

cases_of : {A : Type 0} (o : Result A IdFault) → ((a : A) × (o ≡ Ok a)) ⊎ ((f : IdFault) × (o ≡ Err f))
cases_of (Ok a) = inl (a, refl)
cases_of (Err f) = inr (f, refl)

no_calls : (f : IdFault) (u : Ids) (B : Type 0) → ◌≡◌ {A = Result Ids IdFault} (Err f) (Ok u) → B
no_calls f u B e = absurd (cc e)

calls_led : (calls : List Call) (t u : Ids) → LedTo (only_final t) → after_calls calls t ≡ Ok u → LedTo (only_final u)
calls_led [] t u led e = let equal : t ≡ u = cc e in subst (λ (v : Ids). LedTo (only_final v)) equal led
calls_led (joining x ∷ calls) t u led e = elim (cases_of (after_joining x t)) [
  | inr f ↦ no_calls f.0 u (LedTo (only_final u)) (rw f.1 at e)
  | inl p ↦ let rest : after_calls calls p.0.1 ≡ Ok u = rw p.1 at e in
      calls_led calls p.0.1 u (join_more x p.0.0 (only_final t) (only_final p.0.1) led (final_joins x p.0.0 t p.0.1 p.1)) rest
]
calls_led (generating s ∷ calls) t u led e = elim (cases_of (after_generating s t)) [
  | inr f ↦ no_calls f.0 u (LedTo (only_final u)) (rw f.1 at e)
  | inl p ↦ let rest : after_calls calls p.0.1 ≡ Ok u = rw p.1 at e in
      calls_led calls p.0.1 u (same_led (only_final t) (only_final p.0.1) (final_generates s p.0.0 t p.0.1 p.1) led) rest
]
calls_led (taking s ∷ calls) t u led e = elim (cases_of (after_taking s t)) [
  | inr f ↦ no_calls f.0 u (LedTo (only_final u)) (rw f.1 at e)
  | inl p ↦ let rest : after_calls calls p.0.1 ≡ Ok u = rw p.1 at e in
      calls_led calls p.0.1 u (same_led (only_final t) (only_final p.0.1) (final_takes s p.0.0 t p.0.1 p.1) led) rest
]
calls_led (rewinding s ∷ calls) t u led e = elim (cases_of (after_rewinding s t)) [
  | inr f ↦ no_calls f.0 u (LedTo (only_final u)) (rw f.1 at e)
  | inl v ↦ let rest : after_calls calls v.0 ≡ Ok u = rw v.1 at e in
      calls_led calls v.0 u (same_led (only_final t) (only_final v.0) (final_rewinds s t v.0 v.1) led) rest
]
calls_led (finalising r ∷ calls) t u led e = elim (cases_of (after_finalising r t)) [
  | inr f ↦ no_calls f.0 u (LedTo (only_final u)) (rw f.1 at e)
  | inl v ↦ let rest : after_calls calls v.0 ≡ Ok u = rw v.1 at e in
      calls_led calls v.0 u (range_more r (only_final t) (only_final v.0) led (final_finalises r t v.0 v.1)) rest
]

pub reached_is : (t : Ids) → IsReached t → IsTable (only_final t)
reached_is t h =
    let led : LedTo (only_final t) = calls_led h.calls no_ids t ([], refl) h.led in
    let long : length (map only_finalised t.sessions) ≡ length t.sessions = length-map t.sessions only_finalised in
    record { steps = led.0; led = led.1; few = omega (arith, h.few, long); wide = subst AreWide (sym (uuids_same t.sessions)) h.wide }
