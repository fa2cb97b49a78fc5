-- One more call leads on from a table that calls lead to.
use Rattle.std.proofs.Common.{◌≡◌, ◌<◌, ◌+◌, ◌-◌, ◌^◌, ℕ, List, [], ◌∷◌, ◌++◌, length, map, refl, sym, subst, ap, ◌∙◌, arith}
use Rattle.std.proofs.lemmas.List.{length-map, length_push, map-append}
use Rattle.std.proofs.Math.Seq.{map-set_same}
use Rattle.std.specs.Prelude.{Result, Ok, Err}
use Rattle.st_ids.specs.Or.{and_then}
use Rattle.st_clusters.specs.Table.{Ids, no_session, new_session, raise_to, after_joining, after_generating, after_taking, after_rewinding, after_finalising}
use Rattle.st_clusters.specs.Reached.{no_ids, uuids_in, AreWide, Call, joining, generating, taking, rewinding, finalising, after_calls, IsReached}
use Rattle.st_clusters.specs.declared.ids.IdFault.{IdFault}
use Rattle.st_clusters.specs.declared.ids.IdRange.{IdRange}
use Rattle.st_clusters.specs.declared.ids.SessionIds.{SessionIds}
use Rattle.st_clusters.proofs.RangeTaken.{WasTaken, was_taken}
use Rattle.st_clusters.proofs.SessionsTouched.{IsTouched, touched_generating, touched_taking, touched_rewinding, with_joined, joined_is}
use Rattle.st_clusters.proofs.Stable.{session_known}

calls_then : (xs ys : List Call) (a : Ids) → after_calls (xs ++ ys) a ≡ and_then (after_calls xs a) (λ v. after_calls ys v)
calls_then [] ys a = refl
calls_then (joining u ∷ xs) ys a = elim (after_joining u a) as (λ o. and_then o (λ p. after_calls (xs ++ ys) p.1) ≡ and_then (and_then o (λ p. after_calls xs p.1)) (λ v. after_calls ys v)) [ Ok p ↦ calls_then xs ys p.1 | Err f ↦ refl ]
calls_then (generating s ∷ xs) ys a = elim (after_generating s a) as (λ o. and_then o (λ p. after_calls (xs ++ ys) p.1) ≡ and_then (and_then o (λ p. after_calls xs p.1)) (λ v. after_calls ys v)) [ Ok p ↦ calls_then xs ys p.1 | Err f ↦ refl ]
calls_then (taking s ∷ xs) ys a = elim (after_taking s a) as (λ o. and_then o (λ p. after_calls (xs ++ ys) p.1) ≡ and_then (and_then o (λ p. after_calls xs p.1)) (λ v. after_calls ys v)) [ Ok p ↦ calls_then xs ys p.1 | Err f ↦ refl ]
calls_then (rewinding s ∷ xs) ys a = elim (after_rewinding s a) as (λ o. and_then o (λ v. after_calls (xs ++ ys) v) ≡ and_then (and_then o (λ v. after_calls xs v)) (λ v. after_calls ys v)) [ Ok v ↦ calls_then xs ys v | Err f ↦ refl ]
calls_then (finalising r ∷ xs) ys a = elim (after_finalising r a) as (λ o. and_then o (λ v. after_calls (xs ++ ys) v) ≡ and_then (and_then o (λ v. after_calls xs v)) (λ v. after_calls ys v)) [ Ok v ↦ calls_then xs ys v | Err f ↦ refl ]

called : (c : Call) (t v : Ids) (led : IsReached t) → after_calls (c ∷ []) t ≡ Ok v → after_calls (led.calls ++ c ∷ []) no_ids ≡ Ok v
called c t v led e = calls_then led.calls (c ∷ []) no_ids ∙ ap (λ (o : Result Ids IdFault). and_then o (λ w. after_calls (c ∷ []) w)) led.led ∙ e

-- ## The UUIDs stay

reaches : (c : Call) (t v : Ids) → IsReached t → after_calls (c ∷ []) t ≡ Ok v → uuids_in v ≡ uuids_in t → IsReached v
reaches c t v led e same =
    let of_v : length (uuids_in v) ≡ length v.sessions = length-map v.sessions (λ (x : SessionIds). x.uuid) in
    let of_t : length (uuids_in t) ≡ length t.sessions = length-map t.sessions (λ (x : SessionIds). x.uuid) in
    let long : length (uuids_in v) ≡ length (uuids_in t) = ap length same in
    record { calls = led.calls ++ c ∷ []; led = called c t v led e; few = omega (arith, led.few, of_v, of_t, long); wide = subst AreWide (sym same) led.wide }

uuids_touched : (t v : Ids) → IsTouched t v → uuids_in v ≡ uuids_in t
uuids_touched t v h =
    let k = session_known t.sessions h.session h.before h.known in
    ap uuids_in (sym h.made) ∙ map-set_same (λ (x : SessionIds). x.uuid) t.sessions (h.session - 1) h.after no_session (h.uuid ∙ ap (λ (x : SessionIds). x.uuid) (sym k.2))

pub reached_generates : (s n : ℕ) (t v : Ids) → IsReached t → after_generating s t ≡ Ok (n, v) → IsReached v
reached_generates s n t v led e = reaches (generating s) t v led (rw e refl) (uuids_touched t v (touched_generating s n t v e))

pub reached_takes : (s : ℕ) (r : IdRange) (t v : Ids) → IsReached t → after_taking s t ≡ Ok (r, v) → IsReached v
reached_takes s r t v led e = reaches (taking s) t v led (rw e refl) (uuids_touched t v (touched_taking s r t v e))

pub reached_rewinds : (s : ℕ) (t v : Ids) → IsReached t → after_rewinding s t ≡ Ok v → IsReached v
reached_rewinds s t v led e = reaches (rewinding s) t v led (rw e refl) (uuids_touched t v (touched_rewinding s t v e))

pub reached_finalises : (r : IdRange) (t v : Ids) → IsReached t → after_finalising r t ≡ Ok v → IsReached v
reached_finalises r t v led e =
    let took : WasTaken r t v = was_taken r t v e in
    let k = session_known t.sessions r.session took.ids took.known in
    reaches (finalising r) t v led (rw e refl) (ap (λ ss. map (λ (x : SessionIds). x.uuid) ss) took.sessions
    ∙ map-set_same (λ (x : SessionIds). x.uuid) t.sessions (r.session - 1) (raise_to took.ids (took.ids.finalised + r.count)) no_session (ap (λ (x : SessionIds). x.uuid) (sym k.2)))

-- ## A session joins

wide_more : (us : List ℕ) (u : ℕ) → AreWide us → u < 2 ^ 128 → AreWide (us ++ u ∷ [])
wide_more [] u wide low = (low, tt)
wide_more (x ∷ us) u wide low = (wide.0, wide_more us u wide.1 low)

pub reached_joins : (u n : ℕ) (t v : Ids) → IsReached t → length t.sessions < 65535 → u < 2 ^ 128 → after_joining u t ≡ Ok (n, v) → IsReached v
reached_joins u n t v led room low e =
    let long : length (t.sessions ++ new_session u ∷ []) ≡ length t.sessions + 1 = length_push t.sessions (new_session u) in
    let made : with_joined u t ≡ v = joined_is u t (n, v) e in
    let same : uuids_in v ≡ uuids_in t ++ u ∷ [] = ap uuids_in (sym made) ∙ map-append (λ (x : SessionIds). x.uuid) t.sessions (new_session u ∷ []) in
    let count : length v.sessions ≡ length t.sessions + 1 = ap (λ (w : Ids). length w.sessions) (sym made) ∙ long in
    record {
      calls = led.calls ++ joining u ∷ [];
      led = called (joining u) t v led (rw e refl);
      few = omega (arith, room, count);
      wide = subst AreWide (sym same) (wide_more (uuids_in t) u led.wide low);
    }

pub reached_begins : IsReached no_ids
reached_begins = record { calls = []; led = refl; few = omega arith; wide = tt }
