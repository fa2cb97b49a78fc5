-- What a range that is finalised changes: the clusters, and the session that it is of.
use Rattle.std.proofs.Common.{◌≡◌, ◌≢◌, ◌⊎◌, inl, inr, ◌<◌, ◌+◌, ◌-◌, ℕ, true, false, List, [], ◌∷◌, ◌++◌, length, set, refl, sym, ap, ◌∙◌, arith, length-set, Some}
use Rattle.std.proofs.lemmas.List.{get_or-set_same, get_or-set_other}
use Rattle.std.proofs.lemmas.Bool.{cases_eq, cases_Bool}
use Rattle.std.proofs.lemmas.Bool.Decides.{nat_tests}
use Rattle.std.proofs.lemmas.Option.{slice_get-get_or}
use Rattle.std.specs.Prelude.{Result, Ok, Err, ◌==◌}
use Rattle.st_clusters.specs.Table.{Ids, no_session, session_of, is_next, raise_to, with_range, after_finalising}
use Rattle.st_clusters.specs.Log.{carried_count}
use Rattle.st_clusters.specs.inside.Kept.{session_at}
use Rattle.st_clusters.specs.declared.ids.IdFault.{IdFault}
use Rattle.st_clusters.specs.declared.ids.IdFault.TheVariants.{Session, RangeOrder}
use Rattle.st_clusters.specs.declared.ids.IdRange.{IdRange}
use Rattle.st_clusters.specs.declared.ids.SessionIds.{SessionIds}
use Rattle.st_clusters.proofs.Finalising.{next_parts}
use Rattle.st_clusters.proofs.Logs.{carried_own, carried_other}
use Rattle.st_clusters.proofs.Stable.{cases_session, session_known}

-- what a range that was taken says
pub record WasTaken (r : IdRange) (t u : Ids) : Type 0 where
  pub ids : SessionIds
  pub known : session_of t.sessions r.session ≡ Some ids
  pub next : r.first ≡ ids.finalised + 1
  pub clusters : u.clusters ≡ with_range r t.clusters
  pub sessions : u.sessions ≡ set t.sessions (r.session - 1) (raise_to ids (ids.finalised + r.count))

ids_same : {E : Type 0} (u v : Ids) → ◌≡◌ {A = Result Ids E} (Ok u) (Ok v) → u ≡ v
ids_same u v e = cc e

taken_next : (r : IdRange) (t u : Ids) (x : SessionIds) → session_of t.sessions r.session ≡ Some x → is_next r x ≡ true → after_finalising r t ≡ Ok u → WasTaken r t u
taken_next r t u x known test e =
    let made : ◌≡◌ {A = Result Ids IdFault} (Ok (record { sessions = set t.sessions (r.session - 1) (raise_to x (x.finalised + r.count)); clusters = with_range r t.clusters })) (Ok u) = rw (known, test) at e in
    let same : record { sessions = set t.sessions (r.session - 1) (raise_to x (x.finalised + r.count)); clusters = with_range r t.clusters } ≡ u = ids_same (record { sessions = set t.sessions (r.session - 1) (raise_to x (x.finalised + r.count)); clusters = with_range r t.clusters }) u made in
    record { ids = x; known = known; next = (next_parts r x test).0; clusters = sym (ap (λ (v : Ids). v.clusters) same); sessions = sym (ap (λ (v : Ids). v.sessions) same) }

pub was_taken : (r : IdRange) (t u : Ids) → after_finalising r t ≡ Ok u → WasTaken r t u
was_taken r t u e = elim (cases_session (session_of t.sessions r.session)) [
  | inl n ↦ let none : ◌≡◌ {A = Result Ids IdFault} (Err Session) (Ok u) = rw n at e in absurd (cc none)
  | inr h ↦ elim (cases_Bool (is_next r h.0)) [
    | inl test ↦ taken_next r t u h.0 h.1 test e
    | inr test ↦ let none : ◌≡◌ {A = Result Ids IdFault} (Err (RangeOrder (h.0.finalised + 1))) (Ok u) = rw (h.1, test) at e in absurd (cc none)
  ]
]

-- the sessions have finalised what some ranges carry
abbrev pub HaveCarried : List IdRange → List SessionIds → Type 0
HaveCarried before ss = (s : ℕ) (x : SessionIds) → session_of ss s ≡ Some x → x.finalised ≡ carried_count s before

pub known_session : (ss : List SessionIds) (s k : ℕ) → s ≡ k + 1 → k < length ss → session_of ss s ≡ Some (session_at ss k)
known_session ss s k number within =
    let back : s - 1 ≡ k = omega (arith, number) in
    let test : (s == 0) ≡ false = grind (arith, nat_tests, number) in
    rw (test, back) (slice_get-get_or ss k no_session within)

pub carried_on : (before : List IdRange) (r : IdRange) (t u : Ids) → HaveCarried before t.sessions → WasTaken r t u → HaveCarried (before ++ r ∷ []) u.sessions
carried_on before r t u have took s x e =
    let y : SessionIds = raise_to took.ids (took.ids.finalised + r.count) in
    let in_set : session_of (set t.sessions (r.session - 1) (raise_to took.ids (took.ids.finalised + r.count))) s ≡ Some x = rw took.sessions at e in
    let known = session_known (set t.sessions (r.session - 1) (raise_to took.ids (took.ids.finalised + r.count))) s x in_set in
    let long : length (set t.sessions (r.session - 1) (raise_to took.ids (took.ids.finalised + r.count))) ≡ length t.sessions = length-set t.sessions (r.session - 1) (raise_to took.ids (took.ids.finalised + r.count)) in
    let of_r = session_known t.sessions r.session took.ids took.known in
    elim (cases_eq (s - 1) (r.session - 1)) [
      | inl same ↦
          let own : r.session ≡ s = omega (arith, same, known.0, of_r.0) in
          let here : raise_to took.ids (took.ids.finalised + r.count) ≡ x =
          sym (get_or-set_same t.sessions (r.session - 1) (raise_to took.ids (took.ids.finalised + r.count)) no_session of_r.1)
          ∙ ap (λ (k : ℕ). session_at (set t.sessions (r.session - 1) (raise_to took.ids (took.ids.finalised + r.count))) k) (sym same) ∙ known.2 in
          let count : took.ids.finalised + r.count ≡ x.finalised = ap (λ (z : SessionIds). z.finalised) here in
          let old : took.ids.finalised ≡ carried_count r.session before = have r.session took.ids took.known in
          let of_s : carried_count r.session before ≡ carried_count s before = ap (λ (i : ℕ). carried_count i before) own in
          let more : carried_count s (before ++ r ∷ []) ≡ carried_count s before + r.count = carried_own s before r own in
          omega (arith, count, old, of_s, more)
      | inr other ↦
          let apart : r.session ≢ s = λ own. other (ap (λ (i : ℕ). i - 1) (sym own)) in
          let within : s - 1 < length t.sessions = omega (arith, known.1, long) in
          let here : session_at t.sessions (s - 1) ≡ x = sym (get_or-set_other t.sessions (r.session - 1) (s - 1) (raise_to took.ids (took.ids.finalised + r.count)) no_session other) ∙ known.2 in
          let old : (session_at t.sessions (s - 1)).finalised ≡ carried_count s before = have s (session_at t.sessions (s - 1)) (known_session t.sessions s (s - 1) known.0 within) in
          let count : (session_at t.sessions (s - 1)).finalised ≡ x.finalised = ap (λ (z : SessionIds). z.finalised) here in
          sym count ∙ old ∙ sym (carried_other s before r apart)
    ]

pub cases_result : (o : Result Ids IdFault) → ((v : Ids) × (o ≡ Ok v)) ⊎ ((f : IdFault) × (o ≡ Err f))
cases_result (Ok v) = inl (v, refl)
cases_result (Err f) = inr (f, refl)
