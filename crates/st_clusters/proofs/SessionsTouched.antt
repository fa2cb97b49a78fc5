-- A call that generates, takes or gives back ids changes one session, but for its UUID and what it has finalised; one that joins adds a session at the end.
use Rattle.std.proofs.Common.{◌≡◌, inl, inr, ◌+◌, ◌-◌, ℕ, refl, ap, [], ◌∷◌, ◌++◌, Option, Some, None}
use Rattle.std.proofs.lemmas.Bool.{cases_Bool}
use Rattle.std.specs.Prelude.{Result, Ok, Err, nat_lt}
use Rattle.st_clusters.specs.Free.{is_v4}
use Rattle.st_clusters.specs.Table.{Ids, most_ids, session_of, new_session, clash, join_unless, with_session, after_joining, after_generating, after_taking, after_rewinding}
use Rattle.st_clusters.specs.declared.ids.IdFault.{IdFault}
use Rattle.st_clusters.specs.declared.ids.IdFault.TheVariants.{Session, Full, NotV4}
use Rattle.st_clusters.specs.declared.ids.IdRange.{IdRange}
use Rattle.st_clusters.specs.declared.ids.SessionIds.{SessionIds}
use Rattle.st_clusters.proofs.Stable.{cases_session}

-- one session of a table became another with the same UUID, that has finalised as much
pub record IsTouched (t v : Ids) : Type 0 where
  pub session : ℕ
  pub before : SessionIds
  pub after : SessionIds
  pub known : session_of t.sessions session ≡ Some before
  pub uuid : after.uuid ≡ before.uuid
  pub finalised : after.finalised ≡ before.finalised
  pub made : with_session t session after ≡ v

abbrev second_of : {A : Type 0} → Ids → Result (A × Ids) IdFault → Ids
second_of t (Ok p) = p.1
second_of t (Err f) = t

abbrev first_ok : Ids → Result Ids IdFault → Ids
first_ok t (Ok v) = v
first_ok t (Err f) = t

pub touched_generating : (s n : ℕ) (t v : Ids) → after_generating s t ≡ Ok (n, v) → IsTouched t v
touched_generating s n t v e = elim (cases_session (session_of t.sessions s)) [
  | inl none ↦ let stop : ◌≡◌ {A = Result (ℕ × Ids) IdFault} (Err Session) (Ok (n, v)) = rw none at e in absurd (cc stop)
  | inr h ↦ elim (cases_Bool (nat_lt h.0.generated most_ids)) [
    | inr full ↦ let stop : ◌≡◌ {A = Result (ℕ × Ids) IdFault} (Err Full) (Ok (n, v)) = rw (h.1, full) at e in absurd (cc stop)
    | inl test ↦
        let done : ◌≡◌ {A = Result (ℕ × Ids) IdFault} (Ok (h.0.generated + 1, with_session t s (record h.0 { generated = h.0.generated + 1 }))) (Ok (n, v)) = rw (h.1, test) at e in
        record { session = s; before = h.0; after = record h.0 { generated = h.0.generated + 1 }; known = h.1; uuid = refl; finalised = refl; made = ap (second_of t) done }
  ]
]

pub touched_taking : (s : ℕ) (r : IdRange) (t v : Ids) → after_taking s t ≡ Ok (r, v) → IsTouched t v
touched_taking s r t v e = elim (cases_session (session_of t.sessions s)) [
  | inl none ↦ let stop : ◌≡◌ {A = Result (IdRange × Ids) IdFault} (Err Session) (Ok (r, v)) = rw none at e in absurd (cc stop)
  | inr h ↦
      let done : ◌≡◌ {A = Result (IdRange × Ids) IdFault} (Ok (record { session = s; first = h.0.taken + 1; count = h.0.generated - h.0.taken }, with_session t s (record h.0 { taken = h.0.generated }))) (Ok (r, v)) = rw h.1 at e in
      record { session = s; before = h.0; after = record h.0 { taken = h.0.generated }; known = h.1; uuid = refl; finalised = refl; made = ap (second_of t) done }
]

pub touched_rewinding : (s : ℕ) (t v : Ids) → after_rewinding s t ≡ Ok v → IsTouched t v
touched_rewinding s t v e = elim (cases_session (session_of t.sessions s)) [
  | inl none ↦ let stop : ◌≡◌ {A = Result Ids IdFault} (Err Session) (Ok v) = rw none at e in absurd (cc stop)
  | inr h ↦
      let done : ◌≡◌ {A = Result Ids IdFault} (Ok (with_session t s (record h.0 { taken = h.0.finalised }))) (Ok v) = rw h.1 at e in
      record { session = s; before = h.0; after = record h.0 { taken = h.0.finalised }; known = h.1; uuid = refl; finalised = refl; made = ap (first_ok t) done }
]

-- ## A session joins

abbrev pub with_joined : ℕ → Ids → Ids
with_joined u t = record { sessions = t.sessions ++ new_session u ∷ []; clusters = t.clusters }

joined_unless : (u : ℕ) (t : Ids) (o : Option ℕ) (p : ℕ × Ids) → join_unless u t o ≡ Ok p → with_joined u t ≡ p.1
joined_unless u t (Some s) p e = absurd (cc e)
joined_unless u t None p e = ap (second_of t) e

pub joined_is : (u : ℕ) (t : Ids) (p : ℕ × Ids) → after_joining u t ≡ Ok p → with_joined u t ≡ p.1
joined_is u t p e = elim (cases_Bool (is_v4 u)) [
  | inl v ↦ joined_unless u t (clash u t.sessions) p (rw v at e)
  | inr v ↦ let none : ◌≡◌ {A = Result (ℕ × Ids) IdFault} (Err NotV4) (Ok p) = rw v at e in absurd (cc none)
]
