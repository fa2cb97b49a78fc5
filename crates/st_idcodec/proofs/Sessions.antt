-- Sessions that join, and ranges that are finalised.
use Rattle.std.proofs.Common.{◌≡◌, inl, inr, ◌<◌, ◌≤◌, ◌+◌, ◌-◌, ℕ, true, sym, ap, ◌∙◌, List, [], ◌∷◌, length, set, Some}
use Rattle.std.proofs.lemmas.Bool.{cases_Bool}
use Rattle.std.proofs.Math.Seq.{map-set_same}
use Rattle.std.specs.Prelude.{Result, Ok, Err}
use Rattle.std.specs.Result.{result_ok}
use Rattle.st_clusters.specs.Table.{Ids, no_session, most_ids, session_of, is_next, raise_to, with_range, after_joining, after_finalising}
use Rattle.st_ids.specs.Or.{and_then}
use Rattle.st_clusters.specs.inside.Kept.{session_at}
use Rattle.st_clusters.specs.declared.ids.IdFault.{IdFault}
use Rattle.st_clusters.specs.declared.ids.IdFault.TheVariants.{Session, RangeOrder}
use Rattle.st_clusters.specs.declared.ids.IdRange.{IdRange}
use Rattle.st_clusters.specs.declared.ids.SessionIds.{SessionIds}
use Rattle.st_clusters.proofs.Finalising.{next_parts}
use Rattle.st_clusters.specs.Reached.{uuids_in}
use Rattle.st_clusters.proofs.Stable.{cases_session, session_known}

ids_same : (u v : Ids) → ◌≡◌ {A = Result Ids IdFault} (Ok u) (Ok v) → u ≡ v
ids_same u v e = cc e

-- what a range that was taken says
pub record IsTaken (r : IdRange) (t u : Ids) : Type 0 where
  pub ids : SessionIds
  pub number : r.session ≡ (r.session - 1) + 1
  pub within : r.session - 1 < length t.sessions
  pub here : session_at t.sessions (r.session - 1) ≡ ids
  pub next : r.first ≡ ids.finalised + 1
  pub few : ids.finalised + r.count ≤ most_ids
  pub made : record { sessions = set t.sessions (r.session - 1) (raise_to ids (ids.finalised + r.count)); clusters = with_range r t.clusters } ≡ u

taken_next : (r : IdRange) (t u : Ids) (x : SessionIds) → session_of t.sessions r.session ≡ Some x → is_next r x ≡ true → after_finalising r t ≡ Ok u → IsTaken r t u
taken_next r t u x known test e =
    let made : ◌≡◌ {A = Result Ids IdFault} (Ok (record { sessions = set t.sessions (r.session - 1) (raise_to x (x.finalised + r.count)); clusters = with_range r t.clusters })) (Ok u) = rw (known, test) at e in
    let k = session_known t.sessions r.session x known in
    record {
      ids = x;
      number = k.0;
      within = k.1;
      here = k.2;
      next = (next_parts r x test).0;
      few = (next_parts r x test).1;
      made = ids_same (record { sessions = set t.sessions (r.session - 1) (raise_to x (x.finalised + r.count)); clusters = with_range r t.clusters }) u made;
    }

pub is_taken : (r : IdRange) (t u : Ids) → after_finalising r t ≡ Ok u → IsTaken r t u
is_taken r t u e = elim (cases_session (session_of t.sessions r.session)) [
  | inl n ↦ let none : ◌≡◌ {A = Result Ids IdFault} (Err Session) (Ok u) = rw n at e in absurd (cc none)
  | inr h ↦ elim (cases_Bool (is_next r h.0)) [
    | inl test ↦ taken_next r t u h.0 h.1 test e
    | inr test ↦ let none : ◌≡◌ {A = Result Ids IdFault} (Err (RangeOrder (h.0.finalised + 1))) (Ok u) = rw (h.1, test) at e in absurd (cc none)
  ]
]

-- finalising leaves the UUIDs
pub uuids_kept : (r : IdRange) (t u : Ids) → after_finalising r t ≡ Ok u → uuids_in u ≡ uuids_in t
uuids_kept r t u e =
    let took : IsTaken r t u = is_taken r t u e in
    ap uuids_in (sym took.made) ∙ map-set_same (λ (x : SessionIds). x.uuid) t.sessions (r.session - 1) (raise_to took.ids (took.ids.finalised + r.count)) no_session (ap (λ (x : SessionIds). x.uuid) (sym took.here))

pub from_ok : {A E : Type 0} (r : Result A E) (a : A) → result_ok r ≡ Some a → r ≡ Ok a
from_ok (Ok b) a e = cc e
from_ok (Err f) a e = absurd (cc e)

pub to_ok : {A E : Type 0} (r : Result A E) (a : A) → r ≡ Ok a → result_ok r ≡ Some a
to_ok (Ok b) a e = cc e
to_ok (Err f) a e = absurd (cc e)

-- the table after sessions join in turn, or the first refusal
abbrev pub after_joins : List ℕ → Ids → Result Ids IdFault
after_joins [] t = Ok t
after_joins (u ∷ us) t = and_then (after_joining u t) (λ p. after_joins us p.1)

-- the table after ranges are finalised in turn, or the first refusal
abbrev pub after_log : List IdRange → Ids → Result Ids IdFault
after_log [] t = Ok t
after_log (r ∷ rs) t = and_then (after_finalising r t) (λ u. after_log rs u)
