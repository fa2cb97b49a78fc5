-- The tables that calls lead to.
use Rattle.std.specs.Prelude.{ℕ, ◌≡◌, map, ◌<◌, ◌≤◌, ◌^◌, List, [], ◌∷◌, length, Result, Ok}
use Rattle.st_clusters.specs.Table.{Ids, after_joining, after_generating, after_taking, after_rewinding, after_finalising}
use Rattle.st_clusters.specs.declared.ids.IdFault.{IdFault}
use Rattle.st_clusters.specs.declared.ids.IdRange.{IdRange}
use Rattle.st_clusters.specs.declared.ids.SessionIds.{SessionIds}
use Rattle.st_ids.specs.Or.{and_then}

-- the table of no sessions
abbrev pub no_ids : Ids
no_ids = record { sessions = []; clusters = [] }

-- the UUIDs of the sessions, in order
abbrev pub uuids_in : Ids → List ℕ
uuids_in t = map (λ (x : SessionIds). x.uuid) t.sessions

abbrev pub AreWide : List ℕ → Type 0
AreWide [] = Unit {0}
AreWide (u ∷ us) = (u < 2 ^ 128) × AreWide us

-- a session joins, generates an id, takes its ids, gives them back, or a range is finalised
pub data Call : Type 0 where
  joining : ℕ → Call
  generating : ℕ → Call
  taking : ℕ → Call
  rewinding : ℕ → Call
  finalising : IdRange → Call

-- the table after some calls, or the first refusal
abbrev pub after_calls : List Call → Ids → Result Ids IdFault
after_calls [] t = Ok t
after_calls (joining u ∷ calls) t = and_then (after_joining u t) (λ p. after_calls calls p.1)
after_calls (generating s ∷ calls) t = and_then (after_generating s t) (λ p. after_calls calls p.1)
after_calls (taking s ∷ calls) t = and_then (after_taking s t) (λ p. after_calls calls p.1)
after_calls (rewinding s ∷ calls) t = and_then (after_rewinding s t) (λ v. after_calls calls v)
after_calls (finalising r ∷ calls) t = and_then (after_finalising r t) (λ v. after_calls calls v)

-- a table of 65,535 sessions at most to which some calls lead
pub record IsReached (t : Ids) : Type 0 where
  pub calls : List Call
  pub led : after_calls calls no_ids ≡ Ok t
  pub few : length t.sessions ≤ 65535
  pub wide : AreWide (uuids_in t)
