-- The tables that sessions and ranges lead to.
use Rattle.std.specs.Prelude.{ℕ, ◌≡◌, map, ◌≤◌, List, [], ◌∷◌, length, Some, Result, Ok}
use Rattle.st_clusters.specs.Reached.{no_ids, uuids_in, AreWide}
use Rattle.st_clusters.specs.Table.{Ids, session_of, after_joining, after_finalising}
use Rattle.st_ids.specs.Or.{and_then}
use Rattle.st_clusters.specs.declared.ids.IdFault.{IdFault}
use Rattle.st_clusters.specs.declared.ids.IdRange.{IdRange}
use Rattle.st_clusters.specs.declared.ids.SessionIds.{SessionIds}

-- a session joins with a UUID, or a range is finalised
pub data Step : Type 0 where
  joins : ℕ → Step
  finalises : IdRange → Step

-- the table after some steps, or the first refusal
abbrev pub after_steps : List Step → Ids → Result Ids IdFault
after_steps [] t = Ok t
after_steps (joins u ∷ steps) t = and_then (after_joining u t) (λ p. after_steps steps p.1)
after_steps (finalises r ∷ steps) t = and_then (after_finalising r t) (λ v. after_steps steps v)

-- a table of 65,535 sessions at most to which some steps lead
pub record IsTable (t : Ids) : Type 0 where
  pub steps : List Step
  pub led : after_steps steps no_ids ≡ Ok t
  pub few : length t.sessions ≤ 65535
  pub wide : AreWide (uuids_in t)

-- each session has taken and generated just the ids that are finalised
abbrev pub AreSettled : Ids → Type 0
AreSettled t = (s : ℕ) (x : SessionIds) → session_of t.sessions s ≡ Some x → (x.generated ≡ x.finalised) × (x.taken ≡ x.finalised)

-- a session whose ids that aren't finalised are not generated
abbrev pub only_finalised : SessionIds → SessionIds
only_finalised x = record { uuid = x.uuid; generated = x.finalised; taken = x.finalised; finalised = x.finalised }

abbrev pub only_final : Ids → Ids
only_final t = record { sessions = map only_finalised t.sessions; clusters = t.clusters }
