-- What a world stands for.
use Rattle.std.specs.Prelude.{◌≡◌, ◌⊎◌, ℕ, ◌+◌, ◌<◌, ◌≤◌, ◌^◌, true, false, length}
use Rattle.std.specs.List.{AllByRecursion}
use Rattle.st_script.specs.Header.{HeaderView, header_view}
use Rattle.st_lists.specs.Log.{sessions_in}
use Rattle.st_lists.specs.declared.lists.Client.{Client}
use Rattle.st_lists.specs.declared.lists.WorldState.{WorldState}
use Rattle.st_plain.specs.declared.world.World.{World}
use Rattle.st_plain.specs.Replicas.{IsSound}

-- a world that a header opened stands for these lists, after so many steps
pub record Stands (steps : ℕ) (w : World) (h : HeaderView) (v : WorldState) : Type 0 where
  pub header : header_view w.header ≡ h
  pub lists : w.lists ≡ v
  pub counted : w.steps ≡ steps
  pub fresh : w.spent ≡ false
  pub sound : IsSound w

-- it found no memory, and makes no more steps
abbrev pub IsSpent : World → Type 0
IsSpent w = w.spent ≡ true

-- it may be asked for a step: it stands for some lists, or is spent
abbrev pub MayStep : World → Type 0
MayStep w = IsSpent w ⊎ ((steps : ℕ) × (h : HeaderView) × (v : WorldState) × Stands steps w h v × (steps + 1 < 2 ^ 32))

-- after so many steps no client has generated more ids, the log has at most 65,535 entries, and no more sessions joined
pub record IsSmall (steps : ℕ) (v : WorldState) : Type 0 where
  pub ids : AllByRecursion (λ (c : Client). c.ids ≤ steps) v.clients
  pub entries : length v.log ≤ 65535
  pub sessions : sessions_in v.log ≤ length v.log
