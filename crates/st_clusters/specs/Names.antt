-- Final numbers, op-space numbers and stable ids.
use Rattle.std.specs.Prelude.{ℕ, ◌≡◌, ◌+◌, ◌-◌, ◌<◌, ◌≤◌, ◌⊎◌, Bool, false, ◌==◌, ◌&&◌, nat_le, nat_lt, List, length, Option, Some, None, if◌then◌else◌, ℤ, pos, negsuc}
use Rattle.std.specs.List.{list_any}
use Rattle.st_ids.specs.declared.names.Rev.{Rev}
use Rattle.st_clusters.specs.Free.{uuid_of, free_number, free_after}
use Rattle.st_clusters.specs.Table.{at, session_of}
use Rattle.st_clusters.specs.declared.ids.Cluster.{Cluster}
use Rattle.st_clusters.specs.declared.ids.IdRange.{IdRange}
use Rattle.st_clusters.specs.declared.ids.SessionIds.{SessionIds}
use Rattle.st_ids.specs.Root.{opening}

-- ## Final numbers

-- a cluster has an id, with a final number
pub record IsWithin (c : Cluster) (r : Rev) (n : ℕ) : Type 0 where
  pub own : c.session ≡ r.session
  pub from : c.first ≤ r.num
  pub before : r.num < c.first + c.used
  pub number : n ≡ c.first_final + (r.num - c.first)

-- one of the clusters has an id, with a final number
pub record IsInTable (cs : List Cluster) (r : Rev) (n : ℕ) : Type 0 where
  pub place : ℕ
  pub there : place < length cs
  pub within : IsWithin (at cs place) r n

-- n is the final number of an id: the opening has 0
abbrev pub IsFinal : List Cluster → Rev → ℕ → Type 0
IsFinal cs r n = ((r ≡ opening) × (n ≡ 0)) ⊎ IsInTable cs r n

-- ## As the author of a message saw them

abbrev pub is_of : Rev → IdRange → Bool
is_of r range = (range.session == r.session) && nat_le range.first r.num && nat_lt r.num (range.first + range.count)

-- whether an id is of one of these ranges
abbrev pub is_later : List IdRange → Rev → Bool
is_later later r = list_any (is_of r) later

-- the final number of an id where the ids of the later ranges have none yet
abbrev pub IsFinalBefore : List Cluster → List IdRange → Rev → ℕ → Type 0
IsFinalBefore cs later r n = ((r ≡ opening) × (n ≡ 0)) ⊎ (IsInTable cs r n × (is_later later r ≡ false))

-- an id that a session has generated
abbrev pub IsOwn : ℕ → ℕ → Rev → Type 0
IsOwn own have r = (r.session ≡ own) × (1 ≤ r.num) × (r.num ≤ have)

-- z is the op-space number of an id: its final number, and where it has none and the session itself generated it,
-- the negative of its num
abbrev pub IsOp : List Cluster → List IdRange → ℕ → ℕ → Rev → ℤ → Type 0
IsOp cs later own have r z = ((n : ℕ) × IsFinalBefore cs later r n × (z ≡ pos n))
    ⊎ (((n : ℕ) → ¬ IsFinalBefore cs later r n) × IsOwn own have r × (z ≡ negsuc (r.num - 1)))

-- ## Stable ids

-- the UUID of the n-th id of a session
abbrev pub nth_uuid : SessionIds → ℕ → ℕ
nth_uuid x n = uuid_of (free_after (free_number x.uuid) (n - 1))

abbrev pub stable_in : Option SessionIds → ℕ → Option ℕ
stable_in None n = None
stable_in (Some x) n = if nat_le 1 n && nat_le n x.generated then Some (nth_uuid x n) else None

-- the stable id, which an id has from its generation on
abbrev pub stable_of : List SessionIds → Rev → Option ℕ
stable_of ss r = stable_in (session_of ss r.session) r.num

-- how many ids a session has generated: none where there is no such session
abbrev pub generated_by : Option SessionIds → ℕ
generated_by None = 0
generated_by (Some x) = x.generated
