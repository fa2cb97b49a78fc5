-- Which session a free number belongs to.
use Rattle.std.specs.Prelude.{ℕ, ◌+◌, ◌^◌, ◌<◌, ◌≤◌, Bool, ◌&&◌, nat_lt, nat_le, List, length, slice_index_or, Option, Result, Ok, Err, if◌then◌else◌}
use Rattle.std.specs.List.{position}
use Rattle.st_ids.specs.declared.names.Rev.{Rev}
use Rattle.st_clusters.specs.Free.{free_number, ahead}
use Rattle.st_clusters.specs.inside.Kept.{start}
use Rattle.st_clusters.specs.declared.ids.SessionIds.{SessionIds}
use Rattle.st_clusters.specs.declared.ids.Unknown.{Unknown}

-- the place of the first session that has a free number in its span
abbrev pub session_spanning : ℕ → List SessionIds → Option ℕ
session_spanning free ss = position (λ (x : SessionIds). nat_lt (ahead (free_number x.uuid) free) (2 ^ 32)) ss

-- the id of that number, if the session at a place generated it
abbrev pub id_at : ℕ → SessionIds → ℕ → Result Rev Unknown
id_at place x free = if nat_lt (ahead (free_number x.uuid) free) x.generated
    then Ok (record { session = place + 1; num = ahead (free_number x.uuid) free + 1 }) else Err (record {})

-- whether a place has a session, and one whose span begins with a free number or before
abbrev pub starts_by : List SessionIds → ℕ → ℕ → Bool
starts_by ss free k = nat_lt k (length ss) && nat_le (start ss k) free

-- the first n sessions of an order, and no others, have spans that begin with a free number or before
pub record StartBy (ss : List SessionIds) (os : List ℕ) (free n : ℕ) : Type 0 where
  pub within : n ≤ length os
  pub before : (i : ℕ) → i < n → start ss (slice_index_or os i 0) ≤ free
  pub after : (i : ℕ) → n ≤ i → i < length os → free < start ss (slice_index_or os i 0)

-- the span of the session at a place begins nearest before a free number, where the numbers go round
pub record IsNearest (ss : List SessionIds) (free place : ℕ) : Type 0 where
  pub there : place < length ss
  pub nearest : (k : ℕ) → k < length ss → ahead (start ss place) free ≤ ahead (start ss k) free
