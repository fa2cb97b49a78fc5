-- What holds of each table, and of the places of clusters that are kept beside it.
use Rattle.std.specs.Prelude.{ℕ, ◌≡◌, ◌+◌, ◌-◌, ◌*◌, ◌^◌, ◌<◌, ◌≤◌, Bool, ◌&&◌, ◌==◌, nat_lt, nat_le, true, false, List, [], length, slice_index_or}
use Rattle.std.specs.List.{sum_by, position_or_len}
use Rattle.st_clusters.specs.Free.{is_v4, free_number, spans_meet}
use Rattle.st_clusters.specs.Table.{at, next_free, places_of, most_ids, no_session}
use Rattle.st_ids.specs.declared.names.Rev.{Rev}
use Rattle.st_clusters.specs.Names.{IsInTable}
use Rattle.st_clusters.specs.declared.ids.Cluster.{Cluster}
use Rattle.st_clusters.specs.declared.ids.SessionIds.{SessionIds}

abbrev pub session_at : List SessionIds → ℕ → SessionIds
session_at ss k = slice_index_or ss k no_session

-- the free number that the span of a session begins with
abbrev pub start : List SessionIds → ℕ → ℕ
start ss k = free_number (session_at ss k).uuid

-- where a place first stands in an order
abbrev pub turn : List ℕ → ℕ → ℕ
turn os k = position_or_len (λ (o : ℕ). o == k) os

-- the places of the sessions, in the order in which their spans begin
pub record AreInOrder (ss : List SessionIds) (os : List ℕ) : Type 0 where
  pub each : length os ≡ length ss
  pub there : (i : ℕ) → i < length os → slice_index_or os i 0 < length ss
  pub rise : (i j : ℕ) → i < j → j < length os → start ss (slice_index_or os i 0) ≤ start ss (slice_index_or os j 0)
  pub every : (k : ℕ) → k < length ss → turn os k < length os

-- clusters whose numbers and ids are apart
pub record AreApart (cs : List Cluster) : Type 0 where
  pub some : (i : ℕ) → i < length cs → 1 ≤ (at cs i).used
  pub fits : (i : ℕ) → i < length cs → (at cs i).used ≤ (at cs i).capacity
  pub numbers_begin : (i : ℕ) → i < length cs → 1 ≤ (at cs i).first_final
  pub ids_begin : (i : ℕ) → i < length cs → 1 ≤ (at cs i).first
  pub numbers : (i j : ℕ) → i < j → j < length cs → (at cs i).first_final + (at cs i).capacity ≤ (at cs j).first_final
  pub ids : (i j : ℕ) → i < j → j < length cs → (at cs i).session ≡ (at cs j).session → (at cs i).first + (at cs i).used ≤ (at cs j).first

-- counts of a session in their order
pub record AreCounts (x : SessionIds) : Type 0 where
  pub final_taken : x.finalised ≤ x.taken
  pub taken_made : x.taken ≤ x.generated
  pub made : x.generated ≤ most_ids

-- how many ids are finalised
abbrev pub finals : List SessionIds → ℕ
finals ss = sum_by (λ (x : SessionIds). x.finalised) ss

-- the whole
pub record IsSound (ss : List SessionIds) (cs : List Cluster) (ps : List (List ℕ)) : Type 0 where
  pub apart : AreApart cs
  pub counts : (k : ℕ) → k < length ss → AreCounts (session_at ss k)
  pub few : length ss ≤ 65535
  pub bound : next_free cs ≤ 1 + 512 * finals ss
  pub owned : (i : ℕ) → i < length cs → (1 ≤ (at cs i).session) × ((at cs i).session ≤ length ss)
  pub finalised : (i : ℕ) → i < length cs → (at cs i).first + (at cs i).used ≤ (session_at ss ((at cs i).session - 1)).finalised + 1
  pub each : length ps ≡ length ss
  pub places : (k : ℕ) → k < length ss → slice_index_or ps k [] ≡ places_of (k + 1) cs
  pub wide : (k : ℕ) → k < length ss → (session_at ss k).uuid < 2 ^ 128
  pub v4 : (k : ℕ) → k < length ss → is_v4 (session_at ss k).uuid ≡ true
  pub spans : (i j : ℕ) → i < j → j < length ss → spans_meet (free_number (session_at ss i).uuid) (free_number (session_at ss j).uuid) ≡ false

-- the last cluster of a session stands at a place
pub record IsLastOf (s : ℕ) (cs : List Cluster) (i : ℕ) : Type 0 where
  pub there : i < length cs
  pub own : (at cs i).session ≡ s
  pub last : (j : ℕ) → i < j → j < length cs → (at cs j).session ≡ s → ⊥

-- whether a place has a cluster, and one that begins with that id or before
abbrev pub begins_by : List Cluster → ℕ → ℕ → Bool
begins_by cs num i = nat_lt i (length cs) && nat_le (at cs i).first num

-- no cluster but the one at a place can have an id
pub record MayHaveId (cs : List Cluster) (r : Rev) (i : ℕ) : Type 0 where
  pub there : i < length cs
  pub own : (at cs i).session ≡ r.session
  pub begins : (at cs i).first ≤ r.num
  pub only : (n : ℕ) (h : IsInTable cs r n) → h.place ≡ i

-- no cluster but the one at a place can have a number
pub record MayHaveNumber (cs : List Cluster) (n i : ℕ) : Type 0 where
  pub there : i < length cs
  pub begins : (at cs i).first_final ≤ n
  pub only : (r : Rev) (h : IsInTable cs r n) → h.place ≡ i
