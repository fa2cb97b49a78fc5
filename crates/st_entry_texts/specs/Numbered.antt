-- For which entries of a log numbers of ids are kept.
use Rattle.std.specs.Prelude.{◌≡◌, ◌≤◌, ◌+◌, ◌*◌, ◌^◌, ℕ, List, Some, length, slice_get, take}
use Rattle.st_ids.specs.Listing.{Has}
use Rattle.st_clusters.specs.Free.{uuid_of}
use Rattle.st_clusters.specs.Ids.{ids_of}
use Rattle.st_clusters.specs.Log.{AreInTurn, IsTableOf, carried_count}
use Rattle.st_clusters.specs.Table.{most_ids}
use Rattle.st_clusters.specs.declared.ids.IdRange.{IdRange}
use Rattle.st_clusters.specs.declared.ids.SessionIds.{SessionIds}
use Rattle.st_lists.specs.Log.{range_of, ranges_in}
use Rattle.st_lists.specs.declared.lists.Entry.{Entry}
use Rattle.st_entry_texts.specs.declared.numbers.Numbers.{Numbers}

-- the UUID that stands in for that of a session: no final number depends on it
abbrev pub stand_in : ℕ → ℕ
stand_in session = uuid_of (session * 2 ^ 64)

-- each session of a table has the one that stands in
abbrev pub AreStandIns : List SessionIds → Type 0
AreStandIns ss = (i : ℕ) (x : SessionIds) → slice_get ss i ≡ Some x → x.uuid ≡ stand_in (i + 1)

-- the numbers are those that the first entries of a log give, so many of them
pub record IsNumberedTo (log : List Entry) (reference : ℕ) (x : Numbers) : Type 0 where
  pub read : x.read ≡ reference
  pub within : reference ≤ length log
  pub table : IsTableOf (ranges_in (take reference log)) (ids_of x.ids)
  pub sessions : AreStandIns (ids_of x.ids).sessions

-- an entry of a log carries a range
pub record IsRangeAt (log : List Entry) (i : ℕ) (range : IdRange) : Type 0 where
  pub entry : Entry
  pub there : slice_get log i ≡ Some entry
  pub carries : range_of entry ≡ Some range

-- the ranges of a log go on from one another, session by session, and there are few sessions and few ids of each
pub record HasFewIds (log : List Entry) : Type 0 where
  pub turn : AreInTurn (ranges_in log)
  pub ids : (s : ℕ) → carried_count s (ranges_in log) ≤ most_ids
  pub sessions : (r : IdRange) → Has (ranges_in log) r → r.session ≤ 65535
