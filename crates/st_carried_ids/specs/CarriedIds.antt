-- The id of each commit is among those that its session's texts carry up to it.
use Rattle.std.specs.Prelude.{◌≡◌, ℕ, ◌+◌, ◌≤◌, List, [], ◌∷◌, ◌++◌, slice_get, take, Some}
use Rattle.std.specs.List.{AllByRecursion}
use Rattle.st_clusters.specs.Log.{carried_count}
use Rattle.st_clusters.specs.declared.ids.IdRange.{IdRange}
use Rattle.st_marks.specs.declared.intents.Intent.{Intent}
use Rattle.st_lists.specs.Log.{ranges_in, ranges_of}
use Rattle.st_lists.specs.declared.lists.Body.{Body}
use Rattle.st_lists.specs.declared.lists.Body.TheVariants.{Join, Leave, Ack, Commit}
use Rattle.st_lists.specs.declared.lists.Client.{Client}
use Rattle.st_lists.specs.declared.lists.Entry.{Entry}
use Rattle.st_lists.specs.declared.lists.WorldState.{WorldState}

-- a text of a session, behind some ranges: if it is a commit, its id is among those of the session that they and the text
-- carry
abbrev pub IsNumbered : ℕ → List IdRange → Body → Type 0
IsNumbered session ranges (Join uuid) = Unit {0}
IsNumbered session ranges Leave = Unit {0}
IsNumbered session ranges (Ack reference) = Unit {0}
IsNumbered session ranges (Commit reference ids N) = N.rev.num ≤ carried_count session (ranges ++ ids ∷ [])

-- so is each of the texts of a session that wait, behind the ranges of those before it
abbrev pub AreNumbered : ℕ → List IdRange → List Body → Type 0
AreNumbered session ranges [] = Unit {0}
AreNumbered session ranges (text ∷ texts) = IsNumbered session ranges text × AreNumbered session (ranges ++ ranges_of (text ∷ [])) texts

-- the id of each commit of a log is among those of its session that the log carries up to it
abbrev pub IsLogNumbered : List Entry → Type 0
IsLogNumbered log = (i : ℕ) (e : Entry) (reference : ℕ) (ids : IdRange) (N : Intent) → slice_get log i ≡ Some e → e.body ≡ Commit reference ids N
    → N.rev.num ≤ carried_count e.session (ranges_in (take (i + 1) log))

-- each commit of the log, and each that waits in a client's queue, has an id that is carried up to it
pub record CarryIds (w : WorldState) : Type 0 where
  pub log : IsLogNumbered w.log
  pub waiting : AllByRecursion (λ (c : Client). AreNumbered c.session (ranges_in w.log) c.queue) w.clients

-- the log carries at most so many ids of each session
abbrev pub CarryFew : ℕ → List Entry → Type 0
CarryFew most log = (s : ℕ) → carried_count s (ranges_in log) ≤ most
