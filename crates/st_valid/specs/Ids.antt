-- The ids that a message carries, and its revision.
use Rattle.std.specs.Prelude.{ℕ, ◌+◌, ◌==◌, ◌&&◌, nat_le, not, is_some, Bool, true, false, List}
use Rattle.std.specs.List.{list_any}
use Rattle.std.specs.Option.{option_map_or}
use Rattle.st_ids.specs.Order.{same_rev}
use Rattle.st_ids.specs.declared.names.Rev.{Rev}
use Rattle.st_clusters.specs.Log.{carried_count}
use Rattle.st_clusters.specs.Table.{most_ids}
use Rattle.st_clusters.specs.declared.ids.IdRange.{IdRange}
use Rattle.st_lists.specs.Log.{commits_in, ranges_in}
use Rattle.st_lists.specs.declared.lists.Entry.{Entry}
use Rattle.st_marks.specs.declared.changes.Change.{Change}
use Rattle.st_marks.specs.declared.intents.Intent.{Intent}
use Rattle.st_valid.specs.declared.message.Message.{Message}
use Rattle.st_valid.specs.declared.message.Said.{Said}
use Rattle.st_valid.specs.declared.message.Said.TheVariants as said

-- how many ids of a session the log carries
abbrev pub carried_in : List Entry → ℕ → ℕ
carried_in log session = carried_count session (ranges_in log)

-- a range is the next one of a session: it goes on where the last one ended, and passes no bound
abbrev pub is_next_range : List Entry → ℕ → IdRange → Bool
is_next_range log session ids = ids.session == session && (ids.first == carried_in log session + 1 && nat_le (carried_in log session + ids.count) most_ids)

-- a commit carries the next range, and each of its names has an id
abbrev pub ids_are_next : List Entry → ℕ → Said → Bool
ids_are_next log session (said.Join uuid) = true
ids_are_next log session said.Leave = true
ids_are_next log session (said.Ack reference) = true
ids_are_next log session (said.Commit reference ids change) = is_next_range log session ids && is_some change

abbrev pub has_next_ids : List Entry → Message → Bool
has_next_ids log m = ids_are_next log m.session m.said

-- a revision is of the session's own, and no commit has it yet
abbrev pub is_new_revision : List Entry → ℕ → Rev → Bool
is_new_revision log session rev = rev.session == session && not (list_any (λ (N : Intent). same_rev N.rev rev) (commits_in log))

abbrev pub revision_is_new : List Entry → ℕ → Said → Bool
revision_is_new log session (said.Join uuid) = true
revision_is_new log session said.Leave = true
revision_is_new log session (said.Ack reference) = true
revision_is_new log session (said.Commit reference ids change) = option_map_or (λ (C : Change). is_new_revision log session C.rev) change false

abbrev pub has_new_revision : List Entry → Message → Bool
has_new_revision log m = revision_is_new log m.session m.said
