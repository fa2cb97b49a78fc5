-- For what there is room in a log: at most 65,535 entries, 64 connected sessions, 2,048 names a commit, 131,072 names in all.
use Rattle.std.specs.Prelude.{ℕ, zero, suc, ◌+◌, ◌<◌, ◌^◌, ◌&&◌, nat_le, nat_lt, not, is_some, Bool, false, List, length, if◌then◌else◌}
use Rattle.std.specs.List.{sum_by}
use Rattle.std.specs.Option.{option_map_or}
use Rattle.st_ids.specs.declared.names.NodeId.{NodeId}
use Rattle.st_lists.specs.Limits.{entries_limit_passed, log_limit_passed}
use Rattle.st_lists.specs.Log.{is_connected, sessions_in}
use Rattle.st_lists.specs.declared.lists.Entry.{Entry}
use Rattle.st_marks.specs.declared.changes.Change.{Change}
use Rattle.st_marks.specs.declared.marks.Mark.{Mark}
use Rattle.st_marks.specs.declared.marks.RowMarks.{RowMarks}
use Rattle.st_marks.specs.Document.{Document}
use Rattle.st_valid.specs.declared.message.Message.{Message}
use Rattle.st_valid.specs.declared.message.Said.{Said}
use Rattle.st_valid.specs.declared.message.Said.TheVariants as said

-- how many of the first so many sessions are connected
abbrev pub connected_among : ℕ → List Entry → ℕ
connected_among zero log = 0
connected_among (suc s) log = connected_among s log + (if is_connected (suc s) log then 1 else 0)

-- how many sessions are connected
abbrev pub connected_in : List Entry → ℕ
connected_in log = connected_among (sessions_in log) log

-- ## Names

-- whether a mark makes a cell
abbrev pub makes_cell : Mark → ℕ
makes_cell (Mark.Skip k) = 0
makes_cell (Mark.Gap c) = 0
makes_cell (Mark.Touch c n h) = 0
makes_cell (Mark.Make c n full) = 1
makes_cell (Mark.Fill c n) = 0

-- how many cells are made in a row
abbrev pub cells_made_in : RowMarks → ℕ
cells_made_in r = sum_by makes_cell r.marks

-- how many names a change makes: its new nodes and its new cells
abbrev pub names_of_change : Change → ℕ
names_of_change C = length C.new + sum_by cells_made_in C.rows

-- ## Room

abbrev pub has_room_for_names : List Entry → ℕ → Bool
has_room_for_names log names = nat_le names 2048 && not (is_some (log_limit_passed log names))

abbrev pub has_room_for_entry : List Entry → Bool
has_room_for_entry log = not (is_some (entries_limit_passed log))

abbrev pub has_room_to_say : List Entry → Said → Bool
has_room_to_say log (said.Join uuid) = has_room_for_entry log && nat_lt (connected_in log) 64
has_room_to_say log said.Leave = has_room_for_entry log
has_room_to_say log (said.Ack reference) = has_room_for_entry log
has_room_to_say log (said.Commit reference ids change) = has_room_for_entry log && option_map_or (λ (C : Change). has_room_for_names log (names_of_change C)) change false

abbrev pub has_room : List Entry → Message → Bool
has_room log m = has_room_to_say log m.said

-- each row of a document has room for all cells that a log can make
abbrev pub HasRoomForNames : Document → Type 0
HasRoomForNames O = (n : NodeId) → length (O.rows n) + 131072 < 2 ^ 32
