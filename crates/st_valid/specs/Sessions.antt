-- Which session may join, and which may say something.
use Rattle.std.specs.Prelude.{ℕ, ◌+◌, ◌==◌, ◌&&◌, ◌||◌, not, Bool, false, List}
use Rattle.std.specs.List.{list_any}
use Rattle.std.specs.Option.{option_map_or}
use Rattle.st_clusters.specs.Free.{is_v4}
use Rattle.st_lists.specs.Log.{clashes, is_connected, sessions_in, uuid_told}
use Rattle.st_lists.specs.declared.lists.Entry.{Entry}
use Rattle.st_valid.specs.declared.message.Message.{Message}
use Rattle.st_valid.specs.declared.message.Said.{Said}
use Rattle.st_valid.specs.declared.message.Said.TheVariants as said

-- whether an entry is a join of a session with a UUID
abbrev pub tells : ℕ → ℕ → Entry → Bool
tells session uuid e = e.session == session && option_map_or (λ u. u == uuid) (uuid_told e) false

-- whether a session has joined with a UUID
abbrev pub has_joined : ℕ → ℕ → List Entry → Bool
has_joined session uuid log = list_any (tells session uuid) log

-- a new session has the next number, and a UUID of version 4 whose stable ids meet those of no other
abbrev pub is_new_session : ℕ → ℕ → List Entry → Bool
is_new_session session uuid log = session == sessions_in log + 1 && (is_v4 uuid && not (clashes uuid log))

-- a session that comes back isn't connected, and has the UUID with which it joined
abbrev pub comes_back : ℕ → ℕ → List Entry → Bool
comes_back session uuid log = not (is_connected session log) && has_joined session uuid log

-- a new session joins or one comes back; all else is said by a session that is connected
abbrev pub session_may : List Entry → ℕ → Said → Bool
session_may log session (said.Join uuid) = is_new_session session uuid log || comes_back session uuid log
session_may log session said.Leave = is_connected session log
session_may log session (said.Ack reference) = is_connected session log
session_may log session (said.Commit reference ids change) = is_connected session log

abbrev pub is_of_session : List Entry → Message → Bool
is_of_session log m = session_may log m.session m.said
