-- The reference of a message, and the minimum that it tells.
use Rattle.std.specs.Prelude.{ℕ, ◌==◌, ◌&&◌, nat_le, nat_lt, Bool, true, List, Option, None, Some}
use Rattle.std.specs.Option.{option_map_or}
use Rattle.st_lists.specs.Log.{known_reference, log_with, minimum}
use Rattle.st_lists.specs.declared.lists.Body.{Body}
use Rattle.st_lists.specs.declared.lists.Body.TheVariants.{Join, Leave, Ack}
use Rattle.st_lists.specs.declared.lists.Entry.{Entry}
use Rattle.st_valid.specs.declared.message.Message.{Message}
use Rattle.st_valid.specs.declared.message.Said.{Said}
use Rattle.st_valid.specs.declared.message.Said.TheVariants as said

-- how many entries the author says that it had received, if it says so
abbrev pub reference_said : Said → Option ℕ
reference_said (said.Join uuid) = None
reference_said said.Leave = None
reference_said (said.Ack reference) = Some reference
reference_said (said.Commit reference ids change) = Some reference

-- what an entry says of its session alone: a commit tells its reference, as an ack does
abbrev pub body_without_change : Said → Body
body_without_change (said.Join uuid) = Join uuid
body_without_change said.Leave = Leave
body_without_change (said.Ack reference) = Ack reference
body_without_change (said.Commit reference ids change) = Ack reference

-- the minimum after a message
abbrev pub minimum_after : List Entry → Message → ℕ
minimum_after log m = minimum (log_with log m.session (body_without_change m.said))

-- a reference isn't below the minimum, and is that of an entry before the message
abbrev pub is_within : List Entry → ℕ → ℕ → Bool
is_within log n reference = nat_le (minimum log) reference && nat_lt reference n

abbrev pub is_in_window : List Entry → Message → Bool
is_in_window log m = option_map_or (is_within log m.n) (reference_said m.said) true && m.min == minimum_after log m

-- a reference isn't below the one that is known of its session
abbrev pub is_no_step_back : List Entry → Message → Bool
is_no_step_back log m = option_map_or (nat_le (known_reference m.session log)) (reference_said m.said) true
