-- The UUIDs of sessions as texts.
use Rattle.std.specs.Prelude.{ℕ, ◌^◌, ◌&&◌, nat_lt, List, Option, Some, None, option_and_then, if◌then◌else◌}
use Rattle.std.specs.Int.{w128, from_be_bytes}
use Rattle.std.specs.Option.{option_map}
use Rattle.uuid.specs.Text.{parsed}
use Rattle.st_clusters.specs.Free.{is_v4}

-- a number of 128 bits, where it is that of a UUID of version 4
abbrev pub of_version_4 : ℕ → Option ℕ
of_version_4 u = if nat_lt u (2 ^ 128) && is_v4 u then Some u else None

-- the number of the UUID of version 4 that a text is, in any form that a UUID has
abbrev pub uuid_read : List ℕ → Option ℕ
uuid_read s = option_and_then of_version_4 (option_map (from_be_bytes w128) (parsed s))
