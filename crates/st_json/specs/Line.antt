-- The value of a line.
use Rattle.std.specs.Prelude.{ℕ, ◌==◌, List, length, Option, None, if◌then◌else◌}
use Rattle.std.specs.Str.Lossy.{utf8_valid_len}
use Rattle.serde_json.specs.Data.{Data}
use Rattle.serde_json.specs.Read.{read}

-- what is read of the bytes of a line, where they are UTF-8 and a JSON text
abbrev pub line_value : List ℕ → Option Data
line_value bytes = if utf8_valid_len bytes == length bytes then read bytes else None
