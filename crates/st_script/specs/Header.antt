-- Which line is a header.
use Rattle.std.specs.Prelude.{ℕ, ◌==◌, nat_le, List, ◌++◌, Bool, false, ◌&&◌, is_ok, Option, Some, None, option_and_then, option_map, Result, Err, codes, if◌then◌else◌}
use Rattle.std.specs.Option.{ok_or}
use Rattle.serde_json.specs.Data.{Data}
use Rattle.serde_json.specs.Find.{get}
use Rattle.st_json.specs.Line.{line_value}
use Rattle.st_json.specs.Look.{has_only}
use Rattle.st_json.specs.declared.fault.BadCause.{BadCause}
use Rattle.st_tree.specs.Node.{Node, view}
use Rattle.st_tree.specs.Size.{check_of}
use Rattle.st_schema.specs.Schema.{SchemaView}
use Rattle.st_schema.specs.TreeText.{tree_of}
use Rattle.st_schema.specs.Conforms.{allows_of}
use Rattle.st_schema.specs.declared.header.Header.{Header}
use Rattle.st_script.specs.Members.{as_small, number_in, schema_in}

-- a header as contracts see it, with its tree as a node
pub record HeaderView : Type 0 where
  pub history : ℕ
  pub schema : SchemaView
  pub tree : Node

abbrev pub header_view : Header → HeaderView
header_view h = record { history = h.history; schema = h.schema; tree = view h.tree }

-- 0 to 1,024 entries
abbrev pub kept_history : ℕ → Option ℕ
kept_history n = if nat_le n 1024 then Some n else None

-- how many entries of the log below the minimum can still be undone, which is 64 where nothing is said
abbrev pub history_or_64 : Option Data → Option ℕ
history_or_64 None = Some 64
history_or_64 (Some d) = option_and_then kept_history (as_small d)

abbrev pub tree_in : Data → Option Node
tree_in d = option_and_then tree_of (get (codes "tree") d)

-- whether a number is there, and is 1
abbrev pub is_one : Option ℕ → Bool
is_one None = false
is_one (Some n) = n == 1

-- no members but those of a header, and the version 1 under the word
abbrev pub is_begun : List ℕ → Data → Bool
is_begun word d = has_only (codes "history schema tree " ++ word) d && is_one (number_in word d)

-- a tree within the limits, which the schema allows as its root
abbrev pub may_open : SchemaView → Node → Bool
may_open s t = is_ok (check_of t) && is_ok (allows_of s s.root t)

abbrev pub header_that_opens : HeaderView → Option HeaderView
header_that_opens h = if may_open h.schema h.tree then Some h else None

abbrev pub parts_of : Data → Option HeaderView
parts_of d = option_and_then (λ history. option_and_then (λ schema. option_map (λ tree. record { history = history; schema = schema; tree = tree }) (tree_in d)) (schema_in d))
    (history_or_64 (get (codes "history") d))

-- the header that a value is
abbrev pub header_of : List ℕ → Data → Option HeaderView
header_of word d = if is_begun word d then option_and_then header_that_opens (parts_of d) else None

-- the header of a line's value, or the first test that the line fails
abbrev pub header_or_cause : List ℕ → Option Data → Result HeaderView BadCause
header_or_cause word None = Err BadCause.Json
header_or_cause word (Some d) = ok_or (header_of word d) BadCause.Header

abbrev pub header_line : List ℕ → List ℕ → Result HeaderView BadCause
header_line word bytes = header_or_cause word (line_value bytes)
