-- Which value is which change, over which value tells which name: the form alone.
use Rattle.std.specs.Prelude.{ℕ, List, [], ◌∷◌, Option, None, Some, option_and_then, option_map, codes, if◌then◌else◌}
use Rattle.serde_json.specs.Data.{Data}
use Rattle.serde_json.specs.Find.{as_bool}
use Rattle.serde_json.specs.Written.{compact_text}
use Rattle.st_marks.specs.declared.changes.Change.{Change}
use Rattle.st_marks.specs.declared.marks.Loose.{Loose}
use Rattle.st_schema.specs.Reading.{schema_of}
use Rattle.st_schema.specs.Written.{schema_data}
use Rattle.st_schema.specs.Schema.{SchemaView, is_sound}
use Rattle.st_mark_reader.specs.Naming.{NameForm}
use Rattle.st_mark_reader.specs.Reading.{list_of, is_named, node_of, row_of, register_of, loose_of, new_of, member_of}
use Rattle.st_change_reader.specs.declared.parts.Ground.{Ground}
use Rattle.st_change_reader.specs.declared.parts.Fields.{Fields}
use Rattle.st_change_reader.specs.declared.parts.Nodes.{Nodes}

-- ## Changes

abbrev pub edit_names : List (List ℕ)
edit_names = codes "base" ∷ codes "loose" ∷ codes "need" ∷ codes "new" ∷ codes "regs" ∷ codes "rev" ∷ codes "rows" ∷ codes "under" ∷ []

abbrev pub upgrade_names : List (List ℕ)
upgrade_names = codes "base" ∷ codes "rev" ∷ codes "schema" ∷ codes "under" ∷ []

-- the revision, under which schema the change was made, and whether that is in effect
abbrev pub ground_of : NameForm → Data → Option Ground
ground_of F d =
    option_and_then (λ rev.
    option_and_then (λ under.
    option_map (λ base. record { rev = rev; under = under; base = base })
    (member_of as_bool (codes "base") d)) (member_of F.rev (codes "under") d)) (member_of F.rev (codes "rev") d)

abbrev pub fields_of : NameForm → Data → Option Fields
fields_of F d =
    option_and_then (λ rows.
    option_map (λ regs. record { rows = rows; regs = regs })
    (member_of (list_of (register_of F)) (codes "regs") d)) (member_of (list_of (row_of F)) (codes "rows") d)

abbrev pub nodes_of : NameForm → Data → Option Nodes
nodes_of F d =
    option_and_then (λ need.
    option_map (λ new. record { need = need; new = new })
    (member_of (list_of (new_of F)) (codes "new") d)) (member_of (list_of (node_of F)) (codes "need") d)

-- a change of data, of its parts
abbrev pub edits_of : Ground → Nodes → Fields → List Loose → Change
edits_of g nodes fields loose = record { rev = g.rev; under = g.under; base = g.base; need = nodes.need; new = nodes.new; rows = fields.rows; regs = fields.regs; loose = loose; schema = None }

abbrev pub read_lists : NameForm → Ground → Data → Option Change
read_lists F g d =
    option_and_then (λ nodes.
    option_and_then (λ fields.
    option_map (λ loose. edits_of g nodes fields loose)
    (member_of (list_of (loose_of F)) (codes "loose") d)) (fields_of F d)) (nodes_of F d)

abbrev pub read_edits : NameForm → Data → Option Change
read_edits F d = option_and_then (λ g. read_lists F g d) (ground_of F d)

-- a schema that keeps the rules
abbrev pub if_sound : SchemaView → Option SchemaView
if_sound s = if is_sound s then Some s else None

-- the text of the schema that a value is the form of, if it keeps the rules
abbrev pub schema_text_of : Data → Option (List ℕ)
schema_text_of d = option_map (λ s. compact_text (schema_data s)) (option_and_then if_sound (schema_of d))

-- a change of the schema, of its parts
abbrev pub upgrade_of : Ground → List ℕ → Change
upgrade_of g text = record { rev = g.rev; under = g.under; base = g.base; need = []; new = []; rows = []; regs = []; loose = []; schema = Some text }

abbrev pub read_upgrade : NameForm → Data → Option Change
read_upgrade F d = option_and_then (λ g. option_map (λ text. upgrade_of g text) (member_of schema_text_of (codes "schema") d)) (ground_of F d)

-- the change that a value is: one with the member `schema` and three others is a change of the schema
abbrev pub change_of : NameForm → Data → Option Change
change_of F d =
    if is_named upgrade_names d then read_upgrade F d else
    if is_named edit_names d then read_edits F d else None
