-- The JSON form of a change and of a step, over how a name is told. Members of objects stand in the order of their names.
use Rattle.std.specs.Prelude.{ℕ, List, [], ◌∷◌, map, Option, None, Some, codes}
use Rattle.serde_json.specs.Data.{Data, null, boolean, string, object, no_members, member}
use Rattle.st_marks.specs.declared.changes.Change.{Change}
use Rattle.st_marks.specs.declared.marks.RegStep.{RegStep}
use Rattle.st_marks.specs.declared.schemas.SchemaEntry.{SchemaEntry}
use Rattle.st_marks.specs.declared.schemas.SchemaStep.{SchemaStep}
use Rattle.st_marks.specs.declared.steps.Step.{Step}
use Rattle.st_change_codec.specs.Changes.{list_data}
use Rattle.st_change_codec.specs.SchemaTexts.{text_data}
use Rattle.st_mark_reader.specs.Naming.{Naming}
use Rattle.st_change_writer.specs.Listed.{node_data, node_or_null, loose_data, new_data, register_data, row_data}

-- ## Changes

-- a change of data
abbrev pub edits_data : Naming → Change → Data
edits_data n c = object (
    member (codes "base") (boolean c.base) (
    member (codes "loose") (list_data (map (loose_data n) c.loose)) (
    member (codes "need") (list_data (map (node_data n) c.need)) (
    member (codes "new") (list_data (map (new_data n) c.new)) (
    member (codes "regs") (list_data (map (register_data n) c.regs)) (
    member (codes "rev") (n.rev c.rev) (
    member (codes "rows") (list_data (map (row_data n) c.rows)) (
    member (codes "under") (n.rev c.under) no_members))))))))

-- a change of the schema, to that of a text
abbrev pub upgrade_data : Naming → Change → List ℕ → Data
upgrade_data n c text = object (
    member (codes "base") (boolean c.base) (
    member (codes "rev") (n.rev c.rev) (
    member (codes "schema") (text_data text) (
    member (codes "under") (n.rev c.under) no_members))))

abbrev pub data_with : Naming → Change → Option (List ℕ) → Data
data_with n c None = edits_data n c
data_with n c (Some text) = upgrade_data n c text

abbrev pub change_data : Naming → Change → Data
change_data n c = data_with n c c.schema

-- ## Steps

-- a register in a step: who is there before and after
abbrev pub reg_step_data : Naming → RegStep → Data
reg_step_data n r = list_data (node_data n r.field.node ∷ string r.field.key.0 ∷ node_or_null n r.before ∷ node_or_null n r.after ∷ [])

-- a schema entry: the revision that made it, and the schema
abbrev pub entry_data : Naming → SchemaEntry → Data
entry_data n e = list_data (n.rev e.rev ∷ text_data e.text ∷ [])

-- the entries that come and those that go, behind the entry of a revision
abbrev pub schema_step_data : Naming → SchemaStep → Data
schema_step_data n s = object (
    member (codes "add") (list_data (map (entry_data n) s.add)) (
    member (codes "cut") (list_data (map (entry_data n) s.cut)) (
    member (codes "on") (n.rev s.on) no_members)))

abbrev pub schema_part_data : Naming → Option SchemaStep → Data
schema_part_data n None = null
schema_part_data n (Some s) = schema_step_data n s

abbrev pub step_data : Naming → Step → Data
step_data n s = object (
    member (codes "loose") (list_data (map (loose_data n) s.loose)) (
    member (codes "new") (list_data (map (new_data n) s.new)) (
    member (codes "regs") (list_data (map (reg_step_data n) s.regs)) (
    member (codes "rows") (list_data (map (row_data n) s.rows)) (
    member (codes "schema") (schema_part_data n s.schema) no_members)))))
