-- Which value is which step, over which value tells which name: the form alone.
use Rattle.std.specs.Prelude.{ℕ, List, [], ◌∷◌, is_some, Option, None, Some, option_and_then, option_map, codes, if◌then◌else◌}
use Rattle.serde_json.specs.Data.{Data}
use Rattle.serde_json.specs.Find.{as_null, as_array}
use Rattle.st_marks.specs.declared.marks.How.{How}
use Rattle.st_marks.specs.declared.marks.How.TheVariants.{Stay, Here, Leave}
use Rattle.st_marks.specs.declared.marks.Loose.{Loose}
use Rattle.st_marks.specs.declared.marks.Mark.{Mark}
use Rattle.st_marks.specs.declared.marks.Mark.TheVariants as mark
use Rattle.st_marks.specs.declared.marks.RegStep.{RegStep}
use Rattle.st_marks.specs.declared.marks.RowMarks.{RowMarks}
use Rattle.st_marks.specs.declared.schemas.SchemaEntry.{SchemaEntry}
use Rattle.st_marks.specs.declared.schemas.SchemaStep.{SchemaStep}
use Rattle.st_marks.specs.declared.steps.Step.{Step}
use Rattle.st_schema.specs.Reading.{two_in}
use Rattle.st_mark_reader.specs.Naming.{NameForm}
use Rattle.st_mark_reader.specs.Reading.{list_of, is_named, node_of, occupant_of, field_of, mark_of, loose_of, new_of, member_of, four_in}
use Rattle.st_change_reader.specs.Reading.{schema_text_of}
use Rattle.st_change_reader.specs.declared.parts.StepFields.{StepFields}
use Rattle.st_change_reader.specs.declared.parts.StepNodes.{StepNodes}
use Rattle.st_change_reader.specs.declared.parts.Turn.{Turn}

abbrev pub step_names : List (List ℕ)
step_names = codes "loose" ∷ codes "new" ∷ codes "regs" ∷ codes "rows" ∷ codes "schema" ∷ []

abbrev pub schema_step_names : List (List ℕ)
schema_step_names = codes "add" ∷ codes "cut" ∷ codes "on" ∷ []

-- in a step a node stays or leaves
abbrev pub if_moves : How → Option How
if_moves Stay = Some Stay
if_moves Here = None
if_moves Leave = Some Leave

abbrev pub step_loose_in : Loose → Option Loose
step_loose_in l = option_map (λ how. record { node = l.node; how = how }) (if_moves l.how)

abbrev pub step_loose_of : NameForm → Data → Option Loose
step_loose_of F d = option_and_then step_loose_in (loose_of F d)

-- in a step no mark sets a node where it is
abbrev pub step_mark_in : Mark → Option Mark
step_mark_in (mark.Skip k) = Some (mark.Skip k)
step_mark_in (mark.Gap c) = Some (mark.Gap c)
step_mark_in (mark.Touch c x how) = option_map (λ h. mark.Touch c x h) (if_moves how)
step_mark_in (mark.Make c x full) = Some (mark.Make c x full)
step_mark_in (mark.Fill c x) = Some (mark.Fill c x)

abbrev pub step_mark_of : NameForm → Data → Option Mark
step_mark_of F d = option_and_then step_mark_in (mark_of F d)

abbrev pub step_row_in : NameForm → Data × Data → Option RowMarks
step_row_in F p = option_and_then (λ node. option_map (λ marks. record { node = node; marks = marks }) (list_of (step_mark_of F) p.1)) (node_of F p.0)

abbrev pub step_row_of : NameForm → Data → Option RowMarks
step_row_of F d = option_and_then (step_row_in F) (option_and_then two_in (as_array d))

-- who is in a register before and after
abbrev pub turn_of : NameForm → Data → Data → Option Turn
turn_of F b a = option_and_then (λ before. option_map (λ after. record { before = before; after = after }) (occupant_of F a)) (occupant_of F b)

abbrev pub reg_step_at : NameForm → Data → Data → Turn → Option RegStep
reg_step_at F n k turn = option_map (λ field. record { field = field; before = turn.before; after = turn.after }) (field_of F n k)

abbrev pub reg_step_in : NameForm → Data × Data × Data × Data → Option RegStep
reg_step_in F p = option_and_then (reg_step_at F p.0 p.1) (turn_of F p.2 p.3)

abbrev pub reg_step_of : NameForm → Data → Option RegStep
reg_step_of F d = option_and_then (reg_step_in F) (option_and_then four_in (as_array d))

abbrev pub entry_in : NameForm → Data × Data → Option SchemaEntry
entry_in F p = option_and_then (λ rev. option_map (λ text. record { rev = rev; text = text }) (schema_text_of p.1)) (F.rev p.0)

abbrev pub entry_of : NameForm → Data → Option SchemaEntry
entry_of F d = option_and_then (entry_in F) (option_and_then two_in (as_array d))

abbrev pub schema_lists_of : NameForm → Data → Option SchemaStep
schema_lists_of F d =
    option_and_then (λ on.
    option_and_then (λ cut.
    option_map (λ add. record { on = on; cut = cut; add = add })
    (member_of (list_of (entry_of F)) (codes "add") d)) (member_of (list_of (entry_of F)) (codes "cut") d)) (member_of F.rev (codes "on") d)

abbrev pub schema_step_of : NameForm → Data → Option SchemaStep
schema_step_of F d = if is_named schema_step_names d then schema_lists_of F d else None

-- what a step does to the schemas, or null
abbrev pub schema_part_of : NameForm → Data → Option (Option SchemaStep)
schema_part_of F d = if is_some (as_null d) then Some None else option_map Some (schema_step_of F d)

abbrev pub step_fields_of : NameForm → Data → Option StepFields
step_fields_of F d =
    option_and_then (λ rows.
    option_map (λ regs. record { rows = rows; regs = regs })
    (member_of (list_of (reg_step_of F)) (codes "regs") d)) (member_of (list_of (step_row_of F)) (codes "rows") d)

abbrev pub step_nodes_of : NameForm → Data → Option StepNodes
step_nodes_of F d =
    option_and_then (λ new.
    option_map (λ loose. record { new = new; loose = loose })
    (member_of (list_of (step_loose_of F)) (codes "loose") d)) (member_of (list_of (new_of F)) (codes "new") d)

abbrev pub step_of_parts : StepNodes → StepFields → Option SchemaStep → Step
step_of_parts nodes fields schema = record { new = nodes.new; rows = fields.rows; regs = fields.regs; loose = nodes.loose; schema = schema }

abbrev pub step_lists_of : NameForm → Data → Option Step
step_lists_of F d =
    option_and_then (λ nodes.
    option_and_then (λ fields.
    option_map (λ schema. step_of_parts nodes fields schema)
    (member_of (schema_part_of F) (codes "schema") d)) (step_fields_of F d)) (step_nodes_of F d)

-- the step that a value is
abbrev pub step_of : NameForm → Data → Option Step
step_of F d = if is_named step_names d then step_lists_of F d else None
