-- What is told of a step is read as that step.
use Rattle.std.proofs.Common.{◌≡◌, List, map, Option, None, Some, option_map, option_and_then, refl, ap}
use Rattle.serde_json.specs.Data.{string}
use Rattle.st_ids.specs.declared.names.Atom.{Atom}
use Rattle.st_ids.specs.declared.names.FieldId.{FieldId}
use Rattle.st_ids.specs.declared.names.NodeId.{NodeId}
use Rattle.st_ids.specs.declared.names.Rev.{Rev}
use Rattle.st_marks.specs.declared.changes.NewNode.{NewNode}
use Rattle.st_marks.specs.declared.marks.How.{How}
use Rattle.st_marks.specs.declared.marks.Loose.{Loose}
use Rattle.st_marks.specs.declared.marks.Mark.{Mark}
use Rattle.st_marks.specs.declared.marks.RegStep.{RegStep}
use Rattle.st_marks.specs.declared.marks.RowMarks.{RowMarks}
use Rattle.st_marks.specs.declared.schemas.SchemaEntry.{SchemaEntry}
use Rattle.st_marks.specs.declared.schemas.SchemaStep.{SchemaStep}
use Rattle.st_change_codec.specs.Changes.{list_data}
use Rattle.st_change_codec.specs.SchemaTexts.{text_data}
use Rattle.st_mark_reader.specs.Naming.{Naming, NameForm}
use Rattle.st_mark_reader.specs.Reading.{list_of, loose_of, mark_of, new_of, node_of, occupant_of}
use Rattle.st_change_writer.specs.Listed.{loose_data, mark_data, new_data, node_data, node_or_null, row_data}
use Rattle.st_change_writer.specs.Told.{entry_data, reg_step_data, schema_part_data, schema_step_data, step_data}
use Rattle.st_change_reader.specs.Reading.{schema_text_of}
use Rattle.st_change_reader.specs.StepReading.{entry_of, if_moves, reg_step_at, reg_step_of, schema_part_of, schema_step_of, step_fields_of, step_loose_in, step_loose_of, step_mark_in, step_mark_of, step_nodes_of, step_of, step_of_parts, step_row_of, turn_of}
use Rattle.st_change_reader.specs.declared.parts.StepFields.{StepFields}
use Rattle.st_change_reader.specs.declared.parts.StepNodes.{StepNodes}
use Rattle.st_change_reader.specs.declared.parts.Turn.{Turn}
use Rattle.st_change_laws.specs.Both.{Writes, WritesNames}
use Rattle.st_change_laws.specs.Within.{EntryIsWithin, HowMoves, MarkMoves, NewIsWithin, RegStepIsWithin, SchemaPartIsWithin, SchemaStepIsWithin, StepIsWithin, StepLooseIsWithin, StepMarkIsWithin, StepRowIsWithin}
use Rattle.st_change_laws.proofs.ToldValues.{field_writes, list_writes, loose_writes, mark_writes, new_writes, node_writes, occupant_writes, schema_writes, then_some}

moves_write : (h : How) → HowMoves h → if_moves h ≡ Some h
moves_write How.Stay m = refl
moves_write How.Here m = absurd m
moves_write How.Leave m = refl

mark_moves : (m : Mark) → MarkMoves m → step_mark_in m ≡ Some m
mark_moves (Mark.Skip k) h = refl
mark_moves (Mark.Gap c) h = refl
mark_moves (Mark.Touch c x how) h = let touch : How → Mark = λ w. Mark.Touch c x w in ap (option_map touch) (moves_write how h)
mark_moves (Mark.Make c x full) h = refl
mark_moves (Mark.Fill c x) h = refl

step_mark_writes : (n : Naming) (F : NameForm) (A : Atom → Type 0) → WritesNames F n A → Writes (step_mark_of F) (mark_data n) (StepMarkIsWithin A)
step_mark_writes n F A w m h = then_some step_mark_in (mark_of F (mark_data n m)) m (Some m) (mark_writes n F A w m h.0) (mark_moves m h.1)

step_row_writes : (n : Naming) (F : NameForm) (A : Atom → Type 0) → WritesNames F n A → Writes (step_row_of F) (row_data n) (StepRowIsWithin A)
step_row_writes n F A w r h =
    let made : NodeId → List Mark → RowMarks = λ node marks. record { node = node; marks = marks } in
    then_some (λ (x : NodeId). option_map (made x) (list_of (step_mark_of F) (list_data (map (mark_data n) r.marks)))) (node_of F (node_data n r.node)) r.node (Some r) (node_writes n F A w r.node h.0)
    (ap (option_map (made r.node)) (list_writes (step_mark_of F) (mark_data n) (StepMarkIsWithin A) (step_mark_writes n F A w) r.marks h.1))

step_loose_writes : (n : Naming) (F : NameForm) (A : Atom → Type 0) → WritesNames F n A → Writes (step_loose_of F) (loose_data n) (StepLooseIsWithin A)
step_loose_writes n F A w l h =
    let made : How → Loose = λ how. record { node = l.node; how = how } in
    then_some step_loose_in (loose_of F (loose_data n l)) l (Some l) (loose_writes n F A w l h.0) (ap (option_map made) (moves_write l.how h.1))

reg_step_writes : (n : Naming) (F : NameForm) (A : Atom → Type 0) → WritesNames F n A → Writes (reg_step_of F) (reg_step_data n) (RegStepIsWithin A)
reg_step_writes n F A w r h =
    let turn : Turn = record { before = r.before; after = r.after } in
    let made : Option NodeId → Option NodeId → Turn = λ before after. record { before = before; after = after } in
    let b = node_or_null n r.before in let a = node_or_null n r.after in
    let is_turn : turn_of F b a ≡ Some turn =
    then_some (λ before. option_map (made before) (occupant_of F a)) (occupant_of F b) r.before (Some turn) (occupant_writes n F A w r.before h.1) (ap (option_map (made r.before)) (occupant_writes n F A w r.after h.2)) in
    let whole : FieldId → RegStep = λ field. record { field = field; before = r.before; after = r.after } in
    then_some (reg_step_at F (node_data n r.field.node) (string r.field.key.0)) (turn_of F b a) turn (Some r) is_turn (ap (option_map whole) (field_writes n F A w r.field h.0))

entry_writes : (n : Naming) (F : NameForm) (R : Rev → Type 0) → Writes F.rev n.rev R → Writes (entry_of F) (entry_data n) (EntryIsWithin R)
entry_writes n F R r e h =
    let made : Rev → List _ → SchemaEntry = λ rev text. record { rev = rev; text = text } in
    then_some (λ (x : Rev). option_map (made x) (schema_text_of (text_data e.text))) (F.rev (n.rev e.rev)) e.rev (Some e) (r e.rev h.0) (ap (option_map (made e.rev)) (schema_writes e.text h.1))

schema_step_writes : (n : Naming) (F : NameForm) (R : Rev → Type 0) → Writes F.rev n.rev R → Writes (schema_step_of F) (schema_step_data n) (SchemaStepIsWithin R)
schema_step_writes n F R r s h =
    let made : Rev → List SchemaEntry → List SchemaEntry → SchemaStep = λ on cut add. record { on = on; cut = cut; add = add } in
    let cut = list_of (entry_of F) (list_data (map (entry_data n) s.cut)) in
    let add = list_of (entry_of F) (list_data (map (entry_data n) s.add)) in
    let is_cut = list_writes (entry_of F) (entry_data n) (EntryIsWithin R) (entry_writes n F R r) s.cut h.1 in
    let is_add = list_writes (entry_of F) (entry_data n) (EntryIsWithin R) (entry_writes n F R r) s.add h.2 in
    then_some (λ (on : Rev). option_and_then (λ (c : List SchemaEntry). option_map (made on c) add) cut) (F.rev (n.rev s.on)) s.on (Some s) (r s.on h.0)
    (then_some (λ (c : List SchemaEntry). option_map (made s.on c) add) cut s.cut (Some s) is_cut (ap (option_map (made s.on s.cut)) is_add))

schema_part_writes : (n : Naming) (F : NameForm) (R : Rev → Type 0) → Writes F.rev n.rev R → Writes (schema_part_of F) (schema_part_data n) (SchemaPartIsWithin R)
schema_part_writes n F R r None h = refl
schema_part_writes n F R r (Some s) h = let wrap : SchemaStep → Option SchemaStep = λ t. Some t in ap (option_map wrap) (schema_step_writes n F R r s h)

pub step_writes : (n : Naming) (F : NameForm) (R : Rev → Type 0) (A : Atom → Type 0) → Writes F.rev n.rev R → WritesNames F n A → Writes (step_of F) (step_data n) (StepIsWithin R A)
step_writes n F R A r w S h =
    let d = step_data n S in
    let nodes : StepNodes = record { new = S.new; loose = S.loose } in
    let fields : StepFields = record { rows = S.rows; regs = S.regs } in
    let of_nodes : List NewNode → List Loose → StepNodes = λ new loose. record { new = new; loose = loose } in
    let of_fields : List RowMarks → List RegStep → StepFields = λ rows regs. record { rows = rows; regs = regs } in
    let new = list_writes (new_of F) (new_data n) (NewIsWithin A) (new_writes n F A w) S.new h.new in
    let loose = list_writes (step_loose_of F) (loose_data n) (StepLooseIsWithin A) (step_loose_writes n F A w) S.loose h.loose in
    let rows = list_writes (step_row_of F) (row_data n) (StepRowIsWithin A) (step_row_writes n F A w) S.rows h.rows in
    let regs = list_writes (reg_step_of F) (reg_step_data n) (RegStepIsWithin A) (reg_step_writes n F A w) S.regs h.regs in
    let part = schema_part_writes n F R r S.schema h.schema in
    let is_nodes : step_nodes_of F d ≡ Some nodes = then_some (λ new. option_map (of_nodes new) (list_of (step_loose_of F) (list_data (map (loose_data n) S.loose)))) (list_of (new_of F) (list_data (map (new_data n) S.new))) S.new (Some nodes) new (ap (option_map (of_nodes S.new)) loose) in
    let is_fields : step_fields_of F d ≡ Some fields = then_some (λ rows. option_map (of_fields rows) (list_of (reg_step_of F) (list_data (map (reg_step_data n) S.regs)))) (list_of (step_row_of F) (list_data (map (row_data n) S.rows))) S.rows (Some fields) rows (ap (option_map (of_fields S.rows)) regs) in
    let p = schema_part_of F (schema_part_data n S.schema) in
    then_some (λ nodes. option_and_then (λ fields. option_map (λ schema. step_of_parts nodes fields schema) p) (step_fields_of F d)) (step_nodes_of F d) nodes (Some S) is_nodes
    (then_some (λ fields. option_map (λ schema. step_of_parts nodes fields schema) p) (step_fields_of F d) fields (Some S) is_fields
    (ap (option_map (λ schema. step_of_parts nodes fields schema)) part))
