-- A whole change and a whole step that pass each other, both with empty cells counted.
use Rattle.std.specs.Prelude.{◌≡◌, ◌≢◌, true, false, List, map, Option, Some, None}
use Rattle.std.specs.Option.{option_map_or}
use Rattle.st_ids.specs.Listing.{item_of}
use Rattle.st_ids.specs.Order.{field_cmp, node_cmp}
use Rattle.st_ids.specs.declared.names.FieldId.{FieldId}
use Rattle.st_ids.specs.declared.names.NodeId.{NodeId}
use Rattle.st_marks.specs.declared.changes.Change.{Change}
use Rattle.st_marks.specs.declared.intents.Intent.{Intent}
use Rattle.st_marks.specs.declared.marks.How.TheVariants.{Stay, Leave}
use Rattle.st_marks.specs.declared.marks.Loose.{Loose}
use Rattle.st_marks.specs.declared.marks.RegMark.{RegMark}
use Rattle.st_marks.specs.declared.marks.RegStep.{RegStep}
use Rattle.st_marks.specs.declared.marks.RowMarks.{RowMarks}
use Rattle.st_marks.specs.declared.steps.Step.{Step}
use Rattle.st_marks.specs.declared.verdicts.Verdict.{Verdict}
use Rattle.st_marks.specs.Document.{Document}
use Rattle.st_marks.specs.Embedding.{IsMentionedByIntent}
use Rattle.st_marks.specs.Extends.{IsExtendedBy}
use Rattle.st_marks.specs.Intent.{Fits}
use Rattle.st_marks.specs.Row.{merge, spread}
use Rattle.st_marks.specs.Verdict.{IsVerdict, carried_document}
use Rattle.st_passing.specs.Passing.{do_not_meet, raised, raised_beside}
use Rattle.st_read_laws.specs.Reading.{IsRead, IsStepRead}

-- ## The test

abbrev pub row_in : List RowMarks → NodeId → Option RowMarks
row_in rows n = item_of node_cmp (λ (r : RowMarks). r.node) rows n

-- a row of the change beside the step's, if the step lists it
abbrev pub row_passes : List RowMarks → RowMarks → Type 0
row_passes rows r = option_map_or (λ (s : RowMarks). do_not_meet false (spread r.marks) (spread s.marks)) (row_in rows r.node) true ≡ true

-- a register that both list: the step leaves its occupant there, and the change neither clears nor fills it nor takes the occupant out
abbrev pub registers_pass : RegMark → RegStep → Type 0
registers_pass c s = (s.before ≡ s.after) × (c.clear ≡ false) × (c.fill ≡ None) × (c.how ≢ Leave)

-- a node that both list as nowhere: the step leaves it there, and the change doesn't put it elsewhere
abbrev pub loose_pass : Loose → Loose → Type 0
loose_pass c s = (s.how ≡ Stay) × (c.how ≢ Leave)

-- no row, no register and no loose node of the change is met, and neither concerns the schema
pub record Passes (C : Change) (S : Step) : Type 0 where
  pub rows : (n : NodeId) (r : RowMarks) → row_in C.rows n ≡ Some r → row_passes S.rows r
  pub regs : (f : FieldId) (c : RegMark) (s : RegStep) → item_of field_cmp (λ (r : RegMark). r.field) C.regs f ≡ Some c → item_of field_cmp (λ (r : RegStep). r.field) S.regs f ≡ Some s → registers_pass c s
  pub loose : (n : NodeId) (c s : Loose) → item_of node_cmp (λ (l : Loose). l.node) C.loose n ≡ Some c → item_of node_cmp (λ (l : Loose). l.node) S.loose n ≡ Some s → loose_pass c s
  pub change_schema : C.schema ≡ None
  pub step_schema : S.schema ≡ None

-- ## What comes out

abbrev pub raise_row : List RowMarks → RowMarks → RowMarks
raise_row rows r = record { node = r.node; marks = option_map_or (λ (s : RowMarks). merge (raised (spread r.marks) (spread s.marks))) (row_in rows r.node) r.marks }

abbrev pub raise_row_beside : List RowMarks → RowMarks → RowMarks
raise_row_beside rows s = record { node = s.node; marks = option_map_or (λ (r : RowMarks). merge (raised_beside (spread r.marks) (spread s.marks))) (row_in rows s.node) s.marks }

-- the change after the step
abbrev pub raised_change : Change → Step → Change
raised_change C S = record C { rows = map (raise_row S.rows) C.rows }

-- the step after the change
abbrev pub raised_step : Change → Step → Step
raised_step C S = record S { rows = map (raise_row_beside C.rows) S.rows }

-- ## The statement for whole changes

abbrev pub ChangesPass : Type 0
ChangesPass = (D E : Document) (N : Intent) (C : Change) (S : Step) (v : Verdict) → IsExtendedBy D E → Fits D N → Fits E N → IsVerdict D N v
    → IsRead false D N C → IsStepRead false D E S → Passes C S
    → IsVerdict E N v × IsRead false E N (raised_change C S) × IsStepRead false (carried_document v D N) (carried_document v E N) (raised_step C S)

-- ## By names

-- the step moves no node that the intent mentions
abbrev pub LeavesMentioned : Document → Document → Intent → Type 0
LeavesMentioned D E N = (n : NodeId) → IsMentionedByIntent D N n → D.place n ≡ E.place n
