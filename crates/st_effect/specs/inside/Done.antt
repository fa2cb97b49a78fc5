-- What is done with each thing that a change lists, where the change is carried out or void.
use Rattle.std.specs.Prelude.{◌≡◌, ◌&&◌, Bool, true, false, not, List, [], ◌∷◌, map, Option, None, option_map, if◌then◌else◌}
use Rattle.st_ids.specs.Listing.{IsRising}
use Rattle.st_ids.specs.Order.{node_cmp}
use Rattle.st_ids.specs.declared.names.NodeId.{NodeId}
use Rattle.st_ids.specs.declared.names.Rev.{Rev}
use Rattle.st_kind.specs.Named.{Nodes}
use Rattle.st_marks.specs.declared.changes.Change.{Change}
use Rattle.st_marks.specs.declared.marks.How.TheVariants.{Stay, Leave}
use Rattle.st_marks.specs.declared.marks.Loose.{Loose}
use Rattle.st_marks.specs.declared.marks.RegMark.{RegMark}
use Rattle.st_marks.specs.declared.marks.RegStep.{RegStep}
use Rattle.st_marks.specs.declared.marks.RowMarks.{RowMarks}
use Rattle.st_marks.specs.declared.places.Slot.{Slot}
use Rattle.st_marks.specs.declared.schemas.SchemaStep.{SchemaStep}
use Rattle.st_marks.specs.declared.steps.Step.{Step}
use Rattle.st_marks.specs.declared.verdicts.Verdict.{Verdict}
use Rattle.st_marks.specs.Document.{Document}
use Rattle.st_marks.specs.Embedding.{is_among}
use Rattle.st_marks.specs.How.{is_leave}
use Rattle.st_marks.specs.Listings.{nodes_new}
use Rattle.st_marks.specs.Row.{CellMark, embed_row, merge, spread}
use Rattle.st_mention_laws.specs.Shown.{thin_step}
use Rattle.st_register.specs.Readings.{as_mark}
use Rattle.st_register.specs.Register.{RegCanHold, RegFits, RegPart, reg_carried, reg_change_of}
use Rattle.st_register.specs.declared.values.RegHeld.{RegHeld}
use Rattle.st_rows.specs.Cells.{effect_row, void_row}
use Rattle.st_rows.specs.Changes.{placed_by}
use Rattle.st_rows.specs.Rows.{IsRowStep}
use Rattle.st_rows.specs.Sequence.{RowFits, SeqPart, row_carried}
use Rattle.st_trim.specs.Trimmed.{ListsStep}
use Rattle.st_effect.specs.inside.Listed.{AreListedAs}

-- whether a change with this verdict is void
abbrev pub is_void : Verdict → Bool
is_void Verdict.Sound = false
is_void (Verdict.Schema u) = true
is_void (Verdict.Need n) = true
is_void (Verdict.Cycle n) = true

-- ## Rows

-- t says what a commit does, void or not, to each row of which the marks r are the change: the commit makes these nodes
abbrev pub IsRowDone : Bool → List NodeId → RowMarks → RowMarks → Type 0
IsRowDone void new r t = (p : SeqPart) (c : List Slot) → p.in_new ≡ is_among new r.node → p.new ≡ new → RowFits p c
    → r.marks ≡ merge (embed_row p.part c) → IsRowStep p.part.mentioned c (row_carried p void c) t.marks

-- that holds of each row
abbrev pub AreRowsDone : Bool → List NodeId → List RowMarks → List RowMarks → Type 0
AreRowsDone void new rs ts = AreListedAs (λ (r : RowMarks). r.node) (λ (t : RowMarks). t.node) (IsRowDone void new) rs ts

-- what is done with the cells of a row, where a void change places these nodes
abbrev pub cells_done : Bool → Nodes → List CellMark → List CellMark
cells_done true placed cells = void_row placed cells
cells_done false placed cells = effect_row cells

-- the step's row, by the change's: cell by cell
abbrev pub row_done : Bool → List NodeId → RowMarks → RowMarks
row_done void new r = record { node = r.node; marks = merge (cells_done void (placed_by (is_among new r.node) new) (spread r.marks)) }

-- ## Registers

-- t says what a commit of this revision does, void or not, to each register of which the mark r is the change: the commit
-- makes these nodes
abbrev pub IsRegisterDone : Bool → Rev → List NodeId → RegMark → RegStep → Type 0
IsRegisterDone void rev new r t = (p : RegPart) (c : RegHeld) → p.rev ≡ rev → ((n : NodeId) → p.makes n ≡ is_among new n) → RegFits p c
    → RegCanHold (reg_carried p void c) → r ≡ as_mark p.field (reg_change_of p c)
    → t ≡ record { field = p.field; before = c.node; after = (reg_carried p void c).node }

-- that holds of each register
abbrev pub AreRegistersDone : Bool → Rev → List NodeId → List RegMark → List RegStep → Type 0
AreRegistersDone void rev new rs ts = AreListedAs (λ (r : RegMark). r.field) (λ (t : RegStep). t.field) (IsRegisterDone void rev new) rs ts

-- ## Loose nodes and schemas

-- a loose node leaves where the change puts it somewhere and isn't void
abbrev pub loose_done : Bool → Loose → Loose
loose_done void l = record { node = l.node; how = if not void && is_leave l.how then Leave else Stay }

-- the schema of a change that isn't void comes behind the one under which it was made
abbrev pub schema_done : Bool → Change → Option SchemaStep
schema_done true C = None
schema_done false C = option_map (λ text. record { on = C.under; cut = []; add = record { rev = C.rev; text = text } ∷ [] }) C.schema

-- ## All of it

-- G lists what the change does, void or not, with all that the change names
pub record ListsDone (void : Bool) (C : Change) (G : Step) : Type 0 where
  pub new : G.new ≡ C.new
  -- the new nodes, in rising order
  pub names : List NodeId
  pub rising : IsRising node_cmp (λ (n : NodeId). n) names
  pub each : (n : NodeId) → is_among names n ≡ is_among (nodes_new C.new) n
  pub rows : G.rows ≡ map (row_done void names) C.rows
  pub regs : AreRegistersDone void C.rev names C.regs G.regs
  pub loose : G.loose ≡ map (loose_done void) C.loose

-- G lists the step from D to E with the nodes of K named, but for which empty cells it names
abbrev pub ShowsListed : Document → Document → Nodes → Step → Type 0
ShowsListed D E K G = (T : Step) × ListsStep D E K T × (thin_step G ≡ thin_step T)
