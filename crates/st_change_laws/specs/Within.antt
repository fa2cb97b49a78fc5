-- What can be told of a change or a step, and of intents and documents that give such changes: numbers below 2^32, keys of at most 64 bytes, leaves of their types, schemas that
-- keep the rules, and names of some kind.
use Rattle.std.specs.Prelude.{◌≡◌, ◌<◌, ◌≤◌, ◌^◌, ℕ, ℤ, pos, negsuc, List, [], length, false, IsTrue, Option, None, Some, IfSome, IsSome}
use Rattle.std.specs.List.{AllByRecursion}
use Rattle.serde_json.specs.Written.{compact_text}
use Rattle.st_ids.specs.Listing.{Has}
use Rattle.st_ids.specs.declared.names.Atom.{Atom}
use Rattle.st_ids.specs.declared.names.FieldId.{FieldId}
use Rattle.st_ids.specs.declared.names.Leaf.{Leaf}
use Rattle.st_ids.specs.declared.names.NodeId.{NodeId}
use Rattle.st_ids.specs.declared.names.Rev.{Rev}
use Rattle.st_marks.specs.declared.changes.Change.{Change}
use Rattle.st_marks.specs.declared.changes.NewNode.{NewNode}
use Rattle.st_marks.specs.declared.intents.Intent.{Intent}
use Rattle.st_marks.specs.declared.intents.Owned.{Owned}
use Rattle.st_marks.specs.declared.intents.Put.{Put}
use Rattle.st_marks.specs.declared.marks.How.{How}
use Rattle.st_marks.specs.declared.marks.Loose.{Loose}
use Rattle.st_marks.specs.declared.marks.Mark.{Mark}
use Rattle.st_marks.specs.declared.marks.RegMark.{RegMark}
use Rattle.st_marks.specs.declared.marks.RegStep.{RegStep}
use Rattle.st_marks.specs.declared.marks.RowMarks.{RowMarks}
use Rattle.st_marks.specs.declared.places.Spot.{Spot}
use Rattle.st_marks.specs.declared.schemas.SchemaEntry.{SchemaEntry}
use Rattle.st_marks.specs.declared.schemas.SchemaStep.{SchemaStep}
use Rattle.st_marks.specs.declared.steps.Step.{Step}
use Rattle.st_marks.specs.Document.{Document}
use Rattle.st_marks.specs.Intent.{group_cells, register_of}
use Rattle.st_clusters.specs.declared.at.At.{At}
use Rattle.st_idcodec.specs.OpText.{IsShort}
use Rattle.st_mark_reader.specs.OpSpace.{op_number}
use Rattle.st_schema.specs.Conforms.{leaf_type}
use Rattle.st_schema.specs.Schema.{SchemaView, is_among, is_sound, leaf_types}
use Rattle.st_schema.specs.Written.{schema_data}

-- ## Names with numbers below 2^32, as every name in memory has

abbrev pub IsShortRev : Rev → Type 0
IsShortRev r = (r.session < 2 ^ 32) × (r.num < 2 ^ 32)

abbrev pub IsShortAtom : Atom → Type 0
IsShortAtom a = (a.rev.session < 2 ^ 32) × (a.rev.num < 2 ^ 32) × (a.at < 2 ^ 32)

-- ## What a change lists, with atoms of a kind

abbrev pub MarkIsWithin : (Atom → Type 0) → Mark → Type 0
MarkIsWithin A (Mark.Skip k) = k < 2 ^ 32
MarkIsWithin A (Mark.Gap c) = A c.0
MarkIsWithin A (Mark.Touch c x how) = A c.0 × A x.0
MarkIsWithin A (Mark.Make c x full) = A c.0 × A x.0
MarkIsWithin A (Mark.Fill c x) = A c.0 × A x.0

abbrev pub NodeIsWithin : (Atom → Type 0) → NodeId → Type 0
NodeIsWithin A x = A x.0

abbrev pub RowIsWithin : (Atom → Type 0) → RowMarks → Type 0
RowIsWithin A r = A r.node.0 × AllByRecursion (MarkIsWithin A) r.marks

abbrev pub OccupantIsWithin : (Atom → Type 0) → Option NodeId → Type 0
OccupantIsWithin A None = Unit {0}
OccupantIsWithin A (Some x) = A x.0

abbrev pub KeyIsShort : FieldId → Type 0
KeyIsShort f = length f.key.0 ≤ 64

abbrev pub FieldIsWithin : (Atom → Type 0) → FieldId → Type 0
FieldIsWithin A f = A f.node.0 × KeyIsShort f

abbrev pub RegisterIsWithin : (Atom → Type 0) → RegMark → Type 0
RegisterIsWithin A r = FieldIsWithin A r.field × OccupantIsWithin A r.held × OccupantIsWithin A r.fill

abbrev pub LooseIsWithin : (Atom → Type 0) → Loose → Type 0
LooseIsWithin A l = A l.node.0

-- a whole number below 2^63
abbrev pub IsShortNumber : ℤ → Type 0
IsShortNumber (pos n) = n < 2 ^ 63
IsShortNumber (negsuc n) = Unit {0}

abbrev pub LeafIsShort : Leaf → Type 0
LeafIsShort Leaf.Null = Unit {0}
LeafIsShort (Leaf.Bool b) = Unit {0}
LeafIsShort (Leaf.Int i) = IsShortNumber i
LeafIsShort (Leaf.Words t) = Unit {0}

-- a leaf's type has a value of that type, another type has none
abbrev pub LeafFits : List ℕ → Option Leaf → Type 0
LeafFits ty None = is_among ty leaf_types ≡ false
LeafFits ty (Some v) = (ty ≡ leaf_type v) × LeafIsShort v

abbrev pub NewIsWithin : (Atom → Type 0) → NewNode → Type 0
NewIsWithin A m = A m.node.0 × LeafFits m.ty m.leaf

-- ## Changes

-- a text is the form of a schema that keeps the rules, as `Schema::text` gives it
abbrev pub IsSchemaText : List ℕ → Type 0
IsSchemaText t = (s : SchemaView) × IsTrue (is_sound s) × (t ≡ compact_text (schema_data s))

pub record ListsAreWithin (A : Atom → Type 0) (C : Change) : Type 0 where
  pub need : AllByRecursion (NodeIsWithin A) C.need
  pub new : AllByRecursion (NewIsWithin A) C.new
  pub rows : AllByRecursion (RowIsWithin A) C.rows
  pub regs : AllByRecursion (RegisterIsWithin A) C.regs
  pub loose : AllByRecursion (LooseIsWithin A) C.loose

-- a change of the schema lists nothing
pub record ListsAreEmpty (C : Change) : Type 0 where
  pub need : C.need ≡ []
  pub new : C.new ≡ []
  pub rows : C.rows ≡ []
  pub regs : C.regs ≡ []
  pub loose : C.loose ≡ []

abbrev pub ContentIsWithin : (Atom → Type 0) → Change → Option (List ℕ) → Type 0
ContentIsWithin A C None = ListsAreWithin A C
ContentIsWithin A C (Some t) = IsSchemaText t × ListsAreEmpty C

-- a change that can be told with revisions and atoms of a kind
pub record ChangeIsWithin (R : Rev → Type 0) (A : Atom → Type 0) (C : Change) : Type 0 where
  pub rev : R C.rev
  pub under : R C.under
  pub content : ContentIsWithin A C C.schema

-- ## Intents and documents, whose changes can be told

-- the names that an intent makes are of a kind, its new nodes can be told, the registers that it names have keys of at most
-- 64 bytes, and a schema that it brings in keeps the rules
pub record IntentIsWithin (A : Atom → Type 0) (N : Intent) : Type 0 where
  pub new : AllByRecursion (NewIsWithin A) N.new
  pub cells : AllByRecursion (λ (o : Owned). A o.cell.0) (group_cells N)
  pub puts : AllByRecursion (λ (p : Put). IfSome (register_of p.to) KeyIsShort) N.put
  pub clears : AllByRecursion KeyIsShort N.clear
  pub schema : IfSome N.schema IsSchemaText

-- a document's names are of a kind, and the registers in which nodes stand have keys of at most 64 bytes
pub record DocumentIsWithin (A : Atom → Type 0) (D : Document) : Type 0 where
  pub nodes : (n : NodeId) → IsSome (D.nodes n) → A n.0
  pub cells : (n : NodeId) (o : Owned) → Has (D.rows n) o → A o.cell.0
  pub keys : (n : NodeId) (f : FieldId) → D.place n ≡ Spot.Register f → KeyIsShort f

-- ## Steps

-- in a step a node stays or leaves
abbrev pub HowMoves : How → Type 0
HowMoves How.Stay = Unit {0}
HowMoves How.Here = ⊥
HowMoves How.Leave = Unit {0}

abbrev pub MarkMoves : Mark → Type 0
MarkMoves (Mark.Skip k) = Unit {0}
MarkMoves (Mark.Gap c) = Unit {0}
MarkMoves (Mark.Touch c x how) = HowMoves how
MarkMoves (Mark.Make c x full) = Unit {0}
MarkMoves (Mark.Fill c x) = Unit {0}

abbrev pub StepMarkIsWithin : (Atom → Type 0) → Mark → Type 0
StepMarkIsWithin A m = MarkIsWithin A m × MarkMoves m

abbrev pub StepRowIsWithin : (Atom → Type 0) → RowMarks → Type 0
StepRowIsWithin A r = A r.node.0 × AllByRecursion (StepMarkIsWithin A) r.marks

abbrev pub StepLooseIsWithin : (Atom → Type 0) → Loose → Type 0
StepLooseIsWithin A l = A l.node.0 × HowMoves l.how

abbrev pub RegStepIsWithin : (Atom → Type 0) → RegStep → Type 0
RegStepIsWithin A r = FieldIsWithin A r.field × OccupantIsWithin A r.before × OccupantIsWithin A r.after

abbrev pub EntryIsWithin : (Rev → Type 0) → SchemaEntry → Type 0
EntryIsWithin R e = R e.rev × IsSchemaText e.text

abbrev pub SchemaStepIsWithin : (Rev → Type 0) → SchemaStep → Type 0
SchemaStepIsWithin R s = R s.on × AllByRecursion (EntryIsWithin R) s.cut × AllByRecursion (EntryIsWithin R) s.add

abbrev pub SchemaPartIsWithin : (Rev → Type 0) → Option SchemaStep → Type 0
SchemaPartIsWithin R None = Unit {0}
SchemaPartIsWithin R (Some s) = SchemaStepIsWithin R s

-- a step that can be told with revisions and atoms of a kind
pub record StepIsWithin (R : Rev → Type 0) (A : Atom → Type 0) (S : Step) : Type 0 where
  pub new : AllByRecursion (NewIsWithin A) S.new
  pub rows : AllByRecursion (StepRowIsWithin A) S.rows
  pub regs : AllByRecursion (RegStepIsWithin A) S.regs
  pub loose : AllByRecursion (StepLooseIsWithin A) S.loose
  pub schema : SchemaPartIsWithin R S.schema

-- ## Names in op space that have a number, which is a number of 64 bits

abbrev pub HasNumber : At → Rev → Type 0
HasNumber a r = (z : ℤ) × (op_number a r ≡ Some z) × IsShort z

abbrev pub AtomHasNumber : At → Atom → Type 0
AtomHasNumber a x = HasNumber a x.rev × (x.at < 2 ^ 32)
