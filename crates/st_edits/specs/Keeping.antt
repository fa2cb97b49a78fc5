-- When a commit keeps to the schema under which it was made: said by the commits before it, with makers and homes by the commits, and
-- the schema by its text.
use Rattle.std.specs.Prelude.{◌≡◌, ◌≢◌, ◌<◌, ◌⊎◌, ℕ, Bool, true, false, List, [], ◌∷◌, length, Option, Some, IfSome, IsSome, MatchOption, option_map, option_and_then, Ok, if◌then◌else◌}
use Rattle.std.specs.List.{find}
use Rattle.serde_json.specs.Written.{compact_text}
use Rattle.st_ids.specs.Listing.{Has}
use Rattle.st_ids.specs.Order.{same_rev}
use Rattle.st_ids.specs.Root.{opening}
use Rattle.st_ids.specs.declared.names.FieldId.{FieldId}
use Rattle.st_ids.specs.declared.names.Key.{Key}
use Rattle.st_ids.specs.declared.names.NodeId.{NodeId}
use Rattle.st_ids.specs.declared.names.Rev.{Rev}
use Rattle.st_schema.specs.Kind.{is_required, is_row, is_single_kind}
use Rattle.st_schema.specs.Schema.{SchemaView, is_sound}
use Rattle.st_schema.specs.Wider.{wider_of}
use Rattle.st_schema.specs.Written.{schema_data}
use Rattle.st_schema.specs.declared.names.FieldRule.{FieldRule}
use Rattle.st_schema.specs.declared.names.KindName.{KindName}
use Rattle.st_marks.specs.declared.intents.Intent.{Intent}
use Rattle.st_marks.specs.declared.intents.To.{To}
use Rattle.st_marks.specs.declared.schemas.SchemaEntry.{SchemaEntry}
use Rattle.st_marks.specs.CarryOut.{with_names}
use Rattle.st_marks.specs.Document.{Document, NodeType, revs}
use Rattle.st_marks.specs.Intent.{clears, is_new, new_type, put_in, put_of}
use Rattle.st_edits.specs.Paths.{field_at}
use Rattle.st_edits.specs.Resolve.{has_type, rule_at}
use Rattle.st_edits.specs.Fields.{put_register, is_required_field, register_in, row_key, type_fits}

-- ## Fields

-- the schema has the field, of one of these kinds, and it takes nodes of m's type
pub record HasField (s : SchemaView) (D : Document) (kinds : KindName → Bool) (n : NodeId) (key : Key) (m : NodeId) : Type 0 where
  pub rule : FieldRule
  pub ruled : rule_at D s n key ≡ Some rule
  pub kind : kinds rule.kind ≡ true
  pub typed : has_type D rule.types m ≡ true

-- the schema has the field into which a node is put, and it takes the node; a cell is in the row of some node
abbrev pub GoesWell : SchemaView → Document → NodeId → To → Type 0
GoesWell s E m To.Nowhere = Unit {0}
GoesWell s E m (To.Cell c) = (n : NodeId) × (E.row_of c ≡ Some n) × HasField s E is_row n row_key m
GoesWell s E m (To.Register f) = HasField s E is_single_kind f.node f.key m

-- ## Makers and homes

-- under which schema a node was made, and into which register its maker put it
pub record Made : Type 0 where
  pub under : Rev
  pub home : Option FieldId

abbrev pub commit_named : List Intent → Rev → Option Intent
commit_named Ns r = find (λ (N : Intent). same_rev N.rev r) Ns

abbrev pub made_of : Document → List Intent → NodeId → Option Made
made_of O Ns n = if same_rev n.0.rev opening then Some (record { under = opening; home = register_in (O.place n) })
    else option_map (λ (N : Intent). record { under = N.under; home = put_register N n }) (commit_named Ns n.0.rev)

abbrev pub home_of : Document → List Intent → NodeId → Option FieldId
home_of O Ns n = option_and_then (λ (m : Made). m.home) (made_of O Ns n)

-- a node leaves its home: for nowhere alone, and another comes there
abbrev pub MayLeave : Intent → FieldId → To → Type 0
MayLeave N f To.Nowhere = IsSome (put_in N f)
MayLeave N f (To.Cell c) = ⊥
MayLeave N f (To.Register g) = g ≡ f

-- ## Schemas in effect

-- the schemas in effect up to one, that one among them
pub data IsUpTo : Rev → List Rev → List Rev → Type 0 where
  here : {u : Rev} {rest : List Rev} → IsUpTo u (u ∷ rest) (u ∷ [])
  later : {u r : Rev} {rest front : List Rev} → r ≢ u → IsUpTo u rest front → IsUpTo u (r ∷ rest) (r ∷ front)

-- the schema of an entry in effect
abbrev pub text_at : List SchemaEntry → Rev → Option (List ℕ)
text_at es u = option_map (λ (e : SchemaEntry). e.text) (find (λ (e : SchemaEntry). same_rev e.rev u) es)

pub record IsViewOf (D : Document) (u : Rev) (U : SchemaView) : Type 0 where
  pub text : text_at D.schemas u ≡ Some (compact_text (schema_data U))
  pub sound : is_sound U ≡ true

-- a text is that of a schema that keeps its rules and is wider than U
pub record MayFollow (U : SchemaView) (text : List ℕ) : Type 0 where
  pub view : SchemaView
  pub written : text ≡ compact_text (schema_data view)
  pub sound : is_sound view ≡ true
  pub wide : wider_of U view ≡ Ok tt

-- ## The test

-- a commit of data keeps to a schema U, `front` being the schemas in effect in its author's document up to U
pub record KeepsToSchema (O D : Document) (log : List Intent) (U : SchemaView) (front : List Rev) (N : Intent) : Type 0 where
  pub types : (n : NodeId) (t : NodeType) → new_type N n ≡ Some t → type_fits U t.ty t.leaf ≡ true
  pub filled : (n : NodeId) (key : Key) (rule : FieldRule) → is_new N n ≡ true → rule_at (with_names D N) U n key ≡ Some rule → is_required rule.kind ≡ true
      → (m : NodeId) × (put_in N (field_at n key) ≡ Some m) × (is_new N m ≡ true)
  pub fields : (m : NodeId) (to : To) → put_of N m ≡ Some to → GoesWell U (with_names D N) m to
  pub put_makers : (m : NodeId) → IsSome (put_of N m) → is_new N m ≡ false → (d : Made) × (made_of O log m ≡ Some d) × Has front d.under
  pub clear_makers : (f : FieldId) → clears N f ≡ true → is_new N f.node ≡ false → (d : Made) × (made_of O log f.node ≡ Some d) × Has front d.under
  pub required : (f : FieldId) → clears N f ≡ true → is_required_field U (with_names D N) f ≡ true
      → (m : NodeId) × (put_in N f ≡ Some m) × ((is_new N m ≡ true) ⊎ (home_of O log m ≡ Some f))
  pub homes : (m : NodeId) (to : To) (f : FieldId) → put_of N m ≡ Some to → is_new N m ≡ false → home_of O log m ≡ Some f
      → is_required_field U (with_names D N) f ≡ true → MayLeave N f to

-- the commit keeps to the schema that it names, where that is in effect for its author
pub record PassesSchema (O D : Document) (log : List Intent) (N : Intent) : Type 0 where
  pub schema : SchemaView
  pub front : List Rev
  pub view : IsViewOf D N.under schema
  pub up_to : IsUpTo N.under (revs D.schemas) front
  pub keeps : MatchOption N.schema (KeepsToSchema O D log schema front N) (MayFollow schema)

-- at most 64 schemas are in effect, one that comes among them
abbrev pub HasRoomForSchema : Document → Intent → Type 0
HasRoomForSchema D N = IfSome N.schema (λ _. length D.schemas < 64)
