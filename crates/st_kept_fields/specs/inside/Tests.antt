-- The tests.
use Rattle.std.specs.Prelude.{Bool, true, false, not, ◌&&◌, ◌||◌, Option, None, Some, option_map, option_and_then}
use Rattle.std.specs.List.{list_all}
use Rattle.st_ids.specs.declared.names.Key.{Key}
use Rattle.st_ids.specs.declared.names.NodeId.{NodeId}
use Rattle.st_schema.specs.Kind.{is_required, is_row, is_single_kind}
use Rattle.st_schema.specs.Schema.{SchemaView, form_of}
use Rattle.st_schema.specs.declared.names.FieldDef.{FieldDef}
use Rattle.st_schema.specs.declared.names.FieldRule.{FieldRule}
use Rattle.st_schema.specs.declared.names.Form.{Form}
use Rattle.st_schema.specs.declared.names.Form.TheVariants.{Array, Map, Object}
use Rattle.st_schema.specs.declared.names.KindName.{KindName}
use Rattle.st_marks.specs.declared.changes.NewNode.{NewNode}
use Rattle.st_marks.specs.declared.intents.Intent.{Intent}
use Rattle.st_marks.specs.declared.intents.Put.{Put}
use Rattle.st_marks.specs.declared.intents.To.{To}
use Rattle.st_marks.specs.CarryOut.{with_names}
use Rattle.st_marks.specs.Document.{Document, NodeType}
use Rattle.st_marks.specs.Intent.{is_new, new_node, put_in, put_of}
use Rattle.st_edits.specs.Paths.{field_at}
use Rattle.st_edits.specs.Resolve.{has_type, rule_at}
use Rattle.st_edits.specs.Fields.{row_key, type_fits}

-- ## Types

-- a new node, if there is one, has a type as it should
abbrev pub is_typed : SchemaView → Option NewNode → Bool
is_typed s None = true
is_typed s (Some m) = type_fits s m.ty m.leaf

abbrev pub are_typed : SchemaView → Intent → Bool
are_typed s N = list_all (λ (m : NewNode). is_typed s (new_node N m.node)) N.new

-- ## Required fields

-- a new node is put there
abbrev pub is_of_new : Intent → Option NodeId → Bool
is_of_new N None = false
is_of_new N (Some m) = is_new N m

-- a declared field isn't required, or a new node is put into it
abbrev pub is_filled : Intent → NodeId → FieldDef → Bool
is_filled N n d = not (is_required d.kind) || is_of_new N (put_in N (field_at n d.key))

-- the required fields of a node of this form are filled; only an object has such
abbrev pub form_is_filled : Intent → NodeId → Option Form → Bool
form_is_filled N n None = true
form_is_filled N n (Some (Array types)) = true
form_is_filled N n (Some (Map types)) = true
form_is_filled N n (Some (Object defs)) = list_all (is_filled N n) defs

-- the required fields of a node, of the document or new, are filled
abbrev pub node_is_filled : SchemaView → Document → Intent → NodeId → Bool
node_is_filled s D N n = form_is_filled N n (option_and_then (form_of s.types) (option_map (λ (t : NodeType). t.ty) ((with_names D N).nodes n)))

abbrev pub all_filled : SchemaView → Document → Intent → Bool
all_filled s D N = list_all (λ (m : NewNode). node_is_filled s D N m.node) N.new

-- ## Fields

-- a rule of one of these kinds takes nodes of m's type
abbrev pub takes : Document → (KindName → Bool) → NodeId → Option FieldRule → Bool
takes D kinds m None = false
takes D kinds m (Some rule) = kinds rule.kind && has_type D rule.types m

abbrev pub has_field : SchemaView → Document → (KindName → Bool) → NodeId → Key → NodeId → Bool
has_field s D kinds n key m = takes D kinds m (rule_at D s n key)

-- the row in which a cell is takes the node
abbrev pub row_takes : SchemaView → Document → NodeId → Option NodeId → Bool
row_takes s D m None = false
row_takes s D m (Some n) = has_field s D is_row n row_key m

abbrev pub goes_well : SchemaView → Document → NodeId → To → Bool
goes_well s D m To.Nowhere = true
goes_well s D m (To.Cell c) = row_takes s D m (D.row_of c)
goes_well s D m (To.Register f) = has_field s D is_single_kind f.node f.key m

-- the node goes well where it is put, if it is put
abbrev pub put_goes_well : SchemaView → Document → NodeId → Option To → Bool
put_goes_well s D m None = true
put_goes_well s D m (Some to) = goes_well s D m to

abbrev pub all_go_well : SchemaView → Document → Intent → Bool
all_go_well s D N = list_all (λ (p : Put). put_goes_well s (with_names D N) p.node (put_of N p.node)) N.put
