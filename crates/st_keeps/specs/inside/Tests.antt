-- The tests, by what tables of makers tell.
use Rattle.std.specs.Prelude.{Bool, true, false, not, ◌||◌, List, Option, None, Some, is_some}
use Rattle.std.specs.List.{list_all, list_any}
use Rattle.st_ids.specs.Order.{same_field, same_rev}
use Rattle.st_ids.specs.declared.names.FieldId.{FieldId}
use Rattle.st_ids.specs.declared.names.NodeId.{NodeId}
use Rattle.st_ids.specs.declared.names.Rev.{Rev}
use Rattle.st_schema.specs.Schema.{SchemaView}
use Rattle.st_marks.specs.declared.intents.Intent.{Intent}
use Rattle.st_marks.specs.declared.intents.Put.{Put}
use Rattle.st_marks.specs.declared.intents.To.{To}
use Rattle.st_marks.specs.declared.schemas.SchemaEntry.{SchemaEntry}
use Rattle.st_marks.specs.CarryOut.{with_names}
use Rattle.st_marks.specs.Document.{Document}
use Rattle.st_marks.specs.Intent.{is_new, put_in, put_of}
use Rattle.st_edits.specs.Fields.{is_required_field}
use Rattle.st_makers.specs.Makers.{home_told, under_told}
use Rattle.st_makers.specs.declared.makers.Makers.{Makers}

-- ## Makers

-- one of the entries is of the revision, if there is one
abbrev pub is_among : List SchemaEntry → Option Rev → Bool
is_among front None = false
is_among front (Some u) = list_any (λ (e : SchemaEntry). same_rev e.rev u) front

-- a node is new, or was made under one of the schemas
abbrev pub is_known : Makers → List SchemaEntry → Intent → NodeId → Bool
is_known makers front N n = is_among front (under_told makers n) || is_new N n

abbrev pub puts_known : Makers → List SchemaEntry → Intent → Bool
puts_known makers front N = list_all (λ (p : Put). is_known makers front N p.node) N.put

abbrev pub clears_known : Makers → List SchemaEntry → Intent → Bool
clears_known makers front N = list_all (λ (f : FieldId). is_known makers front N f.node) N.clear

-- ## Required fields that are cleared

-- a register is one that is told, if one is
abbrev pub is_told : FieldId → Option FieldId → Bool
is_told f None = false
is_told f (Some g) = same_field g f

-- a node that is put into a field is new, or has its home there
abbrev pub comes_well : Makers → Intent → FieldId → Option NodeId → Bool
comes_well makers N f None = false
comes_well makers N f (Some m) = is_told f (home_told makers m) || is_new N m

abbrev pub is_filled : Makers → SchemaView → Document → Intent → FieldId → Bool
is_filled makers U D N f = comes_well makers N f (put_in N f) || not (is_required_field U (with_names D N) f)

abbrev pub are_filled : Makers → SchemaView → Document → Intent → Bool
are_filled makers U D N = list_all (is_filled makers U D N) N.clear

-- ## Homes that are left

-- a node may leave its home for where it is put, if it is put
abbrev pub may_leave : Intent → FieldId → Option To → Bool
may_leave N f None = true
may_leave N f (Some To.Nowhere) = is_some (put_in N f)
may_leave N f (Some (To.Cell c)) = false
may_leave N f (Some (To.Register g)) = same_field g f

abbrev pub leaves_home : SchemaView → Document → Intent → NodeId → Option FieldId → Bool
leaves_home U D N m None = true
leaves_home U D N m (Some f) = (may_leave N f (put_of N m) || is_new N m) || not (is_required_field U (with_names D N) f)

abbrev pub homes_left_well : Makers → SchemaView → Document → Intent → Bool
homes_left_well makers U D N = list_all (λ (p : Put). leaves_home U D N p.node (home_told makers p.node)) N.put
