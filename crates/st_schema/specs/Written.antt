-- The JSON form of a schema: `{"root":[types],"types":[definitions]}`, where a definition is `{"array":[types],"name":t}`,
-- `{"map":[types],"name":t}` or `{"name":t,"object":{key:[kind,[types]], ..}}`.
use Rattle.std.specs.Prelude.{ℕ, List, [], ◌∷◌, map, codes}
use Rattle.serde_json.specs.Data.{Data, string, array, object, no_items, item, Members, no_members, member}
use Rattle.serde_json.specs.View.{items_of}
use Rattle.st_schema.specs.Schema.{SchemaView}
use Rattle.st_schema.specs.declared.names.KindName.{KindName}
use Rattle.st_schema.specs.declared.names.KindName.TheVariants.{Required, Optional, Sequence}
use Rattle.st_schema.specs.declared.names.FieldDef.{FieldDef}
use Rattle.st_schema.specs.declared.names.Form.{Form}
use Rattle.st_schema.specs.declared.names.Form.TheVariants.{Array, Map, Object}

abbrev pub names_data : List (List ℕ) → Data
names_data ts = array (items_of (map string ts))

-- no declared field is a sequence, so the last of these texts is never written
abbrev pub kind_text : KindName → List ℕ
kind_text Required = codes "req"
kind_text Optional = codes "opt"
kind_text Sequence = codes "seq"

abbrev pub field_data : FieldDef → Data
field_data f = array (item (string (kind_text f.kind)) (item (names_data f.types) no_items))

abbrev pub fields_data : List FieldDef → Members
fields_data [] = no_members
fields_data (f ∷ fs) = member f.key.0 (field_data f) (fields_data fs)

abbrev pub form_data : List ℕ → Form → Data
form_data name (Array types) = object (member (codes "array") (names_data types) (member (codes "name") (string name) no_members))
form_data name (Map types) = object (member (codes "map") (names_data types) (member (codes "name") (string name) no_members))
form_data name (Object fields) = object (member (codes "name") (string name) (member (codes "object") (object (fields_data fields)) no_members))

abbrev pub definition_data : List ℕ × Form → Data
definition_data d = form_data d.0 d.1

abbrev pub schema_data : SchemaView → Data
schema_data s = object (member (codes "root") (names_data s.root) (member (codes "types") (array (items_of (map definition_data s.types))) no_members))
