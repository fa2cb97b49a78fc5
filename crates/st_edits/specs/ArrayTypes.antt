-- The types of a schema whose nodes have a row.
use Rattle.std.specs.Prelude.{ℕ, Bool, true, false, List, Option, Some, None}
use Rattle.st_schema.specs.Schema.{SchemaView, form_of}
use Rattle.st_schema.specs.declared.names.Form.{Form}
use Rattle.st_schema.specs.declared.names.Form.TheVariants.{Array, Map, Object}

-- whether a form is an array's
abbrev pub is_array_form : Option Form → Bool
is_array_form None = false
is_array_form (Some (Array types)) = true
is_array_form (Some (Map types)) = false
is_array_form (Some (Object fields)) = false

-- whether the nodes of a type have a row
abbrev pub is_array_type : SchemaView → List ℕ → Bool
is_array_type s ty = is_array_form (form_of s.types ty)
