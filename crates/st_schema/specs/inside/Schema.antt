-- Words of the private functions behind `Schema`.
use Rattle.std.specs.Prelude.{[], Bool, true}
use Rattle.st_schema.specs.declared.names.Form.{Form}
use Rattle.st_schema.specs.declared.names.Form.TheVariants.{Array, Map, Object}
use Rattle.st_schema.specs.Schema.{defs_rise}

-- the declared fields are in rising order of their keys
abbrev pub form_rises : Form → Bool
form_rises (Array types) = true
form_rises (Map types) = true
form_rises (Object fields) = defs_rise [] fields
