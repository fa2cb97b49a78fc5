use Rattle.st_schema_laws.proofs.SchemasKept.{shown_allowed}
use Rattle.st_schema_laws.proofs.upgrade_laws.shown_trees_are_allowed.Goals as goal

pub returns : goal.returns
returns c = λ T D is_array d s here tells shows. shown_allowed T D s here is_array d tells shows
