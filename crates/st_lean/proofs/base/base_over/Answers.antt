use Rattle.st_lean.proofs.SchemasLater.{data_over, schema_over}
use Rattle.st_lean.proofs.base.base_over.Goals as goal

pub returns-in-None : goal.returns-in-None
returns-in-None c = data_over c.args.part.now c.args.change.now c.in-None.is c.base_over_data.result c.base_over_data.ensures

pub returns-in-Some : goal.returns-in-Some
returns-in-Some c = schema_over c.args.part.now c.args.change.now c.in-Some.field-0 c.in-Some.is c.base_over_schema.result c.base_over_schema.ensures
