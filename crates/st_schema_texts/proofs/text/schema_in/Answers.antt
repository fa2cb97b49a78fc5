use Rattle.serde_json.specs.View.{view}
use Rattle.st_schema_texts.proofs.Once.{not_read}
use Rattle.st_schema_texts.proofs.text.schema_in.Goals as goal

pub returns-in-Err-Fault : goal.returns-in-Err-Fault
returns-in-Err-Fault c = not_read c.args.text.now (view c.args.value.now) c.requires (rw c.in-Err-Fault.field-0-is at c.in-Err-Fault.ensures.bad)
