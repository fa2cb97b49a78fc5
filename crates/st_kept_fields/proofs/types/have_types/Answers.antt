use Rattle.st_kept_fields.proofs.Told.{types_tell}
use Rattle.st_kept_fields.proofs.types.have_types.Goals as goal

pub returns : goal.returns
returns c = types_tell _ c.args.schema.now c.args.intent.now c.are_typed.ensures
