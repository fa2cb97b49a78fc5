use Rattle.st_world_messages.proofs.Names.{few_names}
use Rattle.st_world_messages.proofs.laws.changes_make_no_more_names.Goals as goal

pub returns : goal.returns
returns c = few_names
