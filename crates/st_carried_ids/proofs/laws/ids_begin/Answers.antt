use Rattle.st_carried_ids.proofs.Carrying.{begun_ids}
use Rattle.st_carried_ids.proofs.laws.ids_begin.Goals as goal

pub returns : goal.returns
returns c = begun_ids
