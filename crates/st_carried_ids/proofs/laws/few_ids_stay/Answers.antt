use Rattle.st_carried_ids.proofs.Few.{few_next}
use Rattle.st_carried_ids.proofs.laws.few_ids_stay.Goals as goal

pub returns : goal.returns
returns c = λ h w v s a most world low few next. few_next h w v s a most world low few next
