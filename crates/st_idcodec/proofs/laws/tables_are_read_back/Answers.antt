use Rattle.st_idcodec.proofs.Complete.{law_one, law_settled}
use Rattle.st_idcodec.proofs.laws.tables_are_read_back.Goals as goal

pub returns-clause-one : goal.returns-clause-one
returns-clause-one c = law_one

pub returns-clause-settled : goal.returns-clause-settled
returns-clause-settled c = law_settled
