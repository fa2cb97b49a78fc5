use Rattle.st_same_laws.proofs.CarriedDocuments.{full_same, void_same, verdict_same, carried_same}
use Rattle.st_same_laws.proofs.laws.same_intents_carry.Goals as goal

pub returns-clause-whole : goal.returns-clause-whole
returns-clause-whole c = full_same

pub returns-clause-void : goal.returns-clause-void
returns-clause-void c = void_same

pub returns-clause-verdict : goal.returns-clause-verdict
returns-clause-verdict c = verdict_same

pub returns-clause-carried : goal.returns-clause-carried
returns-clause-carried c = carried_same
