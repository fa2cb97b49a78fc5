use Rattle.st_idcodec.proofs.Refusing.{not_answered}
use Rattle.st_idcodec.proofs.names.op_rev.Goals as goal

pub returns-in-Err-clause-unknown : goal.returns-in-Err-clause-unknown
returns-in-Err-clause-unknown c = λ z h. not_answered _ z ⊥ (c.in-Err.ensures.back z h)
