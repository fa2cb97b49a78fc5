use Rattle.st_register.proofs.Carried.{bridged_is}
use Rattle.st_register.proofs.kind.RegisterFieldKind.bridge.Goals as goal

pub returns-clause-bridged : goal.returns-clause-bridged
returns-clause-bridged c p m a d w v k e l h g =
    bridged_is p a d _ _ _ _ _ _ _ w v k e l h g (λ k t. c.over_occupant-after.ensures.kept p a d w v k t e) (λ t. c.over_occupant-after.ensures.void p a d w v t e) c.occupant_left.ensures c.occupant_left-2.ensures
