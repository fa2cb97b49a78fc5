use Rattle.st_register.proofs.Carried.{moved_is, moved_void}
use Rattle.st_register.proofs.told.over_occupant.Goals as goal

pub returns-clause-kept : goal.returns-clause-kept
returns-clause-kept c p a d w v k h e =
    moved_is p a d _ _ _ w h e c.put_there.ensures _ _ _ k c.how_of.ensures c.entering_node-fill.ensures c.makes_any.ensures

pub returns-clause-void : goal.returns-clause-void
returns-clause-void c p a d w v h e =
    moved_void p a d _ _ _ w h e c.put_there.ensures c.how_of.result _ _ v c.entering_node-fill.ensures c.makes_any.ensures
