use Rattle.st_register.proofs.InTurn.{joined_is}
use Rattle.st_register.proofs.joined.join_changes.Goals as goal

pub returns : goal.returns
returns c p q j d t w v e f =
    joined_is p q j d _ _ _ _ _ _ _ _ t w v e f c.put.ensures c.entering_node-fill.ensures c.either.ensures c.how.ensures c.either-2.ensures c.makes_any.ensures
