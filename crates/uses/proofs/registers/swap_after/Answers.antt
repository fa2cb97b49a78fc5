use Rattle.uses.proofs.registers.swap_after.Goals as goal

pub returns : goal.returns
returns c p b d x s f g k h =
    let rebased = c.in_ok-rebased.ensures.rebased p p.part.mentioned b d f g k x s in
    c.in_ok-effect.ensures p d g rebased h
