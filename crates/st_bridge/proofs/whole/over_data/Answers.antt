use Rattle.st_marks.specs.CarryOut.{void}
use Rattle.st_marks.specs.Verdict.{carried_document}
use Rattle.st_marks.proofs.OneVerdict.{carried_extends}
use Rattle.st_marks.proofs.Turns.{extends_on}
use Rattle.st_steps.proofs.VoidsExtend.{voids_extend}
use Rattle.st_bridge.proofs.WaysTaken.{carried_to_void}
use Rattle.st_bridge.proofs.whole.over_data.Goals as goal

pub returns : goal.returns
returns c = λ D E N v u x f g plain short later emb rebased step is there.
    let voids = voids_extend D E N x f g plain short later in
    let over = c.in_ok-over.ensures D E N x f g plain short later emb step in
    let from = c.in_ok-from.ensures D (void E N) N v x.before f short plain emb is voids over in
    let extends = extends_on (carried_document v D N) (void D N) (void E N) (carried_to_void D N v (carried_extends D N v x.before f short is) f plain) voids in
    c.to_carried.ensures E (carried_document v D N) N u x.after g later plain rebased there extends from
