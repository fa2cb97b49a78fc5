use Rattle.st_marks.specs.CarryOut.{void}
use Rattle.st_steps.proofs.VoidsExtend.{voids_extend}
use Rattle.st_bridge.proofs.void.bridge_void_agreed.Goals as goal

pub returns : goal.returns
returns c = λ D E N x f h plain short later emb s.
    c.trim_step.ensures.exact (void D N) (void E N) s.mentioned (voids_extend D E N x f h plain short later) (c.in_ok-listing.ensures D E N x f h plain short later emb s)
