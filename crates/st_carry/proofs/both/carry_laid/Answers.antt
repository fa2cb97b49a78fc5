use Rattle.std.proofs.lemmas.Result.{on_ok_weaker}
use Rattle.st_carry.proofs.both.carry_laid.Goals as goal

pub returns : goal.returns
returns g c =
    on_ok_weaker c.carry_with.result (λ carried D E N x f h short short_later before change step.
    carried D E N x f h short short_later before change (c.in_ok-next.ensures D E N x f h short_later change step) step) c.carry_with.ensures
