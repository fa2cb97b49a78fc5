use Rattle.std.proofs.Common.{subst, sym}
use Rattle.st_read_laws.specs.Reading.{IsRead}
use Rattle.st_carry.proofs.both.rebased.Goals as goal

pub returns : goal.returns
returns g c = λ D E N x f h short change step.
    c.in_ok-rebase.ensures.ok D E N x f h short (subst (IsRead g.R.Reading.listed D N) (sym c.in_ok-next.ensures) change) step
