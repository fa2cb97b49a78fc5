use Rattle.std.proofs.Common.{sym}
use Rattle.st_over.proofs.Shown.{shown}
use Rattle.st_push.proofs.ExtensionsBeside.{extends_beside}
use Rattle.st_carry.proofs.both.carry_with.Goals as goal

pub returns : goal.returns
returns g c = λ D E N x f h short short_later before change later step.
    let l = g.R.Reading.listed in
    let judged = c.verdict-is.ensures E N x.after h (shown l E N c.args.next later) in (
      judged,
      later,
      extends_beside D E N change.0 step.0 c.args.was.now c.verdict-is.result x f h short short_later before judged change.1 step.1,
      c.in_ok-over_change.ensures D E N c.args.was.now c.verdict-is.result (x, f, h, short, short_later, change, later, step) before judged (sym c.is_void.ensures) (sym c.is_void-2.ensures),
    )
