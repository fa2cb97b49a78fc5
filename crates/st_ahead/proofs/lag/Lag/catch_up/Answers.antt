use Rattle.std.proofs.Common.{refl}
use Rattle.st_ahead.proofs.CaughtUp.{caught_up}
use Rattle.st_ahead.proofs.lag.Lag.catch_up.Goals as goal

pub returns-in_ok-push_kept-in-Ok : goal.returns-in_ok-push_kept-in-Ok
returns-in_ok-push_kept-in-Ok c = λ l O log session reference written window low end h.
    (caught_up l O log session reference c.args.entries c.args.window.now c.args.self.now c.in-Ok.kept.now c.push_kept.new.ahead written window low end c.in-Ok.ensures.ok c.in_ok-push_kept-in-Ok.ensures h, refl)
