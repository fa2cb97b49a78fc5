use Rattle.st_ahead.proofs.CaughtUp.{raised}
use Rattle.st_ahead.proofs.lag.Lag.raise.Goals as goal

pub returns : goal.returns
returns c = λ l O log session known up within h.
    raised l O log session known c.args.reference c.max-self.result c.args.self.now c.drop_up_to.new.ahead up within c.max-self.ensures c.drop_up_to.ensures h
