use Rattle.std.proofs.Common.{sym, subst}
use Rattle.st_marks.specs.Verdict.{carried_document}
use Rattle.st_seats.specs.Seats.{StandInTurn}
use Rattle.st_seats.proofs.PastCommits.{first_goes}
use Rattle.st_manager.proofs.head.pending_go_on.Goals as goal

pub returns-then-own-clause-own : goal.returns-then-own-clause-own
returns-then-own-clause-own g c = λ e D F N Ns v s is.
    (subst (λ q. StandInTurn g.R.Carrier.listed (carried_document v D N) Ns q F) (sym c.drop_first.ensures) (first_goes g.R.Carrier.listed D F N Ns c.args.pending.now v is s), c.no_step.ensures g.R.Carrier.listed F)
