use Rattle.std.proofs.Common.{subst}
use Rattle.st_manager.specs.Stands.{Stands}
use Rattle.st_manager.proofs.manager.Manager.take_known.Goals as goal

pub returns-clause-taken : goal.returns-clause-taken
returns-clause-taken g c = λ t u N stands known coming room.
    c.in_ok-received.ensures.kept t u c.args.session c.args.reference N (c.in_ok-passed.ensures.passed t u N (subst (λ M. Stands g.R.Carrier.listed t M) (λ i. record c.args.self.now { spent = stands.live i }) stands) known coming room)
