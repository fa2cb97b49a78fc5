use Rattle.std.proofs.Common.{false}
use Rattle.st_manager.proofs.Standing.{local_sound, stands_with_local}
use Rattle.st_manager.proofs.manager.Manager.add.Goals as goal

pub returns-clause-stands : goal.returns-clause-stands
returns-clause-stands g c = λ t N s few next. stands_with_local g.R.Carrier.listed t N c.args.change c.in_ok-effected.effected.verdict c.args.self.now _ s few next
    (λ F r w. (c.in_ok-effected.ensures F N (local_sound g.R.Carrier.listed t c.args.self.now F s r) w.fits w.short w.shown).0)
    (λ i. record c.args.self.now { pending = c.in_ok-push.ensures i; spent = false })

pub returns-clause-effect : goal.returns-clause-effect
returns-clause-effect g c = λ t N F s r w. let e = c.in_ok-effected.ensures F N (local_sound g.R.Carrier.listed t c.args.self.now F s r) w.fits w.short w.shown in record { verdict = e.0; step = e.1 }
