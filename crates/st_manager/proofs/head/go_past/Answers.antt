use Rattle.std.proofs.Common.{sym, subst}
use Rattle.st_read_laws.specs.Reading.{IsStepRead}
use Rattle.st_manager.proofs.head.go_past.Goals as goal

pub returns : goal.returns
returns g c = λ D E F Ns x f h s is.
    let r = c.in_ok-push_through.ensures D E F Ns x f h s.shown s.judged (subst (IsStepRead g.R.Carrier.listed D E) (sym c.in_ok-over.ensures) is) in
    (r.0, record { shown = r.1; judged = r.2 }, r.3, r.4)
