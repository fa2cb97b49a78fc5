use Rattle.st_over.proofs.Shown.{shown, shown-step}
use Rattle.st_over.proofs.change.fields_after.Goals as goal

pub returns : goal.returns
returns g c = λ D E N x f h change step.
    let l = g.R.Reading.listed in
    let a = shown l D N c.args.change.now change in
    let b = shown-step l D E c.args.step.now step in
    c.fields_with.ensures D E N x f h change step (c.in_ok-puts.ensures D N x.before f a) (c.in_ok-places.ensures D E N x f h a b)
