use Rattle.std.proofs.Common.{subst, sym}
use Rattle.std.proofs.lemmas.Result.{on_ok_weaker}
use Rattle.st_carry.specs.inside.Over.{IsOver}
use Rattle.st_carry.proofs.OverSteps.{schema_over}
use Rattle.st_carry.proofs.over.over_change.Goals as goal

pub returns-in-None : goal.returns-in-None
returns-in-None g c = on_ok_weaker c.set_over.result (λ over. over c.args.next.now c.in-None.is) c.set_over.ensures

pub returns-in-Some : goal.returns-in-Some
returns-in-Some g c =
    let C = c.args.change.now in
    let X = c.args.next.now in
    on_ok_weaker c.over_schema.result
    (λ e. subst (IsOver g.R.Reading.listed C c.args.step.now c.args.was c.args.is X) (sym e) (schema_over g.R.Reading.listed C c.args.step.now c.args.was c.args.is X c.in-Some.text c.in-Some.is))
    c.over_schema.ensures
