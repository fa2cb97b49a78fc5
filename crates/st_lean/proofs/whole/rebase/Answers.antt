use Rattle.std.proofs.Common.{◌≡◌, Bool, true, false, sym, ◌∙◌}
use Rattle.std.proofs.lemmas.Result.{on_ok_weaker}
use Rattle.st_over.proofs.Shown.{shown, shown-step}
use Rattle.st_lean.proofs.Laid.{stand_so}
use Rattle.st_lean.proofs.whole.rebase.Goals as goal

pub returns-then-not-can_be_laid-clause-ok : goal.returns-then-not-can_be_laid-clause-ok
returns-then-not-can_be_laid-clause-ok g c = λ D E N x f h short change step.
    let l = g.R.Reading.listed in
    let laid = stand_so l D E N c.args.change.now c.args.step.now (λ C S emb st. c.documents_have_room.ensures D E N C S short emb st) change step in
    let q : ◌≡◌ {A = Bool} false true = sym c.if-not-can_be_laid.true ∙ c.can_be_laid.ensures.1 laid in
    cc

pub returns-clause-ok : goal.returns-clause-ok
returns-clause-ok g c =
    let l = g.R.Reading.listed in
    on_ok_weaker c.rebase_with_base.result (λ over D E N x f h short change step. over D E N x f h change step
    (c.base_after-base.ensures D E N x (shown l D N c.args.change.now change) (shown-step l D E c.args.step.now step)))
    c.rebase_with_base.ensures.ok
