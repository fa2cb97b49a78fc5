use Rattle.std.proofs.Common.{◌∙◌, None, Some}
use Rattle.std.proofs.lemmas.Result.{IfOk-weaker, on_ok_weaker}
use Rattle.st_undo.proofs.Answered.{pending_fault, pending_way}
use Rattle.st_undo.proofs.Outcomes.{refused_along}
use Rattle.st_undo.proofs.undoing.undo_change.Goals as goal

pub returns-clause-ok : goal.returns-clause-ok
returns-clause-ok g c = IfOk-weaker c.undo_step.result _ _
    (λ C gives. pending_way g.R.Carrier.listed c.args.fresh c.args.under c.args.commit.now C c.args.later.now c.as_slice.result.now c.in_ok-effected.effected (c.as_slice.ensures ∙ c.new-none.ensures) c.in_ok-effected.ensures gives)
    c.undo_step.ensures.ok

pub returns-clause-answered : goal.returns-clause-answered
returns-clause-answered g c = on_ok_weaker c.undo_step.result
    (λ e. pending_fault g.R.Carrier.listed c.args.commit.now c.in_ok-effected.effected None c.in_ok-effected.ensures e)
    c.undo_step.ensures.answered

pub returns-clause-refused : goal.returns-clause-refused
returns-clause-refused g c = refused_along c.undo_step.result _ _
    (λ f e. pending_fault g.R.Carrier.listed c.args.commit.now c.in_ok-effected.effected (Some f) c.in_ok-effected.ensures e)
    c.undo_step.ensures.refused
