use Rattle.st_marks.specs.Agree.{RebaseClash}
use Rattle.st_marks.specs.Step.{IsStep}
use Rattle.st_marks.specs.Verdict.{carried_document}
use Rattle.st_marks.specs.declared.steps.Step.{Step}
use Rattle.st_agree.specs.declared.agreement.FieldApart.{FieldApart}
use Rattle.st_bridge.proofs.Refusals.{least_same, refused_none, refused_same}
use Rattle.st_bridge.proofs.whole.bridge.Goals as goal

pub returns-in-Err-clause-bridged : goal.returns-in-Err-clause-bridged
returns-in-Err-clause-bridged c = λ D E N v u x f g short later change step is there.
    refused_none (Unit {0}) Step FieldApart (IsStep (carried_document v D N) (carried_document u E N)) c.in-Err.why (c.in-Err.ensures.over D E N x f g change step)

pub returns-in-Err-clause-named : goal.returns-in-Err-clause-named
returns-in-Err-clause-named c = refused_same (Unit {0}) Step FieldApart (λ a. RebaseClash c.args.change.now c.args.step.now a.field) c.in-Err.why c.in-Err.ensures.named

pub returns-in-Err-clause-apart : goal.returns-in-Err-clause-apart
returns-in-Err-clause-apart c = λ change step. least_same (Unit {0}) Step (RebaseClash c.args.change.now c.args.step.now) c.in-Err.why (c.in-Err.ensures.apart change step)
