use Rattle.st_marks.specs.Step.{IsStep}
use Rattle.st_marks.specs.declared.steps.Step.{Step}
use Rattle.st_agree.specs.declared.agreement.FieldApart.{FieldApart}
use Rattle.st_compose.proofs.Refusals.{refused_none}
use Rattle.st_compose.proofs.composition.compose.Goals as goal

pub returns-in-Err-clause-composed : goal.returns-in-Err-clause-composed
returns-in-Err-clause-composed c = λ D E F x y s t.
    refused_none (Unit {0}) Step FieldApart (IsStep D F) c.in-Err.why (c.in-Err.ensures.over D E F x y s t)
