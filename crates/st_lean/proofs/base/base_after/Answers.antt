use Rattle.std.proofs.Common.{◌↔◌, IsTrue, sym, ap, ◌∙◌, subst}
use Rattle.st_marks.specs.declared.changes.Change.{Change}
use Rattle.st_marks.specs.declared.steps.Step.{Step}
use Rattle.st_marks.specs.Verdict.{IsBaseInEffect}
use Rattle.st_lean.specs.inside.Base.{IsBaseOver}
use Rattle.st_lean.proofs.SchemasLater.{later_none, later_some}
use Rattle.st_lean.proofs.base.base_after.Goals as goal

pub returns-in-None : goal.returns-in-None
returns-in-None c = λ D E N x change step.
    subst (λ (C : Change). IsTrue C.base ↔ IsBaseInEffect E N) (sym change.2)
    (later_none D E N change.0 step.0 change.1 step.1 (ap (λ (S : Step). S.schema) (sym step.2) ∙ c.in-None.is))

pub returns-in-Some : goal.returns-in-Some
returns-in-Some c = λ D E N x change step.
    later_some D E N change.0 step.0 c.in-Some.part c.base_over.result x change.1 step.1 (ap (λ (S : Step). S.schema) (sym step.2) ∙ c.in-Some.is)
    (subst (λ (C : Change). IsBaseOver c.in-Some.part C c.base_over.result) change.2 c.base_over.ensures)
