use Rattle.std.proofs.Common.{subst, sym}
use Rattle.st_agree.specs.Apart.{TellsLeast}
use Rattle.st_ids.specs.Or.{IfRefused}
use Rattle.st_laws.proofs.EmptyRules.{nothing_has_room, nothing_obeys}
use Rattle.st_laws.proofs.NothingSteps.{nothing_leads_back}
use Rattle.st_marks.specs.Agree.{RebaseClash}
use Rattle.st_marks.specs.Step.{IsStep}
use Rattle.st_marks.specs.declared.steps.Step.{Step}
use Rattle.st_moves.specs.Room.{HasRoomInRows}
use Rattle.st_normal.specs.Rules.{ObeysStepRules}
use Rattle.st_laws.proofs.changes.over_nothing.Goals as goal

pub returns-clause-stays : goal.returns-clause-stays
returns-clause-stays c = λ D N x f short emb. c.over_none.ensures.stays D N x f short emb (subst (IsStep D D) (sym c.empty_step-nothing.ensures) (nothing_leads_back D))

pub returns-clause-named : goal.returns-clause-named
returns-clause-named c = subst (λ (S : Step). IfRefused c.over_none.result (λ a. RebaseClash c.args.change.now S a.field)) c.empty_step-nothing.ensures c.over_none.ensures.named

pub returns-clause-apart : goal.returns-clause-apart
returns-clause-apart c = λ change.
    subst (λ (S : Step). TellsLeast c.over_none.result (RebaseClash c.args.change.now S)) c.empty_step-nothing.ensures
    (c.over_none.ensures.apart
    (subst (λ (S : Step). HasRoomInRows c.args.change.now S) (sym c.empty_step-nothing.ensures) (nothing_has_room c.args.change.now change))
    change
    (subst ObeysStepRules (sym c.empty_step-nothing.ensures) nothing_obeys))
