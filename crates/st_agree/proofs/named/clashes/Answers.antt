use Rattle.std.proofs.Common.{◌++◌, ap, ◌∙◌, subst, sym}
use Rattle.st_ids.specs.Listing.{Has}
use Rattle.st_lemmas.proofs.Bools.{true-false}
use Rattle.st_agree_laws.proofs.CellsOnce.{agree_over}
use Rattle.st_agree.proofs.RulesObeyed.{lists_rise, step_is_clear}
use Rattle.st_agree.proofs.FieldsFound.{none_has}
use Rattle.st_agree.proofs.named.clashes.Goals as goal

pub returns-then-not-lists_rise-clause-all : goal.returns-then-not-lists_rise-clause-all
returns-then-not-lists_rise-clause-all c = λ change step. absurd (true-false (c.lists_rise.ensures.1 (lists_rise c.args.change.now c.args.step.now change step)) c.if-not-lists_rise.true)

pub returns-clause-clash : goal.returns-clause-clash
returns-clause-clash c = λ f h.
    let w = c.in_ok-push_clashes.ensures in
    w.2 f (subst (λ l. Has l f) (w.1 ∙ ap (λ l. l ++ w.0) c.new-found.ensures) h)

pub returns-clause-all : goal.returns-clause-all
returns-clause-all c = λ change step f d.
    let w = c.in_ok-push_clashes.ensures in
    subst (λ l. Has l f) (sym (w.1 ∙ ap (λ l. l ++ w.0) c.new-found.ensures)) (w.3 (step_is_clear c.args.step.now step) f d)

pub returns-clause-over : goal.returns-clause-over
returns-clause-over c = λ D E N x fits later emb step. none_has c.push_clashes.new.found (λ f h. agree_over D E N c.args.change.now c.args.step.now x fits later emb step f (returns-clause-clash c f h))
