use Rattle.std.proofs.Common.{subst, sym}
use Rattle.st_lemmas.proofs.Bools.{true-false}
use Rattle.st_marks.proofs.OneVerdict.{one_verdict}
use Rattle.st_marks.specs.Step.{IsStep}
use Rattle.st_marks.specs.Verdict.{carried_document}
use Rattle.st_marks.specs.declared.verdicts.Verdict.{Verdict}
use Rattle.st_laws.proofs.calls.done_by.Goals as goal

pub returns-in_ok-step : goal.returns-in_ok-step
returns-in_ok-step c = λ D N v x f short emb is.
    let r = c.in_ok-done.ensures.exact D N x f short emb in
    subst (IsStep D (carried_document v D N)) (sym c.in_ok-step.ensures)
    (subst (λ (w : Verdict). IsStep D (carried_document w D N) c.in_ok-done.done.step) (one_verdict D N c.in_ok-done.done.verdict v r.0 is) r.1)

pub returns-else-has_short_rows : goal.returns-else-has_short_rows
returns-else-has_short_rows c = λ D N v x f short emb is. absurd (true-false (c.has_short_rows.ensures.1 (c.changes_have_short_rows.ensures D N c.args.change.now short emb)) c.if-has_short_rows.false)
