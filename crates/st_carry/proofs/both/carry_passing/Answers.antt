use Rattle.std.proofs.Common.{false, Result, Ok, Err, subst, sym}
use Rattle.std.specs.Prelude.{OnOk}
use Rattle.st_marks.specs.Verdict.{carried_document}
use Rattle.st_push.proofs.ExtensionsBeside.{extends_beside}
use Rattle.st_read_laws.specs.Reading.{IsRead, IsStepRead}
use Rattle.st_passing_laws.proofs.ChangesLeft.{raised_after}
use Rattle.st_passing_laws.proofs.MentionedLeft.{read_leaves_mentioned, read_schemas_stay}
use Rattle.st_passing_laws.proofs.VerdictsLeft.{verdict_stays}
use Rattle.st_passing_laws.proofs.StepsRaised.{raised_between}
use Rattle.st_carry.proofs.CountsRise.{can_rise}
use Rattle.st_carry.proofs.both.carry_passing.Goals as goal

both_on_ok : {A E P Q R : Type 0} (r : Result A E) → OnOk r P → OnOk r Q → (P → Q → R) → OnOk r R
both_on_ok (Ok a) p q f = f p q
both_on_ok (Err e) p q f = tt

pub returns : goal.returns
returns c = both_on_ok c.raise_both.result c.raise_both.ensures.change c.raise_both.ensures.step (λ changed stepped D E N v x f h short short_later before change step.
    let C = c.args.change.now in
    let S = c.args.step.now in
    let p = c.requires.passes in
    let rises = can_rise D E N C S change step in
    let judged = verdict_stays D E N x f h (read_leaves_mentioned D E N C S x change step p) (read_schemas_stay D E C S step p) v before in (
      judged,
      subst (IsRead false E N) (sym (changed rises)) (raised_after D E N C S x f h change step p),
      extends_beside D E N change.0 step.0 v v x f h short short_later before judged change.1 step.1,
      subst (IsStepRead false (carried_document v D N) (carried_document v E N)) (sym (stepped rises)) (raised_between D E N C S v x f h change step p),
    ))
