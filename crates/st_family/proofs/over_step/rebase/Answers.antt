use Rattle.st_marks.specs.Agree.{RebaseClash}
use Rattle.st_marks.specs.Embedding.{IsEmbedding}
use Rattle.st_marks.specs.declared.changes.Change.{Change}
use Rattle.st_agree.specs.declared.agreement.FieldApart.{FieldApart}
use Rattle.st_family.proofs.Refusals.{least_same, refused_none, refused_same}
use Rattle.st_family.proofs.over_step.rebase.Goals as goal

pub returns-in-Err-clause-rebased : goal.returns-in-Err-clause-rebased
returns-in-Err-clause-rebased c = λ D E N x f g change step. refused_none (Unit {0}) Change FieldApart (IsEmbedding E N) c.in-Err.why (c.in-Err.ensures.over D E N x f g change step)

pub returns-in-Err-clause-named : goal.returns-in-Err-clause-named
returns-in-Err-clause-named c = refused_same (Unit {0}) Change FieldApart (λ a. RebaseClash c.args.change.now c.args.step.now a.field) c.in-Err.why c.in-Err.ensures.named

pub returns-in-Err-clause-apart : goal.returns-in-Err-clause-apart
returns-in-Err-clause-apart c = λ change step. least_same (Unit {0}) Change (RebaseClash c.args.change.now c.args.step.now) c.in-Err.why (c.in-Err.ensures.apart change step)
