use Rattle.std.proofs.Common.{subst, sym}
use Rattle.st_agree.specs.declared.agreement.FieldApart.{FieldApart}
use Rattle.st_join.proofs.JoinFits.{joins_fit}
use Rattle.st_laws.proofs.PartsLater.{parts_later}
use Rattle.st_laws.proofs.Refusals.{first_agreed, first_refused, memory_on}
use Rattle.st_marks.proofs.Joined.{joined_in_turn}
use Rattle.st_marks.specs.Document.{HasShortRows}
use Rattle.st_marks.specs.Embedding.{IsEmbedding}
use Rattle.st_marks.specs.declared.changes.Change.{Change}
use Rattle.st_marks.specs.Agree.{JoinClash}
use Rattle.st_laws.proofs.Behind.{behind_it, refused_before}
use Rattle.st_laws.specs.InOrder.{Joined, Rebased}
use Rattle.st_laws.proofs.parts.whole_over.Goals as goal

pub returns-in-Ok-clause-later : goal.returns-in-Ok-clause-later
returns-in-Ok-clause-later c = λ D E N M J w no-ring.
    let later = parts_later D E N M J c.args.first.now c.args.then.now c.args.step.now w in
    c.over.ensures.later D E J w.extends (joins_fit D N M J w.extends.before w.parts w.join) (joins_fit E N M J w.extends.after later w.join)
    (subst HasShortRows (sym (joined_in_turn E N M J w.extends.after later w.join)) w.both_short_later)
    (c.in-Ok.ensures.later D N M J w.extends.before w.parts no-ring w.join w.first_short w.both_short w.first w.next) w.step

pub returns-in-Err-clause-later : goal.returns-in-Err-clause-later
returns-in-Err-clause-later c = λ D E N M J w no-ring. memory_on Change Change FieldApart (IsEmbedding D J) (IsEmbedding E J) c.in-Err.why
    (c.in-Err.ensures.later D N M J w.extends.before w.parts no-ring w.join w.first_short w.both_short w.first w.next)

pub returns-in-Ok-clause-first : goal.returns-in-Ok-clause-first
returns-in-Ok-clause-first c = λ v w. first_agreed Change (JoinClash c.args.first.now c.args.then.now) c.over.result (c.in-Ok.ensures.apart v w)

pub returns-in-Err-clause-first : goal.returns-in-Err-clause-first
returns-in-Err-clause-first c = λ v w. first_refused Change Change (JoinClash c.args.first.now c.args.then.now) c.in-Err.why (c.in-Err.ensures.apart v w)

pub returns-in-Ok-clause-told : goal.returns-in-Ok-clause-told
returns-in-Ok-clause-told c = λ v w s. let h = c.in-Ok.ensures.told v w in
    behind_it Change Change (Joined c.args.first.now c.args.then.now) (λ whole. Rebased whole c.args.step.now) c.in-Ok.whole c.over.result h (c.over.ensures.told h.obeys s)

pub returns-in-Err-clause-told : goal.returns-in-Err-clause-told
returns-in-Err-clause-told c = λ v w s. refused_before Change Change (Joined c.args.first.now c.args.then.now) (λ whole. Rebased whole c.args.step.now) c.in-Err.why (c.in-Err.ensures.told v w)
