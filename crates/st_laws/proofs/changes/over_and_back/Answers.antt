use Rattle.st_agree.specs.declared.agreement.FieldApart.{FieldApart}
use Rattle.st_laws.proofs.Refusals.{least_of_whole, least_same, memory_on}
use Rattle.st_laws.specs.inside.Together.{StandTogether}
use Rattle.st_marks.specs.Agree.{RebaseClash}
use Rattle.st_marks.specs.Back.{retreat}
use Rattle.st_marks.specs.Embedding.{IsEmbedding}
use Rattle.st_marks.specs.declared.changes.Change.{Change}
use Rattle.st_laws.proofs.changes.over_and_back.Goals as goal

pub returns-in-Ok-clause-later : goal.returns-in-Ok-clause-later
returns-in-Ok-clause-later c = λ D E N x f g short emb s. c.over_back.ensures D E N x f g short (c.in-Ok.ensures.later D E N x f g short emb s) s

pub returns-in-Ok-clause-apart : goal.returns-in-Ok-clause-apart
returns-in-Ok-clause-apart c = λ room w v.
    let agrees = c.in-Ok.ensures.apart room w v in
    let n : StandTogether c.args.change.now c.args.step.now = c.stand_together.ensures c.args.change.now c.args.step.now room w v agrees in
    least_of_whole Change (IsEmbedding (retreat n.earlier n.later) n.intent) (RebaseClash c.args.change.now c.args.step.now) c.over_back.result agrees
    (c.over_back.ensures n.earlier n.later n.intent n.extends n.fits n.fits_later n.short_later
    (c.in-Ok.ensures.later n.earlier n.later n.intent n.extends n.fits n.fits_later n.short_later n.change n.step) n.step)

pub returns-in-Err-clause-later : goal.returns-in-Err-clause-later
returns-in-Err-clause-later c = λ D E N x f g short emb s. memory_on Change Change FieldApart (IsEmbedding E N) (IsEmbedding (retreat D E) N) c.in-Err.why (c.in-Err.ensures.later D E N x f g short emb s)

pub returns-in-Err-clause-apart : goal.returns-in-Err-clause-apart
returns-in-Err-clause-apart c = λ room w v. least_same Change Change (RebaseClash c.args.change.now c.args.step.now) c.in-Err.why (c.in-Err.ensures.apart room w v)
