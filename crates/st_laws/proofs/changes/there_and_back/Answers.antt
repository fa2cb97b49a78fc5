use Rattle.st_agree.specs.declared.agreement.FieldApart.{FieldApart}
use Rattle.st_laws.proofs.Refusals.{least_of_whole, least_same, memory_on, ok_of_whole}
use Rattle.st_laws.specs.Unmade.{MakesNoneIn}
use Rattle.st_laws.specs.declared.sides.ChangeSides.{ChangeSides}
use Rattle.st_laws.specs.inside.Together.{StandTogether}
use Rattle.st_marks.specs.Agree.{RebaseClash}
use Rattle.st_marks.specs.Back.{retreat}
use Rattle.st_marks.specs.Embedding.{IsEmbedding}
use Rattle.st_marks.specs.declared.changes.Change.{Change}
use Rattle.std.proofs.Common.{◌≡◌}
use Rattle.st_laws.proofs.changes.there_and_back.Goals as goal

pub returns-in-Ok-clause-sides : goal.returns-in-Ok-clause-sides
returns-in-Ok-clause-sides c = λ D E N x f g short emb s. c.beside_makings.ensures D E N x f g short emb s (c.in-Ok.ensures.later D E N x f g short emb s)

pub returns-in-Ok-clause-apart : goal.returns-in-Ok-clause-apart
returns-in-Ok-clause-apart c = λ room w v.
    let agrees = c.in-Ok.ensures.apart room w v in
    let n : StandTogether c.args.change.now c.args.step.now = c.stand_together.ensures c.args.change.now c.args.step.now room w v agrees in
    least_of_whole ChangeSides (λ t. IsEmbedding (retreat n.earlier n.later) n.intent t.left × (t.left ≡ t.right) × (MakesNoneIn c.args.step.now c.args.change.now → t.left ≡ c.args.change.now))
    (RebaseClash c.args.change.now c.args.step.now) c.beside_makings.result agrees
    (c.beside_makings.ensures n.earlier n.later n.intent n.extends n.fits n.fits_later n.short_later n.change n.step
    (c.in-Ok.ensures.later n.earlier n.later n.intent n.extends n.fits n.fits_later n.short_later n.change n.step))

pub returns-in-Ok-clause-equal : goal.returns-in-Ok-clause-equal
returns-in-Ok-clause-equal c = λ room w v.
    let agrees = c.in-Ok.ensures.apart room w v in
    let n : StandTogether c.args.change.now c.args.step.now = c.stand_together.ensures c.args.change.now c.args.step.now room w v agrees in
    ok_of_whole ChangeSides FieldApart (λ t. IsEmbedding (retreat n.earlier n.later) n.intent t.left × (t.left ≡ t.right) × (MakesNoneIn c.args.step.now c.args.change.now → t.left ≡ c.args.change.now))
    (λ t. (t.left ≡ t.right) × (MakesNoneIn c.args.step.now c.args.change.now → t.left ≡ c.args.change.now)) c.beside_makings.result (λ t h. (h.1, h.2))
    (c.beside_makings.ensures n.earlier n.later n.intent n.extends n.fits n.fits_later n.short_later n.change n.step
    (c.in-Ok.ensures.later n.earlier n.later n.intent n.extends n.fits n.fits_later n.short_later n.change n.step))

pub returns-in-Err-clause-sides : goal.returns-in-Err-clause-sides
returns-in-Err-clause-sides c = λ D E N x f g short emb s. memory_on Change ChangeSides FieldApart (IsEmbedding (retreat D E) N) (λ t. IsEmbedding (retreat D E) N t.left × (t.left ≡ t.right) × (MakesNoneIn c.args.step.now c.args.change.now → t.left ≡ c.args.change.now)) c.in-Err.why (c.in-Err.ensures.later D E N x f g short emb s)

pub returns-in-Err-clause-apart : goal.returns-in-Err-clause-apart
returns-in-Err-clause-apart c = λ room w v. least_same Change ChangeSides (RebaseClash c.args.change.now c.args.step.now) c.in-Err.why (c.in-Err.ensures.apart room w v)
