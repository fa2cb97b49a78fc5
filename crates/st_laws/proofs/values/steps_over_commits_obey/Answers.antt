use Rattle.st_laws.specs.inside.Together.{StandTogether}
use Rattle.st_marks.specs.Verdict.{carried_document}
use Rattle.st_laws.proofs.values.steps_over_commits_obey.Goals as goal

pub returns : goal.returns
returns c = λ C S T room v w g over.
    let n : StandTogether C S = c.stand_together.ensures C S room v w g in
    c.normal_steps_obey.ensures T (
      carried_document n.before n.earlier n.intent,
      carried_document n.after n.later n.intent,
      c.extends_beside.ensures n.earlier n.later n.intent C S n.before n.after n.extends n.fits n.fits_later n.short n.short_later n.verdict n.verdict_later n.change n.step,
      over n.earlier n.later n.intent n.before n.after n.extends n.fits n.fits_later n.short n.short_later n.change n.step n.verdict n.verdict_later,
    )
