use Rattle.st_laws.specs.inside.Together.{StandTogether}
use Rattle.st_laws.proofs.values.later_changes_obey.Goals as goal

pub returns : goal.returns
returns c = λ C K S room v w g over.
    let n : StandTogether C S = c.stand_together.ensures C S room v w g in
    c.embeddings_obey_rules.ensures.rules n.later n.intent K n.extends.after n.fits_later n.short_later (over n.earlier n.later n.intent n.extends n.fits n.fits_later n.change n.step)
