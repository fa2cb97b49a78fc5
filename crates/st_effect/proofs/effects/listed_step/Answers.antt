use Rattle.st_effect.proofs.StepListed.{listed_by, shown_by}
use Rattle.st_effect.proofs.effects.listed_step.Goals as goal

pub returns-clause-exact : goal.returns-clause-exact
returns-clause-exact c = λ D N x f short emb h. listed_by D N c.args.change.now c.args.verdict c.is_void.result c.listing_of.result c.is_void.ensures c.listing_of.ensures.lists c.listing_of.ensures.schema x f short emb h

pub returns-clause-shown : goal.returns-clause-shown
returns-clause-shown c = λ D N x f short shown h.
    shown_by D N c.args.change.now shown.0 c.args.verdict c.is_void.result c.listing_of.result shown.2 c.is_void.ensures c.listing_of.ensures.lists c.listing_of.ensures.schema x f short shown.1 h
