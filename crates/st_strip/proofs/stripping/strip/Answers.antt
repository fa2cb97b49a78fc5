use Rattle.st_strip.specs.Rest.{named_rest}
use Rattle.st_strip.proofs.stripping.strip.Goals as goal

pub returns-clause-exact : goal.returns-clause-exact
returns-clause-exact c = λ D E F x y s t. c.trim_step.ensures.exact E F (named_rest D F s.mentioned t.mentioned) y (c.in_ok-listing.ensures.exact D E F x y s t)

pub returns-clause-shown : goal.returns-clause-shown
returns-clause-shown c = λ D E F x y s t.
    let g = c.in_ok-listing.ensures.shown D E F s.0 t.0 x y s.1 t.1 s.2 t.2 in
    c.trim_step.ensures.shown E F (named_rest D F s.1.mentioned t.1.mentioned) g.0 y g.1 g.2
