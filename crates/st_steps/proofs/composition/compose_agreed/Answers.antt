use Rattle.st_marks.proofs.Turns.{extends_on}
use Rattle.st_steps.specs.Turned.{named_in_turn}
use Rattle.st_steps.proofs.composition.compose_agreed.Goals as goal

pub returns-clause-exact : goal.returns-clause-exact
returns-clause-exact c = λ D E F x y s t. c.trim_step.ensures.exact D F (named_in_turn D s.mentioned t.mentioned) (extends_on D E F x y) (c.in_ok-listing.ensures.exact D E F x y s t)

pub returns-clause-shown : goal.returns-clause-shown
returns-clause-shown c = λ D E F x y s t.
    let l = c.in_ok-listing.ensures.shown D E F x y s t in
    c.trim_step.ensures.shown D F (named_in_turn D s.1.mentioned t.1.mentioned) l.0 (extends_on D E F x y) l.1 l.2
