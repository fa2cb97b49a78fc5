use Rattle.st_marks.specs.Back.{retreat}
use Rattle.st_marks.proofs.Retreat.{retreat_extends}
use Rattle.st_steps.specs.WayBack.{named_back_of}
use Rattle.st_steps.proofs.way_back.invert.Goals as goal

pub returns-clause-exact : goal.returns-clause-exact
returns-clause-exact c = λ D E x s. c.trim_step.ensures.exact E (retreat D E) (named_back_of D E s.mentioned) (retreat_extends D E x) (c.in_ok-listing.ensures.exact D E x s)

pub returns-clause-shown : goal.returns-clause-shown
returns-clause-shown c = λ D E x s.
    let l = c.in_ok-listing.ensures.shown D E x s in
    c.trim_step.ensures.shown E (retreat D E) (named_back_of D E s.1.mentioned) l.0 (retreat_extends D E x) l.1 l.2
