use Rattle.std.proofs.Common.{sym, subst}
use Rattle.st_part_rings.specs.inside.Links.{AreLinks}
use Rattle.st_marks.specs.Agree.{MadeAt}
use Rattle.st_part_rings.proofs.LeftOnce.{made_under_one}
use Rattle.st_part_rings.proofs.RingsTold.{no_ring_told, ring_told}
use Rattle.st_part_rings.proofs.left.has_ring_of_made.Goals as goal

pub returns-clause-ring : goal.returns-clause-ring
returns-clause-ring c = ring_told (MadeAt c.args.first.now c.args.then.now) c.as_slice.result.now (subst (λ l. AreLinks l (MadeAt c.args.first.now c.args.then.now)) (sym c.as_slice.ensures) c.in_ok-links.ensures) c.in_ok-ring.ring c.in_ok-ring.ensures

pub returns-clause-none : goal.returns-clause-none
returns-clause-none c = λ one other. no_ring_told (MadeAt c.args.first.now c.args.then.now) c.as_slice.result.now (subst (λ l. AreLinks l (MadeAt c.args.first.now c.args.then.now)) (sym c.as_slice.ensures) c.in_ok-links.ensures) c.in_ok-ring.ring c.in_ok-ring.ensures (made_under_one c.args.first.now c.args.then.now one other)
