use Rattle.std.proofs.Common.{false, subst, sym}
use Rattle.st_over.proofs.Shown.{shown}
use Rattle.st_marks.specs.CarryOut.{full}
use Rattle.st_marks.specs.Document.{HasShortRows}
use Rattle.st_marks.proofs.Joined.{joined_in_turn}
use Rattle.st_carry.proofs.thin.ThinCarrierRebaser.join.Goals as goal

pub returns : goal.returns
returns c = λ D N M J x p j alone long d e. c.change_thinned.ensures D J (subst HasShortRows (sym (joined_in_turn D N M J x p j)) long) (c.in_ok-both.ensures.shown D N M J x p j alone long (shown false D N c.args.first.now d) (shown false (full D N) M c.args.then.now e))
