use Rattle.st_carry.proofs.ShortBefore.{not_short, short_before}
use Rattle.st_marks.specs.CarryOut.{full}
use Rattle.st_carry.proofs.ThinValues.{change_as_short}
use Rattle.st_carry.proofs.calls.join_of.Goals as goal

pub returns-then-not-has_short_rows-clause-exact : goal.returns-then-not-has_short_rows-clause-exact
returns-then-not-has_short_rows-clause-exact c = λ D N M J x p j alone long d e. not_short _ c.if-not-has_short_rows.true c.has_short_rows.ensures (c.changes_have_short_rows.ensures D N c.args.first.now (short_before (full D N) M long) d)

pub returns-then-not-has_short_rows-clause-shown : goal.returns-then-not-has_short_rows-clause-shown
returns-then-not-has_short_rows-clause-shown c = λ D N M J x p j alone long d e. not_short _ c.if-not-has_short_rows.true c.has_short_rows.ensures (change_as_short c.args.first.now d.0 d.2 (c.changes_have_short_rows.ensures D N d.0 (short_before (full D N) M long) d.1))

pub returns-clause-exact : goal.returns-clause-exact
returns-clause-exact c = λ D N M J x p j alone long d e. c.join_short.ensures.exact D N M J x p j alone (short_before (full D N) M long) long d e

pub returns-clause-shown : goal.returns-clause-shown
returns-clause-shown c = λ D N M J x p j alone long d e. c.join_short.ensures.shown D N M J x p j alone (short_before (full D N) M long) long d e
