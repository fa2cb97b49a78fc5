use Rattle.st_carry.proofs.ShortBefore.{not_short}
use Rattle.st_carry.proofs.ThinValues.{change_as_short}
use Rattle.st_carry.proofs.calls.join_short.Goals as goal

pub returns-then-not-has_short_rows-clause-exact : goal.returns-then-not-has_short_rows-clause-exact
returns-then-not-has_short_rows-clause-exact c = λ D N M J x p j alone short long d e. not_short _ c.if-not-has_short_rows.true c.has_short_rows.ensures (c.changes_have_short_rows.ensures _ M c.args.then.now long e)

pub returns-then-not-has_short_rows-clause-shown : goal.returns-then-not-has_short_rows-clause-shown
returns-then-not-has_short_rows-clause-shown c = λ D N M J x p j alone short long d e. not_short _ c.if-not-has_short_rows.true c.has_short_rows.ensures (change_as_short c.args.then.now e.0 e.2 (c.changes_have_short_rows.ensures _ M e.0 long e.1))

pub returns-clause-exact : goal.returns-clause-exact
returns-clause-exact c = λ D N M J x p j alone short long d e. c.join_agreed.ensures.exact D N M J x p alone j short long d e

pub returns-clause-shown : goal.returns-clause-shown
returns-clause-shown c = λ D N M J x p j alone short long d e. c.join_agreed.ensures.shown D N M J x p alone j short long d e
