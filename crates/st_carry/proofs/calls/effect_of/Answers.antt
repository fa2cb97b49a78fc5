use Rattle.st_carry.proofs.ShortBefore.{not_short}
use Rattle.st_carry.proofs.ThinValues.{change_as_short}
use Rattle.st_carry.proofs.calls.effect_of.Goals as goal

pub returns-then-not-has_short_rows-clause-exact : goal.returns-then-not-has_short_rows-clause-exact
returns-then-not-has_short_rows-clause-exact c = λ D N s f short e. not_short _ c.if-not-has_short_rows.true c.has_short_rows.ensures (c.changes_have_short_rows.ensures D N c.args.change.now short e)

pub returns-then-not-has_short_rows-clause-shown : goal.returns-then-not-has_short_rows-clause-shown
returns-then-not-has_short_rows-clause-shown c = λ D N s f short e. not_short _ c.if-not-has_short_rows.true c.has_short_rows.ensures (change_as_short c.args.change.now e.0 e.2 (c.changes_have_short_rows.ensures D N e.0 short e.1))
