use Rattle.st_carry.proofs.ThinValues.{change_as_short, change_thin}
use Rattle.st_carry.proofs.thin.change_thinned.Goals as goal

pub returns : goal.returns
returns c = λ D N short x. change_thin D N c.args.change _ (c.in_ok-thin_change.ensures (change_as_short c.args.change x.0 x.2 (c.changes_have_short_rows.ensures D N x.0 short x.1))) x
