use Rattle.st_seats.proofs.SeatsGoOn.{committed}
use Rattle.st_seats.proofs.seating.commit_at.Goals as goal

pub returns : goal.returns
returns g c = λ O A T log known ids N w window low up within seat coming.
    committed g.R.Carrier.listed O log c.args.session c.args.reference ids N A T c.raise.new.self c.take_commit.new.self c.args.change.now c.take_commit.new.change c.in_ok-take_commit.field-0 c.in_ok-effected.effected
    within (c.in_ok-raise.ensures O log known w window low up within seat) coming c.in_ok-take_commit.ensures.reference c.in_ok-take_commit.ensures.taken c.in_ok-effected.ensures
