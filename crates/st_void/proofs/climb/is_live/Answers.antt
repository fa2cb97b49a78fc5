use Rattle.st_void.proofs.ThinChanges.{from_live, to_live}
use Rattle.st_void.proofs.VerdictTrue.{live_if_shown, shown_if_live}
use Rattle.st_void.proofs.climb.is_live.Goals as goal

pub returns : goal.returns
returns c D N s f shows told = (λ e. live_if_shown D N shows.0 s f shows.1 c.args.node told (to_live D N c.args.change.now s f shows c.args.node (c.is_shown_live.ensures.0 e)), λ l. c.is_shown_live.ensures.1 (from_live D N c.args.change.now s f shows c.args.node (shown_if_live D N shows.0 s f shows.1 c.args.node told l)))
