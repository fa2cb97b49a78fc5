use Rattle.std.proofs.Common.{◌∙◌}
use Rattle.st_lists.proofs.Minima.{minimum_kept}
use Rattle.st_lists.proofs.log.minimum.Goals as goal

pub returns : goal.returns
returns c =
    c.least_known.ensures
    ∙ minimum_kept c.args.log.now c.args.clients.now c.args.known.now c.requires.known c.requires.connected
