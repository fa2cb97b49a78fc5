use Rattle.st_replay.proofs.KnownRevisions.{known_is}
use Rattle.st_replay.proofs.known.is_known.Goals as goal

pub returns : goal.returns
returns c = known_is c.args.log.now c.args.session c.args.reference c.args.rev c.entries_up_to-front.result.now c.entries_behind-rest.result.now c.is_among.result c.entries_up_to-front.ensures c.entries_behind-rest.ensures c.is_among.ensures
