use Rattle.std.proofs.Common.{refl}
use Rattle.st_replay.proofs.DocsKept.{without_one}
use Rattle.st_replay.proofs.authors.Authors.leave.Goals as goal

pub returns : goal.returns
returns c = λ O log are. without_one O log c.args.self.now _ c.args.session refl c.remove.ensures.updates.0 are
