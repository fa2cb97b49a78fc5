use Rattle.std.proofs.Common.{refl}
use Rattle.st_replay.proofs.DocsKept.{kept_or_new, without_one}
use Rattle.st_replay.proofs.authors.Authors.take_author.Goals as goal

pub returns-clause-is : goal.returns-clause-is
returns-clause-is c = λ O log are. kept_or_new O log c.args.self.now c.args.session _ _ c.remove-kept.ensures.value (c.in_ok-author.ensures.is log c.args.session) are

pub returns-clause-rest : goal.returns-clause-rest
returns-clause-rest c = λ O log are. without_one O log c.args.self.now _ c.args.session refl c.remove-kept.ensures.updates.0 are
