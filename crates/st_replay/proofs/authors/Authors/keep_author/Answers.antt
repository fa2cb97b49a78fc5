use Rattle.std.proofs.Common.{refl}
use Rattle.st_replay.proofs.DocsKept.{with_one}
use Rattle.st_replay.proofs.authors.Authors.keep_author.Goals as goal

pub returns-clause-are : goal.returns-clause-are
returns-clause-are c = λ O log are is. with_one O log c.args.self.now _ c.args.session c.args.author refl c.in_ok-insert.ensures.updates.0 are is
