use Rattle.std.proofs.Common.{take}
use Rattle.st_lists.specs.Log.{commits_in}
use Rattle.st_replay.proofs.DocsKept.{leads_alike}
use Rattle.st_replay.proofs.authors.Authors.join.Goals as goal

pub returns : goal.returns
returns c = λ O log are within leads.
    c.in_ok-keep_author.ensures.are O log are
    (c.start.ensures.is O log c.args.session within (leads_alike O (commits_in (take c.args.at log)) c.args.doc.now c.in_ok-base.base c.in_ok-base.ensures leads))
