use Rattle.std.proofs.Common.{sym}
use Rattle.st_clusters.proofs.Unique.{final_before, not_opening}
use Rattle.st_clusters.proofs.compressor.Compressor.final_before.Goals as goal

pub returns-clause-value : goal.returns-clause-value
returns-clause-value c =
    final_before c.args.self.now.clusters.items c.args.later.now c.args.rev c.final_of.result (not_opening c.args.rev c.else-rev-eq0.either) (sym c.if-is_later.ensures) c.final_of.ensures.value
