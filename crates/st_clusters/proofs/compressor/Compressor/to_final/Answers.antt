use Rattle.st_clusters.proofs.Ops.{final_back}
use Rattle.st_clusters.proofs.compressor.Compressor.to_final.Goals as goal

pub returns-clause-back : goal.returns-clause-back
returns-clause-back c =
    rw c.ok_or.ensures.value (final_back c.args.self.now.clusters.items c.args.rev c.final_before.result _ c.args.self.now.sound.apart (λ i h. (c.args.self.now.sound.owned i h).0) c.final_before.ensures.value)
