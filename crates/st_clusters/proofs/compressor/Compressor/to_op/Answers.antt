use Rattle.std.proofs.Common.{[]}
use Rattle.st_clusters.proofs.Ops.{op_back}
use Rattle.st_clusters.proofs.compressor.Compressor.to_op.Goals as goal

pub returns-clause-back : goal.returns-clause-back
returns-clause-back c = op_back c.args.self.now.clusters.items [] c.args.own _ c.args.rev c.op_before.result c.args.self.now.sound.apart (λ i h. (c.args.self.now.sound.owned i h).0) (rw c.generated_by.ensures at c.op_before.ensures)
