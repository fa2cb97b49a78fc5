use Rattle.std.proofs.Common.{arith}
use Rattle.st_clusters.specs.Names.{IsOwn}
use Rattle.st_clusters.proofs.Ops.{no_op}
use Rattle.st_clusters.proofs.compressor.Compressor.op_before.Goals as goal

pub returns-else-rev-own : goal.returns-else-rev-own
returns-else-rev-own c =
    no_op c.args.self.now.clusters.items c.args.later.now c.args.own c.args.have c.args.rev c.in_default.ensures.value
    (λ (h : IsOwn c.args.own c.args.have c.args.rev). grind (arith, c.else-rev-own.either, h.0, h.1, h.2))
