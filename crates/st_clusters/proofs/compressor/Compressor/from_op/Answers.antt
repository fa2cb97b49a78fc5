use Rattle.std.proofs.Common.{[]}
use Rattle.std.proofs.lemmas.Int.{to_z-of_z}
use Rattle.std.specs.Int.{w64}
use Rattle.st_clusters.proofs.Ops.{id_back}
use Rattle.st_clusters.proofs.compressor.Compressor.from_op.Goals as goal

pub returns-clause-back : goal.returns-clause-back
returns-clause-back c =
    let same = to_z-of_z w64 c.args.id c.ranges.id in
    id_back c.args.self.now.clusters.items [] c.args.own _ c.args.id c.id_before_op.result c.args.self.now.sound.apart (simp (same, c.generated_by.ensures) at c.id_before_op.ensures)
