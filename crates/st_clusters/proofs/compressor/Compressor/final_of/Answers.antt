use Rattle.std.proofs.Common.{◌<◌, ◌+◌, ◌*◌, ◌^◌, arith}
use Rattle.st_clusters.specs.Table.{next_free}
use Rattle.st_clusters.proofs.Finalising.{numbers_fit}
use Rattle.st_clusters.proofs.Unique.{final_bound}
use Rattle.st_clusters.proofs.compressor.Compressor.final_of.Goals as goal

pub final_in-requires-clause-fits : goal.final_in-requires-clause-fits
final_in-requires-clause-fits c =
    let self = c.args.self.now in
    let low : next_free self.clusters.items + 512 * 0 < 2 ^ 63 = numbers_fit self.sessions.items self.clusters.items self.places.items 0 self.sound (omega arith) in
    rw c.as_slice.ensures.value (omega (arith, low))

pub returns-clause-value : goal.returns-clause-value
returns-clause-value c = rw c.as_slice.ensures.value at c.final_in.ensures

pub returns-clause-bound : goal.returns-clause-bound
returns-clause-bound c =
    let self = c.args.self.now in
    final_bound self.sessions.items self.clusters.items self.places.items c.args.rev c.final_in.result self.sound (rw c.as_slice.ensures.value at c.final_in.ensures)
