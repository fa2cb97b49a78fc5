use Rattle.std.proofs.Common.{rules}
use Rattle.std.proofs.lemmas.List.Sorted.{IsPartitionPoint-from_clause}
use Rattle.st_clusters.specs.inside.Spans.{starts_by}
use Rattle.st_clusters.proofs.InOrder.{starts_in_turn, start_by-count}
use Rattle.st_clusters.proofs.compressor.Compressor.count_before.Goals as goal

pub returns : goal.returns
returns c =
    let self = c.args.self.now in
    let point = IsPartitionPoint-from_clause (starts_by c.as_slice-sessions.result.now c.args.free) c.as_slice.result.now c.partition_point.result c.partition_point.ensures.partitioned
    (rw (c.as_slice-sessions.ensures.value, c.as_slice.ensures.value) (starts_in_turn self.sessions.items self.order.items c.args.free self.in_order)) (λ a b q k. search rules) in
    start_by-count self.sessions.items self.order.items c.args.free c.partition_point.result self.in_order (rw (c.as_slice-sessions.ensures.value, c.as_slice.ensures.value) at point) (rw c.as_slice.ensures.value at c.partition_point.ensures.bound)
