use Rattle.std.proofs.Common.{◌≤◌, sym, subst, arith, length, rules}
use Rattle.std.specs.List.Sorted.{IsPartitionedBy}
use Rattle.std.proofs.lemmas.List.Sorted.{IsPartitionPoint-from_clause}
use Rattle.st_clusters.specs.Table.{places_of}
use Rattle.st_clusters.specs.inside.Kept.{begins_by}
use Rattle.st_clusters.proofs.Finding.{begin_in_turn, found_id, found_no_id}
use Rattle.st_clusters.proofs.look.place_of_id.Goals as goal

pub returns-then-count-eq0 : goal.returns-then-count-eq0
returns-then-count-eq0 c =
    let cs = c.args.clusters.now in
    let r = c.args.rev in
    let point = IsPartitionPoint-from_clause (begins_by cs r.num) c.args.places.now c.partition_point-count.result c.partition_point-count.ensures.partitioned
    (subst (IsPartitionedBy (begins_by cs r.num)) (sym c.requires.places) (begin_in_turn r.session r.num cs c.requires.apart)) (λ a b q k. search rules) in
    found_no_id r cs c.partition_point-count.result (rw c.requires.places at point) c.if-count-eq0.true

pub returns : goal.returns
returns c =
    let cs = c.args.clusters.now in
    let r = c.args.rev in
    let point = IsPartitionPoint-from_clause (begins_by cs r.num) c.args.places.now c.partition_point-count.result c.partition_point-count.ensures.partitioned
    (subst (IsPartitionedBy (begins_by cs r.num)) (sym c.requires.places) (begin_in_turn r.session r.num cs c.requires.apart)) (λ a b q k. search rules) in
    let bound : c.partition_point-count.result ≤ length (places_of r.session cs) = rw c.requires.places at c.partition_point-count.ensures.bound in
    rw c.requires.places (found_id r cs c.partition_point-count.result c.requires.apart (rw c.requires.places at point) (omega arith) bound)
