use Rattle.std.proofs.Common.{arith, rules}
use Rattle.std.specs.Prelude.{nat_le}
use Rattle.std.proofs.lemmas.List.Sorted.{IsPartitionPoint-from_clause, IsPartitionedBy-leb}
use Rattle.st_clusters.specs.declared.ids.Cluster.{Cluster}
use Rattle.st_clusters.proofs.Finding.{numbers_in_turn, found_number, found_no_number}
use Rattle.st_clusters.proofs.look.place_of_number.Goals as goal

pub returns-then-count-eq0 : goal.returns-then-count-eq0
returns-then-count-eq0 c =
    let cs = c.args.clusters.now in
    let n = c.args.number in
    let point = IsPartitionPoint-from_clause (λ (y : Cluster). nat_le y.first_final n) cs c.partition_point-count.result c.partition_point-count.ensures.partitioned
    (IsPartitionedBy-leb (λ (y : Cluster). y.first_final) cs n (numbers_in_turn cs c.requires.apart)) (λ a b q k. search rules) in
    found_no_number n cs c.partition_point-count.result point c.if-count-eq0.true

pub returns : goal.returns
returns c =
    let cs = c.args.clusters.now in
    let n = c.args.number in
    let point = IsPartitionPoint-from_clause (λ (y : Cluster). nat_le y.first_final n) cs c.partition_point-count.result c.partition_point-count.ensures.partitioned
    (IsPartitionedBy-leb (λ (y : Cluster). y.first_final) cs n (numbers_in_turn cs c.requires.apart)) (λ a b q k. search rules) in
    found_number n cs c.partition_point-count.result c.requires.apart point (omega arith) c.partition_point-count.ensures.bound
