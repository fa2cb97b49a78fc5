use Rattle.std.proofs.Common.{rules}
use Rattle.std.specs.Prelude.{nat_le}
use Rattle.std.proofs.lemmas.List.Sorted.{IsPartitionPoint-from_clause, IsPartitionedBy-leb}
use Rattle.st_window.specs.declared.kept.Kept.{Kept}
use Rattle.st_window.proofs.Numbers.{rest_above}
use Rattle.st_window.proofs.kept.count_up_to.Goals as goal

pub returns-clause-rest : goal.returns-clause-rest
returns-clause-rest c =
    let ks = c.args.all.now in
    let n = c.args.n in
    let point = IsPartitionPoint-from_clause (λ (k : Kept). nat_le k.n n) ks c.partition_point.result c.partition_point.ensures.partitioned
    (IsPartitionedBy-leb (λ (k : Kept). k.n) ks n c.requires) (λ a b q k. search rules) in
    rest_above n ks c.partition_point.result point
