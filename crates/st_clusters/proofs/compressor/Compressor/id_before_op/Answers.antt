use Rattle.std.proofs.lemmas.Int.{to_z-of_z}
use Rattle.std.specs.Int.{w64}
use Rattle.st_clusters.proofs.Ops.{id_of_number, own_is_final, not_negative, negative}
use Rattle.st_clusters.proofs.compressor.Compressor.id_before_op.Goals as goal

pub returns-then-id-ge0 : goal.returns-then-id-ge0
returns-then-id-ge0 c =
    let same = to_z-of_z w64 c.args.id c.ranges.id in
    let value = not_negative c.args.id (rw same at c.if-id-ge0.true) in
    rw c.ok_or.ensures.value (id_of_number c.args.self.now.clusters.items c.args.later.now c.args.own c.args.have c.args.id _ c.id_before.result _ (rw same value) c.id_before.ensures)

pub returns-in-Some : goal.returns-in-Some
returns-in-Some c =
    let same = to_z-of_z w64 c.args.id c.ranges.id in
    let signs = negative c.args.id c.unsigned_abs-num.result (rw same at c.if-id-ge0.false) (rw same at c.unsigned_abs-num.ensures.value) in
    own_is_final c.args.self.now.clusters.items c.args.later.now c.args.own c.args.have c.unsigned_abs-num.result c.in-Some.field-0 c.args.id c.in-Some.ensures.value signs.0 signs.1
