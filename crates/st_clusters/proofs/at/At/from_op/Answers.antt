use Rattle.std.proofs.lemmas.Int.{to_z-of_z}
use Rattle.std.specs.Int.{w64}
use Rattle.st_clusters.proofs.Ops.{id_back, op_ok}
use Rattle.st_clusters.proofs.at.At.from_op.Goals as goal

pub returns-clause-ok : goal.returns-clause-ok
returns-clause-ok c =
    let same = to_z-of_z w64 c.args.id c.ranges.id in
    op_ok _ _ c.id_before_op.result (simp (same, c.as_slice.ensures) at c.id_before_op.ensures)

pub returns-clause-back : goal.returns-clause-back
returns-clause-back c =
    let ids = c.args.self.now.ids.now in
    let same = to_z-of_z w64 c.args.id c.ranges.id in
    id_back ids.clusters.items c.args.self.now.later.now c.args.self.now.own c.args.self.now.have c.args.id c.id_before_op.result ids.sound.apart (simp (same, c.as_slice.ensures) at c.id_before_op.ensures)
