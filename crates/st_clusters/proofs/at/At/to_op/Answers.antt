use Rattle.st_clusters.proofs.Ops.{op_back, op_ok}
use Rattle.st_clusters.proofs.at.At.to_op.Goals as goal

pub returns-clause-back : goal.returns-clause-back
returns-clause-back c =
    let ids = c.args.self.now.ids.now in
    op_back ids.clusters.items c.args.self.now.later.now c.args.self.now.own c.args.self.now.have c.args.rev c.op_before.result ids.sound.apart (λ i h. (ids.sound.owned i h).0) (rw c.as_slice.ensures at c.op_before.ensures)

pub returns-clause-ok : goal.returns-clause-ok
returns-clause-ok c = op_ok _ _ c.op_before.result (rw c.as_slice.ensures at c.op_before.ensures)
