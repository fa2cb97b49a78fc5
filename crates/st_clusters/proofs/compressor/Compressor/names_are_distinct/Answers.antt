use Rattle.st_clusters.proofs.Ops.{one_op_id}
use Rattle.st_clusters.proofs.Stable.{one_stable}
use Rattle.st_clusters.proofs.Unique.{one_final}
use Rattle.st_clusters.proofs.compressor.Compressor.names_are_distinct.Goals as goal

pub returns-clause-number : goal.returns-clause-number
returns-clause-number c = λ r s n h k. one_final c.args.self.now.clusters.items r s n c.args.self.now.sound.apart h k

pub returns-clause-op : goal.returns-clause-op
returns-clause-op c = λ later own have r s z h k. one_op_id c.args.self.now.clusters.items later own have r s z c.args.self.now.sound.apart h k

pub returns-clause-stable : goal.returns-clause-stable
returns-clause-stable c = λ r s u h k.
    let self = c.args.self.now in
    one_stable self.sessions.items self.clusters.items self.places.items r s u self.sound h k
