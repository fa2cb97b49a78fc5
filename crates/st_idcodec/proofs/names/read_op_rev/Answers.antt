use Rattle.std.proofs.Common.{rules}
use Rattle.std.proofs.lemmas.Int.{to_z-of_z}
use Rattle.std.specs.Int.{w64}
use Rattle.st_idcodec.proofs.Refusing.{no_rev}
use Rattle.st_idcodec.proofs.names.read_op_rev.Goals as goal

pub returns-in-Ok-clause-unknown : goal.returns-in-Ok-clause-unknown
returns-in-Ok-clause-unknown c =
    let at = c.args.at.now in
    let same = to_z-of_z w64 c.in-Ok.id (search rules) in
    no_rev c.id_of.result at.ids.now.clusters.items at.later.now at.own at.have _ c.in-Ok.id _ c.in-Ok.ensures (simp same at c.id_of.ensures.unknown)
