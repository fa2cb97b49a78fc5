use Rattle.std.proofs.Common.{rules, sym}
use Rattle.std.proofs.lemmas.Int.{to_z-of_z}
use Rattle.std.specs.Int.{w64}
use Rattle.st_idcodec.proofs.Refusing.{no_atom}
use Rattle.st_idcodec.proofs.names.read_op_atom.Goals as goal

pub returns-in-Some-clause-unknown : goal.returns-in-Some-clause-unknown
returns-in-Some-clause-unknown c =
    let at = c.args.at.now in
    let same = to_z-of_z w64 c.in-Some.id (search rules) in
    no_atom c.atom_of.result at.ids.now.clusters.items at.later.now at.own at.have _ c.in-Some.id c.in-Some.place (sym c.in-Some.ensures) (simp same at c.atom_of.ensures.unknown)
