use Rattle.std.proofs.lemmas.Int.{to_z-of_z}
use Rattle.std.specs.Int.{w64}
use Rattle.st_idcodec.proofs.names.atom_of.Goals as goal

pub returns-in-Err-clause-unknown : goal.returns-in-Err-clause-unknown
returns-in-Err-clause-unknown c = simp (to_z-of_z w64 c.args.id c.ranges.id) at c.in-Err.ensures.unknown
