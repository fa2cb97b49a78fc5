use Rattle.std.proofs.Common.{refl}
use Rattle.std.proofs.lemmas.Int.{to_z-of_z}
use Rattle.std.specs.Int.{w64}
use Rattle.st_idcodec.proofs.Refusing.{not_answered}
use Rattle.st_idcodec.proofs.names.id_of.Goals as goal

pub returns-in-Err-clause-unknown : goal.returns-in-Err-clause-unknown
returns-in-Err-clause-unknown c =
    let same = to_z-of_z w64 c.args.id c.ranges.id in
    let back = simp same at c.in-Err.ensures.back in
    (refl, λ r h. not_answered _ r ⊥ (back r h))
