use Rattle.std.proofs.lemmas.Int.{to_z-of_z}
use Rattle.std.specs.Int.{w64}
use Rattle.st_mark_reader.proofs.OpNumbers.{id_found, id_not_found}
use Rattle.st_mark_reader.proofs.op_names.op_id.Goals as goal

pub returns-in-Ok : goal.returns-in-Ok
returns-in-Ok c =
    let same = to_z-of_z w64 c.args.id c.ranges.id in
    id_found c.args.at.now c.args.id c.in-Ok.rev (simp same at c.in-Ok.ensures.ok) (simp same at c.in-Ok.ensures.back)

pub returns-in-Err : goal.returns-in-Err
returns-in-Err c =
    let same = to_z-of_z w64 c.args.id c.ranges.id in
    id_not_found c.args.at.now c.args.id c.in-Err.field-0 (simp same at c.in-Err.ensures.back)
