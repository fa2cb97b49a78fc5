use Rattle.std.proofs.Common.{◌∙◌, ℤ, Some, ap, rules}
use Rattle.std.proofs.lemmas.Int.{to_z-of_z}
use Rattle.std.specs.Int.{w64}
use Rattle.st_mark_reader.proofs.OpNumbers.{number_found, number_not_found}
use Rattle.st_mark_reader.proofs.op_names.op_number.Goals as goal

pub returns-in-Ok : goal.returns-in-Ok
returns-in-Ok c =
    let same = to_z-of_z w64 c.in-Ok.id (search rules) in
    ap (λ (z : ℤ). Some z) same ∙ number_found c.args.at.now c.args.rev c.in-Ok.id c.in-Ok.ensures.ok c.in-Ok.ensures.back

pub returns-in-Err : goal.returns-in-Err
returns-in-Err c = number_not_found c.args.at.now c.args.rev c.in-Err.field-0 c.in-Err.ensures.back
