use Rattle.std.proofs.Common.{◌≡◌, ◌∙◌, ◌+◌, ◌≤◌, arith, ap, length}
use Rattle.std.proofs.Math.Nat.{min-eq_left}
use Rattle.st_chunks.proofs.Found.{length-full}
use Rattle.st_forest.proofs.row_step.turn.Goals as goal

pub returns-in-Ok-clause-there : goal.returns-in-Ok-clause-there
returns-in-Ok-clause-there c = λ inside.
    let same : length c.flip.new.self ≡ length c.args.row.now = ap length c.in-Ok.ensures.ok ∙ length-full c.args.row.now c.args.place c.args.full in
    let few : c.args.place + 1 ≤ length c.flip.new.self = omega arith in
    (c.in-Ok.ensures.ok, c.past.ensures ∙ min-eq_left few)

pub past-requires : goal.past-requires
past-requires c =
    let same : length c.flip.new.self ≡ length c.args.row.now = ap length c.in-Ok.ensures.ok ∙ length-full c.args.row.now c.args.place c.args.full in
    omega arith
