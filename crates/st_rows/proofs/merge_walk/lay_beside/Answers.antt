use Rattle.std.proofs.Common.{arith}
use Rattle.st_marks.specs.Row.{spread}
use Rattle.st_rows.proofs.WalkLengths.{beside_length}
use Rattle.st_rows.proofs.merge_walk.lay_beside.Goals as goal

pub lay-requires-clause-room : goal.lay-requires-clause-room
lay-requires-clause-room g c =
    let a = beside_length (spread c.args.first.now) (spread c.args.then.now) in
    omega (arith, a, c.requires)
