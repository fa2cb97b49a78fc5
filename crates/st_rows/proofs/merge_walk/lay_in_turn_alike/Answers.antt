use Rattle.std.proofs.Common.{arith}
use Rattle.st_marks.specs.Row.{spread}
use Rattle.st_rows.proofs.WalkLengths.{found_length, in_turn_length}
use Rattle.st_rows.proofs.merge_walk.lay_in_turn_alike.Goals as goal

pub lay-requires-clause-room : goal.lay-requires-clause-room
lay-requires-clause-room g c =
    let a = in_turn_length (spread c.args.first.now) (spread c.args.then.now) in
    omega (arith, a, c.requires)

pub lay-requires-clause-found : goal.lay-requires-clause-found
lay-requires-clause-found g c =
    let a = found_length (spread c.args.then.now) in
    omega (arith, a, c.requires)
