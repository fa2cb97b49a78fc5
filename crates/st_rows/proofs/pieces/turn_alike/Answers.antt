use Rattle.std.proofs.Common.{refl}
use Rattle.st_marks.specs.Row.{spread}
use Rattle.st_rows.specs.Reading.{cell_of}
use Rattle.st_rows.specs.Heads.{marks_left}
use Rattle.st_rows.proofs.Pairs.{made_single, first_beside}
use Rattle.st_rows.proofs.pieces.turn_alike.Goals as goal

pub returns-in-Some : goal.returns-in-Some
returns-in-Some c =
    let head = rw c.in-Some.is at c.make_of.ensures in
    let x = rw head at c.next.ensures in
    let z = first_beside (cell_of c.in-Some.made.now) (marks_left c.args.x_count c.args.xs.now) (marks_left c.args.y_count c.args.ys.now) (spread c.next.result.1.now) x.1 x.2 in
    (made_single c.in-Some.made.now x.2, z.0, refl, z.2, z.3)
