use Rattle.std.proofs.Common.{refl}
use Rattle.st_marks.specs.Row.{spread}
use Rattle.st_rows.specs.Reading.{cell_of}
use Rattle.st_rows.specs.Heads.{marks_left}
use Rattle.st_rows.proofs.Pairs.{made_single, then_in_turn}
use Rattle.st_rows.proofs.pieces.turn_in_turn_alike.Goals as goal

pub returns-in-Some : goal.returns-in-Some
returns-in-Some c =
    let head = rw c.in-Some.is at c.make_of.ensures in
    let y = rw head at c.next.ensures in
    let z = then_in_turn (cell_of c.in-Some.made.now) (marks_left c.args.x_count c.args.xs.now) (marks_left c.args.y_count c.args.ys.now) (spread c.next.result.1.now) y.1 y.2 in
    (made_single c.in-Some.made.now y.2, z.0, refl, z.2, z.3)
