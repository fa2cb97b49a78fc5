use Rattle.std.proofs.Common.{refl}
use Rattle.st_rows.specs.Heads.{marks_left}
use Rattle.st_rows.specs.Reading.{cell_of}
use Rattle.st_rows.proofs.Pairs.{alone_in_turn, behind_in_turn, both_in_turn}
use Rattle.st_rows.proofs.pieces.pair_in_turn_alike.Goals as goal

pub returns-in-None : goal.returns-in-None
returns-in-None c = λ xs ys h k.
    let x = (rw c.in-None.is at c.one.ensures) xs c.args.xs.now h in
    (alone_in_turn xs ys c.args.y c.args.ys.now x k c.requires, refl)

pub returns-in-None-one : goal.returns-in-None-one
returns-in-None-one c = λ xs ys h k.
    let y = (rw c.in-None-one.is at c.one-in-Some.ensures) ys c.args.ys.now k in
    (behind_in_turn xs ys y, refl)

pub returns-in-Some-one : goal.returns-in-Some-one
returns-in-Some-one c = λ xs ys h k.
    let x = (rw c.in-Some.is at c.one.ensures) xs c.args.xs.now h in
    let y = (rw c.in-Some-one.is at c.one-in-Some.ensures) ys c.args.ys.now k in
    let z = both_in_turn (cell_of c.in-Some.a.now) (cell_of c.in-Some-one.b.now) xs ys (marks_left c.in-Some.x_count c.args.xs.now) (marks_left c.in-Some-one.y_count c.args.ys.now) x.1 y.1 (y.2 c.requires) in
    ((x.0, y.0), z.0, refl, z.1, z.2)
