use Rattle.std.proofs.Common.{refl}
use Rattle.st_rows.specs.Heads.{marks_left}
use Rattle.st_rows.specs.Reading.{cell_of}
use Rattle.st_rows.proofs.Pairs.{alone_alike, behind_alike, both_alike}
use Rattle.st_rows.proofs.pieces.pair_alike.Goals as goal

pub returns-in-None : goal.returns-in-None
returns-in-None c = λ xs ys h k.
    let x = (rw c.in-None.is at c.one.ensures) xs c.args.xs.now h in
    (alone_alike xs ys c.args.y c.args.ys.now x k c.requires.then, refl)

pub returns-in-None-one : goal.returns-in-None-one
returns-in-None-one c = λ xs ys h k.
    let x = (rw c.in-Some.is at c.one.ensures) xs c.args.xs.now h in
    let y = (rw c.in-None-one.is at c.one-in-Some.ensures) ys c.args.ys.now k in
    (behind_alike (cell_of c.in-Some.a.now) xs ys (marks_left c.in-Some.x_count c.args.xs.now) x.1 (x.2 c.requires.first) y, refl)

pub returns-in-Some-one : goal.returns-in-Some-one
returns-in-Some-one c = λ xs ys h k.
    let x = (rw c.in-Some.is at c.one.ensures) xs c.args.xs.now h in
    let y = (rw c.in-Some-one.is at c.one-in-Some.ensures) ys c.args.ys.now k in
    let z = both_alike (cell_of c.in-Some.a.now) (cell_of c.in-Some-one.b.now) xs ys (marks_left c.in-Some.x_count c.args.xs.now) (marks_left c.in-Some-one.y_count c.args.ys.now) x.1 y.1 (x.2 c.requires.first) (y.2 c.requires.then) in
    ((x.0, y.0), z.0, refl, z.1, z.2)
