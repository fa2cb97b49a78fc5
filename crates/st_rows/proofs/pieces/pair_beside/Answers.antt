use Rattle.std.proofs.Common.{sym, ◌∙◌}
use Rattle.st_rows.specs.Heads.{marks_left}
use Rattle.st_rows.specs.Reading.{cell_of}
use Rattle.st_rows.proofs.Pairs.{found_by_both, found_otherwise}
use Rattle.st_rows.proofs.pieces.pair_beside.Goals as goal

pub returns-then-finds_same : goal.returns-then-finds_same
returns-then-finds_same c = λ xs ys h k.
    let x = (rw c.in-Some.is at c.one.ensures) xs c.args.xs.now h in
    let y = (rw c.in-Some-one-2.is at c.one-in-Some.ensures) ys c.args.ys.now k in
    let z = found_by_both (cell_of c.in-Some.a.now) (cell_of c.in-Some-one-2.b.now) xs ys (marks_left c.in-Some.x_count c.args.xs.now) (marks_left c.in-Some-one-2.y_count c.args.ys.now) x.1 y.1 (x.2 c.requires.first) (y.2 c.requires.then) (sym c.finds_same.ensures ∙ c.if-finds_same.true) in
    ((x.0, y.0), z.0, z.1, z.2, z.3)

pub returns-else-finds_same : goal.returns-else-finds_same
returns-else-finds_same c = λ xs ys h k.
    let x = (rw c.in-Some.is at c.one.ensures) xs c.args.xs.now h in
    let y = (rw c.in-Some-one-2.is at c.one-in-Some.ensures) ys c.args.ys.now k in
    found_otherwise (cell_of c.in-Some.a.now) (cell_of c.in-Some-one-2.b.now) xs ys (marks_left c.in-Some.x_count c.args.xs.now) (marks_left c.in-Some-one-2.y_count c.args.ys.now) x.1 y.1 (x.2 c.requires.first) (y.2 c.requires.then) (sym c.finds_same.ensures ∙ c.if-finds_same.false)
