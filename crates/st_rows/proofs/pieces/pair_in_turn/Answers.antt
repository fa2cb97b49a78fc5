use Rattle.std.proofs.Common.{sym, ◌∙◌}
use Rattle.st_rows.specs.Heads.{marks_left}
use Rattle.st_rows.specs.Reading.{cell_of}
use Rattle.st_rows.proofs.Pairs.{left_and_found}
use Rattle.st_rows.proofs.pieces.pair_in_turn.Goals as goal

pub returns-then-finds_left : goal.returns-then-finds_left
returns-then-finds_left c = λ xs ys h k.
    let x = (rw c.in-Some.is at c.one.ensures) xs c.args.xs.now h in
    let y = (rw c.in-Some-one-2.is at c.one-in-Some.ensures) ys c.args.ys.now k in
    let z = left_and_found (cell_of c.in-Some.a.now) (cell_of c.in-Some-one-2.b.now) xs ys (marks_left c.in-Some.x_count c.args.xs.now) (marks_left c.in-Some-one-2.y_count c.args.ys.now) x.1 y.1 (y.2 c.requires) (sym c.finds_left.ensures ∙ c.if-finds_left.true) in
    ((x.0, y.0), z.0, z.1, z.2, z.3)
