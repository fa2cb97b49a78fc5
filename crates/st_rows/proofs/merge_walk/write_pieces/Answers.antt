use Rattle.std.proofs.Common.{◌+◌, ◌<◌, ◌^◌, ◌∷◌, [], arith, rules}
use Rattle.st_marks.specs.Row.{spread}
use Rattle.st_rows.specs.Reading.{cell_of}
use Rattle.st_rows.specs.Heads.{marks_left}
use Rattle.st_rows.specs.Pieces.{both_counted}
use Rattle.st_rows.specs.Walks.{Both, First, Then}
use Rattle.st_rows.proofs.WalkLengths.{room_left}
use Rattle.st_rows.proofs.merge_walk.write_pieces.Goals as goal

pub push_piece-requires-clause-room : goal.push_piece-requires-clause-room
push_piece-requires-clause-room g c =
    let turn = rw c.in-Counted.is at c.turn.ensures in
    let h = room_left (g.T.Table.cell c.args.table.now) (spread c.cells.out) (g.W.Walk.pieces (spread c.args.first.now) (spread c.args.then.now)) (g.W.Walk.pieces (marks_left c.cells.x_left c.cells.x_rest.now) (marks_left c.cells.y_left c.cells.y_rest.now)) _ (both_counted c.in-Counted.count) c.cells.invariant.whole turn.1 in
    omega (arith, h, c.requires.room)

pub push_both-requires-clause-room : goal.push_both-requires-clause-room
push_both-requires-clause-room g c =
    let turn = rw c.in-Both.is at c.turn.ensures in
    let h = room_left (g.T.Table.cell c.args.table.now) (spread c.cells.out) (g.W.Walk.pieces (spread c.args.first.now) (spread c.args.then.now)) (g.W.Walk.pieces (marks_left c.cells.x_left c.cells.x_rest.now) (marks_left c.cells.y_left c.cells.y_rest.now)) _ (Both (cell_of c.in-Both.x.now) (cell_of c.in-Both.y.now) ∷ []) c.cells.invariant.whole turn.1 in
    omega (arith, h, c.requires.room)

pub push_first-requires-clause-room : goal.push_first-requires-clause-room
push_first-requires-clause-room g c =
    let turn = rw c.in-First.is at c.turn.ensures in
    let h = room_left (g.T.Table.cell c.args.table.now) (spread c.cells.out) (g.W.Walk.pieces (spread c.args.first.now) (spread c.args.then.now)) (g.W.Walk.pieces (marks_left c.cells.x_left c.cells.x_rest.now) (marks_left c.cells.y_left c.cells.y_rest.now)) _ (First (cell_of c.in-First.x.now) ∷ []) c.cells.invariant.whole turn.1 in
    omega (arith, h, c.requires.room)

pub push_then-requires-clause-room : goal.push_then-requires-clause-room
push_then-requires-clause-room g c =
    let turn = rw c.in-Then.is at c.turn.ensures in
    let h = room_left (g.T.Table.cell c.args.table.now) (spread c.cells.out) (g.W.Walk.pieces (spread c.args.first.now) (spread c.args.then.now)) (g.W.Walk.pieces (marks_left c.cells.x_left c.cells.x_rest.now) (marks_left c.cells.y_left c.cells.y_rest.now)) _ (Then (cell_of c.in-Then.y.now) ∷ []) c.cells.invariant.whole turn.1 in
    omega (arith, h, c.requires.room)

pub overflow_add-found : goal.overflow_add-found
overflow_add-found g c =
    let turn = rw c.in-Counted.is at c.turn.ensures in
    let a = c.cells.invariant.place in
    let h : c.cells.found + c.in-Counted.count < 2 ^ 32 = omega (arith, a, turn.4, c.requires.found) in
    search rules

pub overflow_add-found-in-Both : goal.overflow_add-found-in-Both
overflow_add-found-in-Both g c =
    let turn = rw c.in-Both.is at c.turn.ensures in
    let a = c.cells.invariant.place in
    let h : c.cells.found + 1 < 2 ^ 32 = omega (arith, a, turn.4, c.requires.found) in
    search rules
