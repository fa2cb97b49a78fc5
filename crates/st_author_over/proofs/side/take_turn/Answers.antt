use Rattle.std.proofs.Common.{◌∙◌, drop, subst, sym}
use Rattle.st_author_over.specs.inside.Side.{IsTurn, cell, left}
use Rattle.st_author_over.proofs.SidesOfRows.{none-left, none-there}
use Rattle.st_author_over.proofs.side.take_turn.Goals as goal

pub returns-in-None-slot_at : goal.returns-in-None-slot_at
returns-in-None-slot_at c = none-left (drop c.args.place c.args.row.now) (left c.args.y_count c.args.ys.now) (left c.args.x_count c.args.xs.now) c.in-None-slot_at.ensures c.in-None.ensures

pub returns-in-None-slot_at-2 : goal.returns-in-None-slot_at-2
returns-in-None-slot_at-2 c = none-there (drop c.args.place c.args.row.now) (left c.args.y_count c.args.ys.now) (left c.args.x_count c.args.xs.now) (cell c.in-Some.x) (left c.in-Some.k c.in-Some.ws.now)
    c.in-None-slot_at-2.ensures (sym c.makes.ensures ∙ c.if-makes.false) c.in-Some.ensures

pub returns-in-Some-slot_at : goal.returns-in-Some-slot_at
returns-in-Some-slot_at c = subst (λ d. IsTurn c.args.row.now d (left c.args.y_count c.args.ys.now) (left c.args.x_count c.args.xs.now) c.cell_turn.result) (sym c.in-Some-slot_at.ensures) (c.cell_turn.ensures c.args.row.now)

pub returns-in-Some-slot_at-2 : goal.returns-in-Some-slot_at-2
returns-in-Some-slot_at-2 c = subst (λ d. IsTurn c.args.row.now d (left c.args.y_count c.args.ys.now) (left c.args.x_count c.args.xs.now) c.cell_turn-in-Some-slot_at-2.result) (sym c.in-Some-slot_at-2.ensures) (c.cell_turn-in-Some-slot_at-2.ensures c.args.row.now)
