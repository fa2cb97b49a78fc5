use Rattle.st_rebase.proofs.RowsRoom.{first_decides, second_decides}
use Rattle.st_rebase.proofs.room.has_room_in_rows.Goals as goal

pub returns-then-by_change : goal.returns-then-by_change
returns-then-by_change c = second_decides c.args.change.now.rows c.args.step.now.rows c.in_ok-by_change.by_change c.in_ok-by_step.by_step (c.in_ok-by_change.ensures, c.in_ok-by_step.ensures) c.if-by_change.true

pub returns-else-by_change : goal.returns-else-by_change
returns-else-by_change c = first_decides c.args.change.now.rows c.args.step.now.rows c.in_ok-by_change.by_change c.in_ok-by_step.by_step (c.in_ok-by_change.ensures, c.in_ok-by_step.ensures) c.if-by_change.false
