use Rattle.st_lean.proofs.RowsRoom.{first_decides, second_decides}
use Rattle.st_lean.proofs.room.has_room_in_each.Goals as goal

pub returns-then-by_change : goal.returns-then-by_change
returns-then-by_change c = second_decides c.args.change.now c.args.step.now c.all_have_room-by_change.result c.all_have_room-by_step.result (c.all_have_room-by_change.ensures, c.all_have_room-by_step.ensures) c.if-by_change.true

pub returns-else-by_change : goal.returns-else-by_change
returns-else-by_change c = first_decides c.args.change.now c.args.step.now c.all_have_room-by_change.result c.all_have_room-by_step.result (c.all_have_room-by_change.ensures, c.all_have_room-by_step.ensures) c.if-by_change.false
