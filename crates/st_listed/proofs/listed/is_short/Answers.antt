use Rattle.st_marks.specs.Row.{spread}
use Rattle.st_listed.proofs.ShortRows.{short_row}
use Rattle.st_listed.proofs.listed.is_short.Goals as goal

pub returns : goal.returns
returns c = short_row c.after.result (spread c.args.row.now.marks) c.after.ensures
