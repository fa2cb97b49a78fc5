use Rattle.std.proofs.Common.{◌≡◌, take}
use Rattle.st_clash.specs.inside.Made.{named_in_rows}
use Rattle.st_clash.proofs.made.named_in_rows.Given as goal

abbrev pub invariant-loop-row : goal.invariant-loop-row
invariant-loop-row l = l.list ≡ named_in_rows (take l.row-index l.rows)
