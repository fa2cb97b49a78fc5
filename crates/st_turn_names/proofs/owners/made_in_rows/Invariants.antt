use Rattle.std.proofs.Common.{◌≡◌, take}
use Rattle.st_clash.specs.inside.Made.{made_in_rows}
use Rattle.st_turn_names.proofs.owners.made_in_rows.Given as goal

abbrev pub invariant-loop-row : goal.invariant-loop-row
invariant-loop-row l = l.list ≡ made_in_rows (take l.row-index l.rows)
