use Rattle.std.proofs.Common.{◌≡◌, false, take}
use Rattle.std.specs.List.{list_any}
use Rattle.st_clash.specs.inside.Made.{is_of, named_in_rows}
use Rattle.st_clash.proofs.revisions.rows_name.Given as goal

abbrev pub invariant-loop-row : goal.invariant-loop-row
invariant-loop-row l = list_any (is_of l.rev) (named_in_rows (take l.row-index l.rows)) ≡ false
