use Rattle.std.proofs.Common.{◌≡◌, take}
use Rattle.std.specs.List.{flat_map}
use Rattle.st_clash.specs.inside.Seen.{row_seen}
use Rattle.st_clash.proofs.seen.seen_cells.Given as goal

abbrev pub invariant-loop-row : goal.invariant-loop-row
invariant-loop-row l = l.list ≡ flat_map row_seen (take l.row-index l.rows)
