use Rattle.std.proofs.Common.{◌≡◌, ◌≤◌, ◌++◌, Option, drop, length}
use Rattle.st_ids.specs.declared.names.CellId.{CellId}
use Rattle.st_ids.specs.declared.names.NodeId.{NodeId}
use Rattle.st_marks.specs.Row.{spread}
use Rattle.st_meaning.specs.inside.Made.{at_place, cells_at, made_from}
use Rattle.st_meaning.proofs.places.keep_row.Given as goal

-- what is kept, and what the marks that are left make
abbrev pub invariant-loop-mark : goal.invariant-loop-mark
invariant-loop-mark l = record {
  within : l.at ≤ length l.old;
  so_far : (n : NodeId) (a : Option CellId) → cells_at l.cells n a ++ at_place l.row n a (made_from l.old l.at (spread (drop l.mark-index l.marks)))
      ≡ cells_at l.initial.cells n a ++ at_place l.row n a (made_from l.old 0 (spread l.marks));
}
