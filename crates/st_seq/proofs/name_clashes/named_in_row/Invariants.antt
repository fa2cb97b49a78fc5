use Rattle.std.proofs.Common.{◌≡◌, take}
use Rattle.st_rows.specs.Views.{row_views}
use Rattle.st_seq.specs.NamedApart.{standing_at, named_in_row as row_names}
use Rattle.st_seq.proofs.name_clashes.named_in_row.Given as goal

abbrev pub invariant-loop-slot : goal.invariant-loop-slot
invariant-loop-slot l = record {
  cells : l.out.cells ≡ row_names 0 (take l.slot-index l.row);
  nodes : l.out.nodes ≡ standing_at 0 (row_views (take l.slot-index l.row));
  left : l.left ≡ l.slot-index;
}
