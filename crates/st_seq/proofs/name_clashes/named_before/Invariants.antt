use Rattle.std.proofs.Common.{◌≡◌, length, take}
use Rattle.st_marks.specs.Row.{spread}
use Rattle.st_marks.specs.Listings.{cells_before}
use Rattle.st_seq.specs.NamedApart.{standing_at, named_before as before_names}
use Rattle.st_seq.proofs.name_clashes.named_before.Given as goal

abbrev pub invariant-loop-mark : goal.invariant-loop-mark
invariant-loop-mark l = record {
  cells : l.out.cells ≡ before_names 0 (spread (take l.mark-index l.marks));
  nodes : l.out.nodes ≡ standing_at 0 (cells_before (spread (take l.mark-index l.marks)));
  left : l.left ≡ length (cells_before (spread (take l.mark-index l.marks)));
}
