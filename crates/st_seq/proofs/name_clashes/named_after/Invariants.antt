use Rattle.std.proofs.Common.{◌≡◌, length, take}
use Rattle.st_marks.specs.Row.{spread}
use Rattle.st_marks.specs.Listings.{cells_after}
use Rattle.st_seq.specs.NamedApart.{standing_at, named_after as after_names}
use Rattle.st_seq.proofs.name_clashes.named_after.Given as goal

abbrev pub invariant-loop-mark : goal.invariant-loop-mark
invariant-loop-mark l = record {
  cells : l.out.cells ≡ after_names 0 (spread (take l.mark-index l.marks));
  nodes : l.out.nodes ≡ standing_at 0 (cells_after (spread (take l.mark-index l.marks)));
  left : l.left ≡ length (cells_after (spread (take l.mark-index l.marks)));
}
