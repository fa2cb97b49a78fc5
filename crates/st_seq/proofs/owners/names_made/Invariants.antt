use Rattle.std.proofs.Common.{◌≡◌, map, take}
use Rattle.st_ids.specs.declared.names.CellId.{CellId}
use Rattle.st_marks.specs.Row.{spread}
use Rattle.st_marks.specs.Listings.{cells_made}
use Rattle.st_seq.specs.NamedApart.{found_at}
use Rattle.st_seq.proofs.owners.names_made.Given as goal

abbrev pub invariant-loop-mark : goal.invariant-loop-mark
invariant-loop-mark l = l.out ≡ map (λ (c : CellId). found_at c.0 0) (cells_made (spread (take l.mark-index l.marks)))
