use Rattle.std.proofs.Common.{refl, ◌∙◌, sym, ap, map}
use Rattle.std.specs.BTreeMap.{get}
use Rattle.st_ids.specs.Order.{node_cmp}
use Rattle.st_rows.specs.Cells.{rebased_piece}
use Rattle.st_rows.specs.Pieces.{cells_of_piece}
use Rattle.st_rows.proofs.WalkLengths.{map-both_counted}
use Rattle.st_rows.proofs.row_rebase.BesideTable.mark.Goals as goal

pub returns-in-Counted : goal.returns-in-Counted
returns-in-Counted c = map-both_counted (rebased_piece (get node_cmp c.args.self.now.seen.now)) c.in-Counted.k refl ∙ ap (λ p. map (rebased_piece (get node_cmp c.args.self.now.seen.now)) (cells_of_piece p)) (sym c.in-Counted.is)
