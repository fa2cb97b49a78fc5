use Rattle.std.proofs.Common.{refl, ◌∙◌, sym, ap, map}
use Rattle.std.specs.BTreeMap.{get}
use Rattle.std.specs.BTreeSet.{contains}
use Rattle.st_ids.specs.Order.{node_cmp}
use Rattle.st_rows.specs.Pieces.{cells_of_piece}
use Rattle.st_rows.proofs.WalkLengths.{map-both_counted}
use Rattle.st_reading.specs.Over.{over_piece}
use Rattle.st_reading.proofs.over.OverTable.mark.Goals as goal

pub returns-in-Counted : goal.returns-in-Counted
returns-in-Counted g c =
    let f = over_piece g.R.Reading.listed (get node_cmp c.args.self.now.puts.now) (contains node_cmp c.args.self.now.named.now) in
    map-both_counted f c.in-Counted.k refl ∙ ap (λ p. map f (cells_of_piece p)) (sym c.in-Counted.is)
