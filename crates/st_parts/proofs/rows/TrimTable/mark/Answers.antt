use Rattle.std.proofs.Common.{refl, ◌∙◌, sym, ap, map}
use Rattle.std.specs.BTreeSet.{contains}
use Rattle.st_ids.specs.Order.{node_cmp}
use Rattle.st_rows.specs.Pieces.{cells_of_piece}
use Rattle.st_rows.proofs.WalkLengths.{map-both_counted}
use Rattle.st_parts.specs.inside.Cut.{trimmed_piece}
use Rattle.st_parts.proofs.rows.TrimTable.mark.Goals as goal

pub returns-in-Counted : goal.returns-in-Counted
returns-in-Counted c =
    map-both_counted (trimmed_piece (contains node_cmp c.args.self.now.named.now)) c.in-Counted.count refl
    ∙ ap (λ p. map (trimmed_piece (contains node_cmp c.args.self.now.named.now)) (cells_of_piece p)) (sym c.in-Counted.is)
