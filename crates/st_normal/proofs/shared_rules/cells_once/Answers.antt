use Rattle.std.proofs.Common.{◌↔◌, IsTrue, List, subst, ap, ◌∙◌}
use Rattle.st_ids.specs.Listing.{AreDistinct}
use Rattle.st_ids.specs.declared.names.CellId.{CellId}
use Rattle.st_normal.specs.Rules.{in_rows}
use Rattle.st_marks.specs.Listings.{cells_in}
use Rattle.st_normal.proofs.Naming.{cells_once}
use Rattle.st_normal.proofs.shared_rules.cells_once.Goals as goal

pub returns : goal.returns
returns g c =
    let xs = in_rows cells_in (g.L.HasEntries.listed c.args.look.now.lists).rows in
    let e = subst (λ (ys : List CellId). IsTrue c.of.result.once ↔ AreDistinct (λ (c : CellId). c.0) ys) (c.in_rows.ensures ∙ ap (in_rows cells_in) c.rows.ensures) c.of.ensures.once in
    (λ t. (cells_once xs).0 (e.0 t), λ d. e.1 ((cells_once xs).1 d))
