use Rattle.std.proofs.Common.{◌∙◌, sym, ap}
use Rattle.std.specs.BTreeMap.{get}
use Rattle.std.specs.Option.{option_or}
use Rattle.st_ids.specs.Order.{cell_cmp, same_cell}
use Rattle.st_opening.specs.Start.{row_at}
use Rattle.st_doc.proofs.start.add_row_of.Goals as goal

pub returns-in-Row : goal.returns-in-Row
unfolding same_cell
returns-in-Row c = λ d.
    c.in_ok-add.ensures d ∙ ap (λ at. option_or (get cell_cmp c.args.row_of.now d) (row_at d at)) (sym c.in-Row.is)
