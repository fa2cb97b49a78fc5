use Rattle.std.proofs.Common.{ap, ◌∙◌}
use Rattle.std.specs.BTreeSet.{contains}
use Rattle.st_ids.specs.Order.{cell_cmp, node_cmp}
use Rattle.st_marks.specs.Listings.{is_among_cells}
use Rattle.st_turn_names.specs.inside.Early.{early_in}
use Rattle.st_turn_names.proofs.OwnersTold.{owners_added}
use Rattle.st_turn_names.proofs.owners.push_owners.Goals as goal

pub returns : goal.returns
returns c =
    let nodes = contains node_cmp c.in_ok-made.made.nodes in
    let cells = contains cell_cmp c.in_ok-made.made.cells in
    owners_added c.args.first.now c.args.then.now nodes cells (contains cell_cmp c.in_ok-early.early) c.in_ok-made.ensures.nodes c.in_ok-made.ensures.cells
    (λ d. c.in_ok-early.ensures d ∙ ap (λ rows. is_among_cells (early_in nodes cells rows) d) c.as_slice.ensures) c.requires.rows c.requires.rows_then
    c.args.found.now c.push_both.new.found c.in_ok-push_both.ensures
