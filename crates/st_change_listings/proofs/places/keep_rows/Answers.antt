use Rattle.std.proofs.Common.{sym, ap, ◌∙◌}
use Rattle.std.specs.BTreeMap.{get}
use Rattle.std.specs.List.{flat_map}
use Rattle.std.specs.Option.{option_or}
use Rattle.st_ids.specs.Order.{node_cmp, same_node}
use Rattle.st_lemmas.proofs.Options.{option_or-None}
use Rattle.st_puts.specs.inside.First.{first_at}
use Rattle.st_puts.specs.inside.Spots.{stood_by}
use Rattle.st_puts.proofs.Firsts.{kept_more}
use Rattle.st_change_listings.specs.Places.{stood_in_row}
use Rattle.st_change_listings.proofs.places.keep_rows.Goals as goal

pub loop-row-init : goal.loop-row-init
loop-row-init c = λ n. sym (option_or-None (get node_cmp c.args.spots.now n))

pub loop-row-preserved : goal.loop-row-preserved
unfolding same_node
loop-row-preserved c = λ n.
    kept_more stood_in_row (get node_cmp c.args.spots.now n) (get node_cmp c.loop-row.spots n) (get node_cmp c.keep_marks.new.spots n) n
    c.args.rows.now c.loop-row.row-index c.row-item.result c.row-item.result c.loop-row-test.true (sym c.row-item.is)
    (c.loop-row.invariant n) (c.in_ok-keep_marks.ensures n ∙ ap (λ l. option_or (get node_cmp c.loop-row.spots n) (first_at (flat_map (stood_by c.row-item.result.node) l) n)) c.as_slice.ensures)
