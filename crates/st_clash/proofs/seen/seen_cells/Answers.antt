use Rattle.std.proofs.Common.{[], ◌++◌, ap, sym, ◌∙◌}
use Rattle.st_clash.specs.inside.Seen.{row_seen, seen_from}
use Rattle.st_clash.proofs.LeastFields.{flat_more}
use Rattle.st_clash.proofs.seen.seen_cells.Goals as goal

pub loop-row-preserved : goal.loop-row-preserved
loop-row-preserved c =
    flat_more row_seen [] c.loop-row.list c.add_seen.new.list c.args.rows.now c.loop-row.row-index
    c.row-item.result c.row-item.result c.loop-row-test.true (sym c.row-item.is) c.loop-row.invariant
    (c.in_ok-add_seen.ensures ∙ ap (λ ms. c.loop-row.list ++ seen_from c.row-item.result.node 0 ms) c.as_slice.ensures)
