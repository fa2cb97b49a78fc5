use Rattle.std.proofs.Common.{◌<◌, ◌-◌, ◌∙◌, sym, length, arith}
use Rattle.std.specs.BTreeMap.{get}
use Rattle.std.specs.Option.{option_or}
use Rattle.st_ids.specs.Order.{same_node, node_cmp, cell_cmp}
use Rattle.st_doc.proofs.Placing.{target_more}
use Rattle.st_doc.proofs.targets.targets.Goals as goal

pub loop-left-preserved : goal.loop-left-preserved
unfolding same_node
loop-left-preserved c =
    let left = c.loop-left.left in
    let puts = c.as_slice-puts.result.now in
    let more : 0 < left = c.loop-left-test.true in
    let inside : left - 1 < length puts = omega (arith, c.loop-left.invariant.within) in
    record {
      within = omega (arith, c.loop-left.invariant.within);
      placed = λ n. c.in_ok-set.ensures n
          ∙ target_more (λ d. option_or (get cell_cmp c.args.row_of.now d) (get cell_cmp c.in_ok-made.made d)) n puts (left - 1) left c.index-puts-left.result (get node_cmp c.loop-left.targets n) c.in_ok-spot.spot
          (omega arith) inside (sym c.index-puts-left.is) c.in_ok-spot.ensures (c.loop-left.invariant.placed n);
    }
