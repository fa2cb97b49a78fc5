use Rattle.std.proofs.Common.{sym}
use Rattle.std.specs.BTreeMap.{get}
use Rattle.st_ids.specs.Order.{node_cmp, same_node}
use Rattle.st_lemmas.proofs.Options.{option_or-None}
use Rattle.st_puts.proofs.Firsts.{kept_mapped}
use Rattle.st_puts.specs.inside.Spots.{new_spot}
use Rattle.st_puts.proofs.spots.keep_new.Goals as goal

pub loop-made-init : goal.loop-made-init
loop-made-init c = λ n. sym (option_or-None (get node_cmp c.args.spots.now n))

pub loop-made-preserved : goal.loop-made-preserved
unfolding same_node
loop-made-preserved c = λ n.
    kept_mapped new_spot (get node_cmp c.args.spots.now n) (get node_cmp c.loop-made.spots n) (get node_cmp c.keep.new.map n) n
    c.args.new.now c.loop-made.made-index c.made-item.result c.made-item.result c.loop-made-test.true (sym c.made-item.is)
    (c.loop-made.invariant n) (c.in_ok-keep.ensures n)
