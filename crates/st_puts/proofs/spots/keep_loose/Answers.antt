use Rattle.std.proofs.Common.{get_or, refl, sym}
use Rattle.std.specs.BTreeMap.{get}
use Rattle.st_ids.specs.Order.{node_cmp, same_node}
use Rattle.st_lemmas.proofs.Options.{option_or-None}
use Rattle.st_puts.proofs.Firsts.{no_loose, kept_mapped}
use Rattle.st_puts.specs.inside.Spots.{loose_spot}
use Rattle.st_puts.proofs.spots.keep_loose.Goals as goal

pub loop-one-init : goal.loop-one-init
loop-one-init c = λ n. sym (option_or-None (get node_cmp c.args.spots.now n))

pub loop-one-preserved : goal.loop-one-preserved
unfolding same_node
loop-one-preserved c = λ n.
    kept_mapped loose_spot (get node_cmp c.args.spots.now n) (get node_cmp c.loop-one.spots n) (get node_cmp c.keep.new.map n) n
    c.args.loose.now c.loop-one.one-index no_loose (get_or c.args.loose.now c.loop-one.one-index no_loose) c.loop-one-test.true refl
    (c.loop-one.invariant n) (c.in_ok-keep.ensures n)
