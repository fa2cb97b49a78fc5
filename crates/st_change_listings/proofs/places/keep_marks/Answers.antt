use Rattle.std.proofs.Common.{get_or, refl, sym}
use Rattle.std.specs.BTreeMap.{get}
use Rattle.st_ids.specs.Order.{node_cmp, same_node}
use Rattle.st_lemmas.proofs.Options.{option_or-None}
use Rattle.st_marks.specs.declared.marks.Mark.{Mark}
use Rattle.st_puts.specs.inside.Spots.{stood_by}
use Rattle.st_puts.proofs.Firsts.{kept_more}
use Rattle.st_change_listings.proofs.places.keep_marks.Goals as goal

pub loop-mark-init : goal.loop-mark-init
loop-mark-init c = λ n. sym (option_or-None (get node_cmp c.args.spots.now n))

pub loop-mark-preserved : goal.loop-mark-preserved
unfolding same_node
loop-mark-preserved c = λ n.
    kept_more (stood_by c.args.row) (get node_cmp c.args.spots.now n) (get node_cmp c.loop-mark.spots n) (get node_cmp c.keep_mark.new.spots n) n
    c.args.marks.now c.loop-mark.mark-index (Mark.Skip 0) (get_or c.args.marks.now c.loop-mark.mark-index (Mark.Skip 0)) c.loop-mark-test.true refl
    (c.loop-mark.invariant n) (c.in_ok-keep_mark.ensures n)
