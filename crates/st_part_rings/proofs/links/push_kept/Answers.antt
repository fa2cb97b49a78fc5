use Rattle.std.proofs.Common.{◌++◌, ap, ◌∙◌, sym}
use Rattle.std.specs.BTreeSet.{contains}
use Rattle.st_ids.specs.Order.{node_cmp}
use Rattle.st_clash.proofs.LeastFields.{flat_more}
use Rattle.st_part_rings.specs.inside.Links.{kept_link}
use Rattle.st_part_rings.proofs.links.push_kept.Goals as goal

pub loop-placed-preserved : goal.loop-placed-preserved
loop-placed-preserved c =
    flat_more (kept_link (contains node_cmp c.args.made.now) (contains node_cmp c.args.taken.now)) c.args.links.now c.loop-placed.links c.push_if_some.new.list c.args.places.now c.loop-placed.placed-index
    c.placed-item.result c.placed-item.result c.loop-placed-test.true (sym c.placed-item.is) c.loop-placed.invariant (c.in_ok-push_if_some.ensures ∙ ap (λ x. c.loop-placed.links ++ x) c.kept_link.ensures)
