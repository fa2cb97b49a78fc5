use Rattle.std.proofs.Common.{[], ◌++◌, ap, ◌∙◌, sym}
use Rattle.st_clash.proofs.LeastFields.{flat_more}
use Rattle.st_part_rings.specs.inside.Links.{link_of}
use Rattle.st_part_rings.proofs.links.links_of.Goals as goal

pub loop-placed-preserved : goal.loop-placed-preserved
loop-placed-preserved c =
    flat_more link_of [] c.loop-placed.links c.push_if_some.new.list c.args.places.now c.loop-placed.placed-index
    c.placed-item.result c.placed-item.result c.loop-placed-test.true (sym c.placed-item.is) c.loop-placed.invariant (c.in_ok-push_if_some.ensures ∙ ap (λ x. c.loop-placed.links ++ x) c.link_of.ensures)
