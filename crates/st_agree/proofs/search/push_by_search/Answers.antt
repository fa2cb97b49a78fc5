use Rattle.std.proofs.Common.{sym}
use Rattle.st_ids.specs.Listing.{item_of}
use Rattle.st_ids.specs.Order.{node_cmp}
use Rattle.st_agree.specs.declared.places.Placed.{Placed}
use Rattle.st_agree.specs.inside.Places.{apart_fields}
use Rattle.st_clash.proofs.LeastFields.{flat_more}
use Rattle.st_agree.proofs.search.push_by_search.Goals as goal

pub loop-placed-preserved : goal.loop-placed-preserved
loop-placed-preserved c =
    flat_more (λ (p : Placed). apart_fields p (item_of node_cmp (λ (q : Placed). q.node) c.args.others.now p.node)) c.args.found.now c.loop-placed.found c.push_near.new.found c.args.list.now c.loop-placed.placed-index
    c.placed-item.result c.placed-item.result c.loop-placed-test.true (sym c.placed-item.is) c.loop-placed.invariant c.in_ok-near.ensures
