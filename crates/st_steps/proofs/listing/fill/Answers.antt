use Rattle.std.proofs.Common.{map, ap}
use Rattle.std.specs.BTreeMap.{get}
use Rattle.std.specs.BTreeSet.{contains}
use Rattle.std.specs.List.{filter_map}
use Rattle.st_ids.specs.Order.{node_cmp}
use Rattle.st_marks.specs.declared.changes.NewNode.{NewNode}
use Rattle.st_marks.specs.declared.marks.Loose.{Loose}
use Rattle.st_steps.specs.inside.Told.{loose_before, loose_behind}
use Rattle.st_listings.proofs.MapListings.{listing_along}
use Rattle.st_steps.proofs.listing.fill.Goals as goal

pub returns : goal.returns
returns c =
    let t = c.args.tables.now in
    let before = map (loose_before (get node_cmp t.spots)) in
    let behind = filter_map (loose_behind (contains node_cmp t.stood) (contains node_cmp t.new)) in
    record {
      schema = c.in_ok-step-3.ensures;
      new_nodes = listing_along node_cmp (λ (m : NewNode). m.node) c.in_ok-step.field-0 c.as_slice.result.now c.as_slice-2.result.now c.args.first.now.new c.args.second.now.new c.as_slice.ensures c.as_slice-2.ensures c.in_ok-step.ensures;
      rows = c.in_ok-fill_fields.ensures.rows;
      regs = c.in_ok-fill_fields.ensures.regs;
      loose = listing_along node_cmp (λ (m : Loose). m.node) c.in_ok-step-2.field-0 (before c.as_slice-3.result.now) (behind c.as_slice-4.result.now) (before c.args.first.now.loose) (behind c.args.second.now.loose)
          (ap before c.as_slice-3.ensures) (ap behind c.as_slice-4.ensures) c.in_ok-step-2.ensures;
    }
