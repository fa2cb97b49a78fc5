use Rattle.std.proofs.Common.{map, ◌∙◌}
use Rattle.std.specs.BTreeMap.{get}
use Rattle.std.specs.BTreeSet.{contains}
use Rattle.std.specs.List.{filter_map}
use Rattle.st_ids.specs.Order.{node_cmp}
use Rattle.st_marks.specs.declared.marks.Loose.{Loose}
use Rattle.st_steps.specs.inside.Told.{loose_before, loose_behind}
use Rattle.st_listings.proofs.MapListings.{listed_along}
use Rattle.st_steps.proofs.loose.loose_in_turn.Goals as goal

pub returns : goal.returns
returns c =
    let t = c.args.tables.now in
    listed_along node_cmp (λ (m : Loose). m.node) c.union.result c.as_slice.result.now c.as_slice-2.result.now
    (map (loose_before (get node_cmp t.spots)) c.args.first.now) (filter_map (loose_behind (contains node_cmp t.stood) (contains node_cmp t.new)) c.args.second.now)
    (c.as_slice.ensures ∙ c.in_ok-before.ensures) (c.as_slice-2.ensures ∙ c.in_ok-behind.ensures) c.union.ensures
