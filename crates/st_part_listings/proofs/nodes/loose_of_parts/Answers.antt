use Rattle.std.proofs.Common.{map, ◌∙◌}
use Rattle.std.specs.List.{filter_map}
use Rattle.st_ids.specs.Order.{node_cmp}
use Rattle.st_marks.specs.declared.marks.Loose.{Loose}
use Rattle.st_part_listings.specs.Together.{goes_of, known_by, loose_before, loose_behind}
use Rattle.st_part_listings.proofs.MapListings.{listed_along}
use Rattle.st_part_listings.proofs.nodes.loose_of_parts.Goals as goal

pub returns : goal.returns
returns c =
    let goes = goes_of c.args.tables.now in
    listed_along node_cmp (λ (m : Loose). m.node) c.union.result c.as_slice.result.now c.as_slice-2.result.now
    (map (loose_before goes) c.args.first.now) (filter_map (loose_behind goes (known_by c.args.tables.now)) c.args.second.now)
    (c.as_slice.ensures ∙ c.in_ok-before.ensures) (c.as_slice-2.ensures ∙ c.in_ok-behind.ensures) c.union.ensures
