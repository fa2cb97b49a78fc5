use Rattle.std.proofs.Common.{ap, ◌∙◌}
use Rattle.std.specs.BTreeMap.{is_at}
use Rattle.std.specs.Map.{lookup}
use Rattle.std.specs.Option.{option_or}
use Rattle.st_ids.specs.Listing.{item_of}
use Rattle.st_listings.proofs.MapListings.{listing_made}
use Rattle.st_listings.proofs.unions.union_by_map.Goals as goal

pub returns : goal.returns
returns g c =
    let R = g.K.Ord.cmp in
    let key = g.T.Named.key in
    listing_made R g.met.K.Ord.total c.requires key c.in_order.result c.keep_all-2.new.map.entries c.args.first.now c.args.second.now
    (λ q. c.in_ok-keep_all-2.ensures q ∙ ap (λ o. option_or o (item_of R key c.args.second.now q)) (c.in_ok-keep_all.ensures q ∙ ap (λ es. option_or (lookup (is_at (R q)) es) (item_of R key c.args.first.now q)) c.new-map.ensures.empty))
    c.in_order.ensures.items c.in_order.ensures.ordered
