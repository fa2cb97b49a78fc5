use Rattle.std.proofs.Common.{ap, ◌∙◌}
use Rattle.std.specs.BTreeMap.{is_at}
use Rattle.std.specs.Map.{lookup}
use Rattle.std.specs.Option.{option_or}
use Rattle.st_ids.specs.Listing.{item_of}
use Rattle.st_part_listings.proofs.unions.table_of.Goals as goal

pub returns : goal.returns
returns g c = λ q.
    c.in_ok-keep_all.ensures q ∙ ap (λ es. option_or (lookup (is_at (g.K.Ord.cmp q)) es) (item_of g.K.Ord.cmp g.T.Named.key c.args.items.now q)) c.new-map.ensures.empty
