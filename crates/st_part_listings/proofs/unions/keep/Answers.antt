use Rattle.std.proofs.Common.{rules, ◌≡◌, unwrap_or, ap, ◌∙◌}
use Rattle.std.specs.BTreeMap.{get}
use Rattle.std.specs.BTreeMap.Entry.{map_with_value}
use Rattle.st_puts.proofs.MapEntries.{kept_at}
use Rattle.st_part_listings.proofs.unions.keep.Goals as goal

pub returns : goal.returns
returns g c =
    let w = c.or_insert.result.now in
    let was : w ≡ unwrap_or (get g.K.Ord.cmp c.args.map.now c.args.name) c.args.item =
    c.or_insert.ensures.value ∙ ap (λ o. unwrap_or o c.args.item) c.in_ok-map.ensures.value in
    kept_at g.met.K.Ord.total c.args.map.now (map_with_value c.in_ok-map.field-0 w) _ c.args.name c.args.item w
    (search rules) (c.in_ok-map.ensures.update.0 w).0 was
