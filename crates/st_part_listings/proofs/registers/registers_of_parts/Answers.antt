use Rattle.std.proofs.Common.{None, map, ◌∙◌}
use Rattle.st_ids.specs.Listing.{item_of}
use Rattle.st_ids.specs.Order.{field_cmp}
use Rattle.st_ids.proofs.Orders.{field_cmp_exact}
use Rattle.st_marks.specs.declared.marks.RegMark.{RegMark}
use Rattle.st_part_listings.specs.Together.{goes_of, register_behind}
use Rattle.st_part_listings.proofs.MapListings.{listed_along}
use Rattle.st_part_listings.proofs.registers.registers_of_parts.Goals as goal

pub union-requires : goal.union-requires
union-requires c = field_cmp_exact

pub returns : goal.returns
returns c =
    let goes = goes_of c.args.tables.now in
    listed_along field_cmp (λ (r : RegMark). r.field) c.union.result c.as_slice.result.now c.as_slice-2.result.now
    (map (λ (r : RegMark). register_behind goes (item_of field_cmp (λ (q : RegMark). q.field) c.args.first.now r.field) r) c.args.second.now) (map (register_behind goes None) c.args.first.now)
    (c.as_slice.ensures ∙ c.in_ok-behind.ensures) (c.as_slice-2.ensures ∙ c.in_ok-before.ensures) c.union.ensures
