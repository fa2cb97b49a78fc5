use Rattle.std.proofs.Common.{map, ap, ◌∙◌}
use Rattle.st_ids.specs.Listing.{item_of}
use Rattle.st_ids.specs.Order.{field_cmp}
use Rattle.st_ids.proofs.Orders.{field_cmp_exact}
use Rattle.st_marks.specs.declared.marks.RegStep.{RegStep}
use Rattle.st_listings.proofs.MapListings.{listed_along}
use Rattle.st_strip.specs.inside.Told.{register_back, register_behind}
use Rattle.st_strip.proofs.registers.rest_registers.Goals as goal

pub union-requires : goal.union-requires
union-requires c = field_cmp_exact

pub returns : goal.returns
returns c =
    let f = λ (r : RegStep). register_behind (item_of field_cmp (λ (q : RegStep). q.field) c.args.first.now r.field) r in
    listed_along field_cmp (λ (r : RegStep). r.field) c.union.result c.as_slice-3.result.now c.as_slice-4.result.now (map f c.args.whole.now) (map register_back c.args.first.now)
    (c.as_slice-3.ensures ∙ c.in_ok-behind.ensures ∙ ap (map f) c.as_slice.ensures) (c.as_slice-4.ensures ∙ c.in_ok-back.ensures ∙ ap (map register_back) c.as_slice-2.ensures) c.union.ensures
