use Rattle.std.proofs.Common.{ap, refl, sym, ◌∙◌}
use Rattle.std.specs.Ordering.{is_lt}
use Rattle.st_listings.proofs.MergedListings.{ordered, rises_on}
use Rattle.st_listings.proofs.merging.rises_before.Goals as goal

pub returns-in-Some : goal.returns-in-Some
returns-in-Some g c =
    let R = g.K.Ord.cmp in
    let key = g.T.Named.key in
    let item = c.args.item.now in
    let other = c.in-Some.other.now in
    let names = ordered R c.name.result.now c.name-in-Some.result.now (key item) (key other) c.order.result c.order.result c.name.ensures c.name-in-Some.ensures c.order.ensures refl in
    rises_on R g.met.K.Ord.total key item other c.args.others.now c.in-Some.field-0-1.now c.is_lt.result c.in-Some.ensures.cases.0 (c.is_lt.ensures ∙ ap is_lt (sym names))
