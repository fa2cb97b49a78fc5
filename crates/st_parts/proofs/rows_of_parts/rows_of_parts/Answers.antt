use Rattle.std.proofs.Common.{map, refl, ◌∙◌}
use Rattle.st_ids.specs.Listing.{item_of}
use Rattle.st_ids.specs.Order.{node_cmp}
use Rattle.st_marks.specs.declared.marks.RowMarks.{RowMarks}
use Rattle.st_parts.specs.inside.OfParts.{row_behind}
use Rattle.st_listings.proofs.MapListings.{listed_along}
use Rattle.st_parts.proofs.rows_of_parts.rows_of_parts.Goals as goal

pub returns : goal.returns
returns c =
    let f = λ (r : RowMarks). row_behind (item_of node_cmp (λ (q : RowMarks). q.node) c.args.first.now r.node) r in
    listed_along node_cmp (λ (r : RowMarks). r.node) c.union.result c.as_slice.result.now c.args.first.now (map f c.args.second.now) c.args.first.now
    (c.as_slice.ensures ∙ c.in_ok-behind.ensures) refl c.union.ensures
