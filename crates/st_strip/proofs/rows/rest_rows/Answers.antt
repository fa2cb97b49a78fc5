use Rattle.std.proofs.Common.{map, ap, ◌∙◌}
use Rattle.st_ids.specs.Listing.{item_of}
use Rattle.st_ids.specs.Order.{node_cmp}
use Rattle.st_marks.specs.declared.marks.RowMarks.{RowMarks}
use Rattle.st_listings.proofs.MapListings.{listed_along}
use Rattle.st_strip.specs.inside.Told.{row_back, row_behind}
use Rattle.st_strip.proofs.rows.rest_rows.Goals as goal

pub returns : goal.returns
returns c =
    let f = λ (r : RowMarks). row_behind (item_of node_cmp (λ (q : RowMarks). q.node) c.args.first.now r.node) r in
    listed_along node_cmp (λ (r : RowMarks). r.node) c.union.result c.as_slice-3.result.now c.as_slice-4.result.now (map f c.args.whole.now) (map row_back c.args.first.now)
    (c.as_slice-3.ensures ∙ c.in_ok-behind.ensures ∙ ap (map f) c.as_slice.ensures) (c.as_slice-4.ensures ∙ c.in_ok-back.ensures ∙ ap (map row_back) c.as_slice-2.ensures) c.union.ensures
