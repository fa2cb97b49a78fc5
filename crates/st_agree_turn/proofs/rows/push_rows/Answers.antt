use Rattle.std.proofs.Common.{◌≡◌, ◌++◌, map, ap, ◌∙◌}
use Rattle.std.specs.BTreeSet.{contains}
use Rattle.std.specs.List.{flat_map}
use Rattle.st_ids.specs.Order.{node_cmp}
use Rattle.st_marks.specs.Embedding.{is_among}
use Rattle.st_marks.specs.Listings.{listing_after_step, listing_before_step, nodes_new}
use Rattle.st_clash.specs.Adds.{Adds}
use Rattle.st_agree_turn.specs.Rules.{RowsApart}
use Rattle.st_agree_turn.specs.inside.Left.{row_left}
use Rattle.st_agree_turn.specs.inside.Rows.{row_apart}
use Rattle.st_agree_turn.proofs.CellsTold.{OnOk-along}
use Rattle.st_agree_turn.proofs.RowsTold.{rows_added}
use Rattle.st_agree_turn.proofs.rows.push_rows.Goals as goal

pub returns : goal.returns
returns c =
    let S = c.args.first.now in
    let T = c.args.then.now in
    let made = contains node_cmp c.in_ok-made.made in
    OnOk-along c.push_listed.result (c.push_listed.new.found ≡ c.args.found.now ++ flat_map (row_apart c.in_ok-lefts.lefts made) c.as_slice-3.result.now)
    (Adds c.args.found.now c.push_listed.new.found (RowsApart (listing_after_step S) (listing_before_step T)) (Unit {0}))
    (λ e. rows_added S T made (λ n. c.in_ok-made.ensures n ∙ ap (λ l. is_among (nodes_new l) n) c.as_slice-2.ensures) c.args.found.now c.push_listed.new.found c.requires
    (e ∙ (λ i. c.args.found.now ++ flat_map (row_apart ((c.in_ok-lefts.ensures ∙ ap (map row_left) c.as_slice.ensures) i) made) (c.as_slice-3.ensures i)))) c.push_listed.ensures
