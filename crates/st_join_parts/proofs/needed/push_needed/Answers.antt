use Rattle.std.proofs.Common.{◌++◌, ap, ◌∙◌}
use Rattle.std.specs.BTreeSet.{contains}
use Rattle.std.specs.List.{flat_map}
use Rattle.st_ids.specs.Order.{node_cmp}
use Rattle.st_marks.specs.Embedding.{is_among}
use Rattle.st_marks.specs.Listings.{nodes_new}
use Rattle.st_join_parts.specs.inside.Clashes.{rows_made}
use Rattle.st_join_parts.proofs.NamesTold.{needed_added}
use Rattle.st_join_parts.proofs.needed.push_needed.Goals as goal

pub returns : goal.returns
returns c =
    let made = contains node_cmp c.in_ok-made.made in
    needed_added c.args.first.now c.args.then.now made (λ n. c.in_ok-made.ensures n ∙ ap (λ l. is_among (nodes_new l) n) c.as_slice.ensures) c.args.found.now c.push_nodes.new.found
    (c.in_ok-push_nodes.ensures ∙ ap (λ l. c.args.found.now ++ flat_map (rows_made made) l) c.as_slice-2.ensures)
