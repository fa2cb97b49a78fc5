use Rattle.std.proofs.Common.{◌++◌, ap, ◌∙◌}
use Rattle.std.specs.BTreeSet.{contains}
use Rattle.std.specs.List.{flat_map}
use Rattle.st_ids.specs.Order.{node_cmp}
use Rattle.st_marks.specs.Embedding.{is_among}
use Rattle.st_marks.specs.Listings.{nodes_new}
use Rattle.st_turn_names.specs.inside.Names.{made_again}
use Rattle.st_turn_names.proofs.NamedNodes.{made_added}
use Rattle.st_turn_names.proofs.names.push_made.Goals as goal

pub returns : goal.returns
returns c =
    let made = contains node_cmp c.in_ok-made.made in
    made_added c.args.first.now c.args.then.now made (λ n. c.in_ok-made.ensures n ∙ ap (λ l. is_among (nodes_new l) n) c.as_slice.ensures) c.args.found.now c.push_nodes.new.found
    (c.in_ok-push_nodes.ensures ∙ ap (λ l. c.args.found.now ++ flat_map (made_again made) l) (c.as_slice-2.ensures ∙ c.in_ok-nodes.ensures))
