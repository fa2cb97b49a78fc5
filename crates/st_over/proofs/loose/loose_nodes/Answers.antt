use Rattle.std.proofs.Common.{◌++◌, ◌∙◌, ap}
use Rattle.std.specs.BTreeMap.{get}
use Rattle.std.specs.List.{filter_map}
use Rattle.st_marks.specs.Listings.{one_or_none}
use Rattle.st_ids.specs.Order.{node_cmp}
use Rattle.st_puts.specs.Mentions.{place_in}
use Rattle.st_moves.specs.inside.Registers.{loose_in}
use Rattle.st_moves.proofs.NamesLeft.{listed_all}
use Rattle.st_over.proofs.Walked.{one_left}
use Rattle.st_over.proofs.loose.loose_nodes.Goals as goal

pub loop-node-preserved : goal.loop-node-preserved
loop-node-preserved c =
    let f = loose_in (get node_cmp c.args.puts.now) (place_in c.args.places.now) in
    one_left f c.loop-node.list c.push_if_some.new.list (filter_map f c.args.named.now.keys) c.loop-node.node-iterator c.next.new.self c.in-Some.node.now c.in-Some.ensures.steps
    (c.in_ok-push_if_some.ensures ∙ ap (λ o. c.loop-node.list ++ one_or_none o) c.loose_node.ensures) c.loop-node.invariant

pub returns-clause-loose : goal.returns-clause-loose
returns-clause-loose c =
    let f = loose_in (get node_cmp c.args.puts.now) (place_in c.args.places.now) in
    listed_all f c.loop-node.list (filter_map f c.args.named.now.keys) c.loop-node.node-iterator c.in-None.ensures.steps.0 c.loop-node.invariant
