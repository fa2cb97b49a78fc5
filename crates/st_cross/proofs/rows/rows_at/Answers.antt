use Rattle.std.proofs.Common.{◌++◌, ◌∙◌, ap}
use Rattle.std.specs.BTreeMap.{get}
use Rattle.std.specs.BTreeSet.{contains}
use Rattle.std.specs.List.{filter_map}
use Rattle.st_marks.specs.Listings.{one_or_none}
use Rattle.st_ids.specs.Order.{node_cmp}
use Rattle.st_cross.specs.Fields.{row_at}
use Rattle.st_moves.proofs.NamesLeft.{listed_all}
use Rattle.st_over.proofs.Walked.{one_left}
use Rattle.st_cross.proofs.rows.rows_at.Goals as goal

pub loop-node-preserved : goal.loop-node-preserved
loop-node-preserved g c =
    let f = row_at g.R.Reading.listed c.args.across.now.was c.args.across.now.is (contains node_cmp c.args.across.now.made.now) (get node_cmp c.args.across.now.puts.now) c.args.change.now c.args.step.now in
    one_left f c.loop-node.list c.push_if_some.new.list (filter_map f c.args.nodes.now.keys) c.loop-node.node-iterator c.next.new.self c.in-Some.node.now c.in-Some.ensures.steps
    (c.in_ok-push_if_some.ensures ∙ ap (λ o. c.loop-node.list ++ one_or_none o) c.in_ok-row.ensures) c.loop-node.invariant

pub returns-clause-rows : goal.returns-clause-rows
returns-clause-rows g c =
    let f = row_at g.R.Reading.listed c.args.across.now.was c.args.across.now.is (contains node_cmp c.args.across.now.made.now) (get node_cmp c.args.across.now.puts.now) c.args.change.now c.args.step.now in
    listed_all f c.loop-node.list (filter_map f c.args.nodes.now.keys) c.loop-node.node-iterator c.in-None.ensures.steps.0 c.loop-node.invariant
