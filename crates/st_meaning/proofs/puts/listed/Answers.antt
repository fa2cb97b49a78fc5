use Rattle.std.proofs.Common.{◌∙◌, sym, ap, subst}
use Rattle.std.specs.List.{filter_map}
use Rattle.st_ids.specs.Listing.{IsRising}
use Rattle.st_ids.specs.Order.{node_cmp}
use Rattle.st_marks.specs.declared.intents.Put.{Put}
use Rattle.st_meaning.specs.inside.Made.{put_by}
use Rattle.st_meaning.proofs.Entries.{listed_all, listed_left}
use Rattle.st_meaning.proofs.Listed.{put_entry, puts_found, puts_rise}
use Rattle.st_meaning.proofs.puts.listed.Goals as goal

pub loop-node-preserved : goal.loop-node-preserved
loop-node-preserved c = listed_left put_entry c.loop-node.puts c.push_put.new.puts (filter_map put_entry c.args.map.now.entries) c.loop-node.node-iterator c.next.new.self (c.in-Some.node.now, c.in-Some.to.now) c.in-Some.ensures.steps c.in_ok-push_put.ensures c.loop-node.invariant

pub returns-clause-found : goal.returns-clause-found
returns-clause-found c = λ n.
    ap (λ ps. put_by ps n) (listed_all put_entry c.loop-node.puts (filter_map put_entry c.args.map.now.entries) c.loop-node.node-iterator c.in-None.ensures.steps.0 c.loop-node.invariant)
    ∙ puts_found c.args.map.now.entries n c.iter-node-items.ensures.ordered

pub returns-clause-rising : goal.returns-clause-rising
returns-clause-rising c =
    subst (IsRising node_cmp (λ (p : Put). p.node)) (sym (listed_all put_entry c.loop-node.puts (filter_map put_entry c.args.map.now.entries) c.loop-node.node-iterator c.in-None.ensures.steps.0 c.loop-node.invariant))
    (puts_rise c.args.map.now.entries c.iter-node-items.ensures.ordered)
