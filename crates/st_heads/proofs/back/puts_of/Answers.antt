use Rattle.std.proofs.Common.{◌∙◌, sym, ap, subst, map, option_map}
use Rattle.std.specs.List.{find}
use Rattle.st_ids.specs.Listing.{AreDistinct}
use Rattle.st_ids.specs.Order.{same_node}
use Rattle.st_marks.specs.declared.intents.Put.{Put}
use Rattle.st_doc.proofs.Look.{copied_all}
use Rattle.st_heads.proofs.Listed.{entry_more, found_entry, entries_distinct, put_at}
use Rattle.st_heads.proofs.back.puts_of.Goals as goal

pub loop-node-preserved : goal.loop-node-preserved
loop-node-preserved c =
    entry_more c.loop-node.puts c.push_put.new.puts c.loop-node.node-iterator c.next.new.self (map put_at c.args.back.now.entries) c.in-Some.node.now c.in-Some.to.now c.in-Some.ensures.steps c.in_ok-push_put.ensures c.loop-node.invariant

pub returns-clause-found : goal.returns-clause-found
returns-clause-found c = λ n.
    ap (λ ps. option_map (λ (p : Put). p.to) (find (λ (p : Put). same_node p.node n) ps)) (copied_all c.loop-node.puts (map put_at c.loop-node.node-iterator) (map put_at c.args.back.now.entries) (ap (map put_at) c.in-None.ensures.steps.0) c.loop-node.invariant)
    ∙ found_entry c.args.back.now.entries n

pub returns-clause-once : goal.returns-clause-once
returns-clause-once c =
    subst (AreDistinct (λ (p : Put). p.node)) (sym (copied_all c.loop-node.puts (map put_at c.loop-node.node-iterator) (map put_at c.args.back.now.entries) (ap (map put_at) c.in-None.ensures.steps.0) c.loop-node.invariant))
    (entries_distinct c.args.back.now.entries c.iter-node-items.ensures.ordered)
