use Rattle.std.proofs.Common.{sym, ap, subst}
use Rattle.std.specs.Map.{keys_of}
use Rattle.st_ids.specs.Listing.{AreDistinct, Has}
use Rattle.st_doc.proofs.Keys.{key_more, nodes-typed, rising_nodes-once}
use Rattle.st_doc.proofs.Look.{copied_all}
use Rattle.st_doc.proofs.doc.Doc.nodes.Goals as goal

pub loop-node-preserved : goal.loop-node-preserved
loop-node-preserved c =
    key_more c.loop-node.nodes c.push.new.self c.loop-node.node-iterator c.next.new.self (keys_of c.args.self.now.nodes.entries) c.in-Some.node.now c.in-Some.field-0-1.now c.in-Some.ensures.steps c.in_ok-push.ensures.ok c.loop-node.invariant

pub returns-clause-all : goal.returns-clause-all
returns-clause-all c = λ n. (
    let es = c.args.self.now.nodes.entries in
    let whole = copied_all c.loop-node.nodes (keys_of c.loop-node.node-iterator) (keys_of es) (ap keys_of c.in-None.ensures.steps.0) c.loop-node.invariant in
    let known = nodes-typed es n in
    (λ h. known.0 (subst (λ ns. Has ns n) whole h), λ s. subst (λ ns. Has ns n) (sym whole) (known.1 s)))

pub returns-clause-once : goal.returns-clause-once
returns-clause-once c =
    let es = c.args.self.now.nodes.entries in
    let whole = copied_all c.loop-node.nodes (keys_of c.loop-node.node-iterator) (keys_of es) (ap keys_of c.in-None.ensures.steps.0) c.loop-node.invariant in
    subst (AreDistinct (λ n. n)) (sym whole) (rising_nodes-once (keys_of es) c.iter-node-items.ensures.ordered)
