use Rattle.std.proofs.Common.{sym, ◌∙◌}
use Rattle.std.specs.BTreeMap.{get}
use Rattle.st_ids.specs.Order.{node_cmp, same_node}
use Rattle.st_ids.proofs.Orders.{node_cmp_exact}
use Rattle.st_marks.specs.declared.changes.NewNode.{NewNode}
use Rattle.st_marks.specs.Intent.{new_node}
use Rattle.st_embed.proofs.Listing.{listing}
use Rattle.st_embed.proofs.Wanting.{new_named, not_found}
use Rattle.st_embed.proofs.listings.new_of.Goals as goal

pub returns : goal.returns
returns c =
    let N = c.args.intent.now in
    let map = c.in_ok-map.map in
    let nodes = c.in_ok-nodes.nodes in
    listing node_cmp node_cmp_exact (λ (m : NewNode). m.node) (get node_cmp map) (λ k x e. new_named N k x (sym (c.in_ok-map.ensures k) ∙ e))
    nodes.keys c.in_ok-list.list (new_node N) c.in_ok-list.ensures.ordered c.in_ok-list.ensures.new
    (λ q there. c.in_ok-map.ensures q)
    (λ q e. not_found (λ (m : NewNode). same_node m.node q) N.new (sym (c.in_ok-nodes.ensures q) ∙ e))
