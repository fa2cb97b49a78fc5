use Rattle.std.proofs.Common.{cond, sym, ap, ◌∙◌, Some, None}
use Rattle.st_ids.specs.Order.{node_cmp}
use Rattle.st_ids.specs.declared.names.NodeId.{NodeId}
use Rattle.st_ids.proofs.Orders.{node_cmp_exact}
use Rattle.st_lemmas.proofs.Options.{one_some}
use Rattle.st_marks.specs.Embedding.{is_among}
use Rattle.st_embed.proofs.Listing.{listing}
use Rattle.st_embed.proofs.listings.need_of.Goals as goal

pub returns : goal.returns
returns c =
    let N = c.args.intent.now in
    let nodes = c.in_ok-nodes.nodes in
    listing node_cmp node_cmp_exact (λ (n : NodeId). n) (λ (n : NodeId). Some n) (λ k x e. sym (one_some k x e))
    nodes.keys c.in_ok-list.list (λ (n : NodeId). cond (is_among N.need n) (Some n) None) c.in_ok-list.ensures.ordered c.in_ok-list.ensures.names
    (λ q there. sym (ap (λ b. cond b (Some q) None) (sym (c.in_ok-nodes.ensures q) ∙ there)))
    (λ q e. ap (λ b. cond b (Some q) None) (sym (c.in_ok-nodes.ensures q) ∙ e))
