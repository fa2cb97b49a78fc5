use Rattle.std.proofs.Common.{Bool, true, sym, ap}
use Rattle.std.specs.BTreeMap.{get}
use Rattle.std.specs.BTreeSet.{contains}
use Rattle.st_ids.specs.Order.{node_cmp}
use Rattle.st_ids.specs.declared.names.NodeId.{NodeId}
use Rattle.st_ids.proofs.Orders.{node_cmp_exact}
use Rattle.st_marks.specs.declared.marks.Loose.{Loose}
use Rattle.st_moves.proofs.OrderedNames.{listing}
use Rattle.st_strip.specs.Rest.{rest_loose}
use Rattle.st_strip.specs.inside.Told.{nowhere_told}
use Rattle.st_strip.proofs.ToldApart.{rest_named}
use Rattle.st_strip.proofs.loose.rest_among.Goals as goal

pub returns : goal.returns
returns c =
    let s = c.args.first.now in
    let w = c.args.whole.now in
    let between = nowhere_told (get node_cmp s.spots) (contains node_cmp w.stood) in
    let last = nowhere_told (get node_cmp w.spots) (contains node_cmp s.stood) in
    listing node_cmp node_cmp_exact (λ (m : Loose). m.node) (λ (n : NodeId). rest_loose true (between n) (last n) n) (λ k l e. rest_named (between k) (last k) k l e) c.args.nodes.now.keys c.in_ok-list.list
    (λ (n : NodeId). rest_loose (contains node_cmp c.args.nodes.now n) (between n) (last n) n) c.in_ok-list.ensures.ordered c.in_ok-list.ensures.loose
    (λ q there. ap (λ (b : Bool). rest_loose b (between q) (last q) q) (sym there)) (λ q none. ap (λ (b : Bool). rest_loose b (between q) (last q) q) none)
