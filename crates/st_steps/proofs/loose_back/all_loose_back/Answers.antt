use Rattle.std.proofs.Common.{None, cond, sym, ap}
use Rattle.std.specs.BTreeMap.{get}
use Rattle.std.specs.BTreeSet.{contains}
use Rattle.st_ids.specs.Order.{node_cmp}
use Rattle.st_ids.specs.declared.names.NodeId.{NodeId}
use Rattle.st_ids.proofs.Orders.{node_cmp_exact}
use Rattle.st_marks.specs.declared.marks.Loose.{Loose}
use Rattle.st_moves.proofs.OrderedNames.{listing}
use Rattle.st_steps.specs.WayBack.{loose_back}
use Rattle.st_steps.specs.inside.Back.{told_of}
use Rattle.st_steps.proofs.ToldBack.{loose_named}
use Rattle.st_steps.proofs.loose_back.all_loose_back.Goals as goal

pub returns : goal.returns
returns c =
    let t = c.args.tables.now in
    let f = λ (n : NodeId). loose_back (contains node_cmp t.stood n) (get node_cmp t.spots n) n in
    let look = λ (n : NodeId). loose_back (contains node_cmp t.stood n) (told_of (contains node_cmp c.args.nodes.now) (get node_cmp t.spots) n) n in
    listing node_cmp node_cmp_exact (λ (m : Loose). m.node) f (λ k l e. loose_named (contains node_cmp t.stood k) (get node_cmp t.spots k) k l e) c.args.nodes.now.keys c.in_ok-list.list look
    c.in_ok-list.ensures.ordered c.in_ok-list.ensures.loose
    (λ q there. ap (λ b. loose_back (contains node_cmp t.stood q) (cond b (get node_cmp t.spots q) None) q) (sym there))
    (λ q none. ap (λ b. loose_back (contains node_cmp t.stood q) (cond b (get node_cmp t.spots q) None) q) none)
