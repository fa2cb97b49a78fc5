use Rattle.std.proofs.Common.{◌≡◌, sym, ap, ◌∙◌, Some, None}
use Rattle.std.specs.BTreeSet.{contains}
use Rattle.st_ids.specs.Order.{node_cmp, same_node}
use Rattle.st_climb.proofs.Climbs.{climb_begun, climbed, climbed_all, climbed_less}
use Rattle.st_climb.proofs.climb.add_upwards.Goals as goal

pub loop-next-init : goal.loop-next-init
loop-next-init g c = climb_begun (g.A.Above.up c.args.places.now) (contains node_cmp c.args.nodes.now) c.args.node c.requires

pub loop-next-smaller : goal.loop-next-smaller
unfolding same_node
loop-next-smaller g c =
    climbed_less (contains node_cmp c.loop-next.nodes) (contains node_cmp c.insert.new.self) c.in-Some.here c.in_ok-insert.ensures.updates.0 (sym c.if-contains.ensures)
    (g.A.Above.up c.args.places.now) (g.A.Above.lower c.args.places.now) (c.has_lower.ensures c.args.places.now) c.loop-next.next c.above-next.result c.in-Some.is c.above-next.ensures

pub loop-next-preserved : goal.loop-next-preserved
unfolding same_node
loop-next-preserved g c =
    climbed (g.A.Above.up c.args.places.now) (contains node_cmp c.args.nodes.now) c.args.node (contains node_cmp c.loop-next.nodes) (contains node_cmp c.insert.new.self) c.in-Some.here
    c.loop-next.next c.above-next.result c.in_ok-insert.ensures.updates.0 c.in-Some.is c.above-next.ensures c.loop-next.invariant

pub returns-then-contains : goal.returns-then-contains
returns-then-contains g c =
    let has = contains node_cmp c.loop-next.nodes in
    climbed_all (g.A.Above.up c.args.places.now) (contains node_cmp c.args.nodes.now) c.args.node has c.loop-next.next
    (λ m e. let s : Some c.in-Some.here ≡ Some m = sym c.in-Some.is ∙ e in let here_is : c.in-Some.here ≡ m = cc in ap has (sym here_is) ∙ sym c.if-contains.ensures) c.loop-next.invariant

pub returns-in_default : goal.returns-in_default
returns-in_default g c =
    climbed_all (g.A.Above.up c.args.places.now) (contains node_cmp c.args.nodes.now) c.args.node (contains node_cmp c.loop-next.nodes) c.loop-next.next
    (λ m e. let bad : None ≡ Some m = sym c.in_default.is ∙ e in cc) c.loop-next.invariant
