use Rattle.std.proofs.Common.{map, sym}
use Rattle.st_part_rings.proofs.UpTables.{link_node}
use Rattle.std.specs.BTreeMap.{get}
use Rattle.st_ids.specs.Order.{node_cmp, same_node}
use Rattle.st_marks.proofs.Climb.{climb_end}
use Rattle.st_normal.proofs.Meeting.{climb_begins, met_ends, not_met, climb_ends, climb_closes, climb_joins, climb_goes_on, missing_less}
use Rattle.st_part_rings.proofs.rings.closes_ring.Goals as goal

pub returns-then-contains_key-clause-ends : goal.returns-then-contains_key-clause-ends
returns-then-contains_key-clause-ends c = λ _. met_ends (get node_cmp c.args.up.now) (get node_cmp c.args.met.now) c.args.start c.requires.ended (sym c.if-contains_key.ensures)

pub climb-init : goal.climb-init
climb-init c = climb_begins (get node_cmp c.args.up.now) (get node_cmp c.args.met.now) c.args.start c.requires.ended (not_met _ (sym c.if-contains_key.ensures))

pub returns-in_default-clause-ended : goal.returns-in_default-clause-ended
unfolding same_node
returns-in_default-clause-ended c = λ _. (climb_ends (get node_cmp c.args.up.now) (get node_cmp c.climb.met) (get node_cmp c.insert.new.self) c.args.start c.climb.here c.in_ok-insert.ensures.updates.0 c.climb.invariant
    (climb_end (get node_cmp c.args.up.now) c.climb.here (sym c.in_default.ensures))).0

pub returns-in_default-clause-ends : goal.returns-in_default-clause-ends
unfolding same_node
returns-in_default-clause-ends c = λ _. (climb_ends (get node_cmp c.args.up.now) (get node_cmp c.climb.met) (get node_cmp c.insert.new.self) c.args.start c.climb.here c.in_ok-insert.ensures.updates.0 c.climb.invariant
    (climb_end (get node_cmp c.args.up.now) c.climb.here (sym c.in_default.ensures))).1

pub returns-in-Some-get-clause-ring : goal.returns-in-Some-get-clause-ring
unfolding same_node
returns-in-Some-get-clause-ring c = climb_closes (get node_cmp c.args.up.now) (get node_cmp c.climb.met) (get node_cmp c.insert.new.self) c.args.start c.climb.here c.in_ok-insert.ensures.updates.0 c.climb.invariant
    c.in-Some.above c.in-Some-get.from.now (sym c.in-Some.ensures) (sym c.in-Some-get.ensures.value) c.is_same_node.result c.is_same_node.ensures

pub returns-in-Some-get-clause-ended : goal.returns-in-Some-get-clause-ended
unfolding same_node
returns-in-Some-get-clause-ended c = λ e. (climb_joins (get node_cmp c.args.up.now) (get node_cmp c.climb.met) (get node_cmp c.insert.new.self) c.args.start c.climb.here c.in_ok-insert.ensures.updates.0 c.climb.invariant
    c.in-Some.above c.in-Some-get.from.now (sym c.in-Some.ensures) (sym c.in-Some-get.ensures.value) c.is_same_node.result c.is_same_node.ensures e).0

pub returns-in-Some-get-clause-ends : goal.returns-in-Some-get-clause-ends
unfolding same_node
returns-in-Some-get-clause-ends c = λ e. (climb_joins (get node_cmp c.args.up.now) (get node_cmp c.climb.met) (get node_cmp c.insert.new.self) c.args.start c.climb.here c.in_ok-insert.ensures.updates.0 c.climb.invariant
    c.in-Some.above c.in-Some-get.from.now (sym c.in-Some.ensures) (sym c.in-Some-get.ensures.value) c.is_same_node.result c.is_same_node.ensures e).1

pub climb-smaller : goal.climb-smaller
unfolding same_node
climb-smaller c = missing_less (get node_cmp c.args.up.now) (get node_cmp c.climb.met) (get node_cmp c.insert.new.self) c.args.start c.climb.here c.in_ok-insert.ensures.updates.0 c.climb.invariant
    (map link_node c.args.links.now) (c.requires.listed c.climb.here c.in-Some.above (sym c.in-Some.ensures))

pub climb-preserved : goal.climb-preserved
unfolding same_node
climb-preserved c = climb_goes_on (get node_cmp c.args.up.now) (get node_cmp c.climb.met) (get node_cmp c.insert.new.self) c.args.start c.climb.here c.in_ok-insert.ensures.updates.0 c.climb.invariant
    c.in-Some.above (sym c.in-Some.ensures) (sym c.in_default-get.ensures.value)
