use Rattle.std.proofs.Common.{◌≡◌, sym, ap, ◌∙◌, Some, None}
use Rattle.std.specs.BTreeSet.{contains}
use Rattle.std.specs.List.{list_any}
use Rattle.st_ids.specs.Order.{node_cmp, same_node}
use Rattle.st_doc.specs.inside.Ahead.{above_ahead}
use Rattle.st_doc.proofs.Climbing.{climb_begun, climbed, climbed_all, climbed_less}
use Rattle.st_doc.proofs.climb.ancestors_ahead.Goals as goal
use Rattle.st_doc.proofs.climb.ancestors_ahead.Goals.{in-Some+then-contains, in_default}

pub loop-next-init : goal.loop-next-init
loop-next-init c =
    climb_begun (above_ahead c.args.intent.now c.args.targets.now c.args.place.now) (contains node_cmp c.new-above.result) c.args.node
    (λ n. ap (list_any _) c.new-above.ensures.empty) c.above_ahead-next.result c.above_ahead-next.ensures

pub loop-next-smaller : goal.loop-next-smaller
unfolding same_node
loop-next-smaller c =
    climbed_less (contains node_cmp c.loop-next.above) (contains node_cmp c.insert.new.self) c.in-Some.here c.in_ok-insert.ensures.updates.0 (sym c.if-contains.ensures)
    c.args.intent.now c.args.targets.now c.args.place.now c.loop-next.next c.above_ahead-next-in-Some.result c.in-Some.is c.above_ahead-next-in-Some.ensures

pub loop-next-preserved : goal.loop-next-preserved
unfolding same_node
loop-next-preserved c =
    climbed (above_ahead c.args.intent.now c.args.targets.now c.args.place.now) (contains node_cmp c.loop-next.above) c.args.node (contains node_cmp c.insert.new.self) c.in-Some.here
    c.loop-next.next c.above_ahead-next-in-Some.result c.in_ok-insert.ensures.updates.0 c.in-Some.is c.above_ahead-next-in-Some.ensures c.loop-next.invariant

pub returns : goal.returns
returns c =
    let up = above_ahead c.args.intent.now c.args.targets.now c.args.place.now in
    let has = contains node_cmp c.loop-next.above in
    elim c.match-next.branch [
      | in-Some+then-contains w ↦ climbed_all up has c.args.node c.loop-next.next (λ m e. let s : Some w.in-Some.here ≡ Some m = sym w.in-Some.is ∙ e in let here_is : w.in-Some.here ≡ m = cc in ap has (sym here_is) ∙ sym w.if-contains.ensures) c.loop-next.invariant
      | in_default w ↦ climbed_all up has c.args.node c.loop-next.next (λ m e. let bad : None ≡ Some m = sym w.in_default.is ∙ e in cc) c.loop-next.invariant
    ]
