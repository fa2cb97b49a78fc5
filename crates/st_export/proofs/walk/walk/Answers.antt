use Rattle.std.proofs.Common.{◌≡◌, ◌≤◌, ◌++◌, ◌∷◌, [], ◌∙◌, List, length, refl, sym, ap, subst, arith, inl}
use Rattle.st_ids.specs.declared.names.NodeId.{NodeId}
use Rattle.st_marks.proofs.Members.{map-has}
use Rattle.st_doc.specs.LiveText.{is_among}
use Rattle.st_export.specs.declared.walk.Visit.{Visit}
use Rattle.st_export.specs.inside.Beneath.{beneath}
use Rattle.st_export.specs.inside.Walk.{IsWalk}
use Rattle.st_export.proofs.Meeting.{Met, met_first, met_next, nodes_of, too_many, walk_first, walk_more}
use Rattle.st_export.proofs.walk.walk.Goals as goal

pub loop-next-init : goal.loop-next-init
loop-next-init c =
    let n = c.args.node in
    let order = c.new-order.result.items in
    let todo = c.push.new.self.items in
    let first : todo ≡ n ∷ [] = c.in_ok-push.ensures.items ∙ ap (λ (l : List NodeId). l ++ n ∷ []) c.new-todo.ensures.items in
    record {
      walk = walk_first (beneath (is_among c.args.arrays.now) c.args.forest.now) n order todo c.new-order.ensures.items first;
      met = λ D stands sound known. subst (λ vs. Met D n (nodes_of vs) todo) (sym c.new-order.ensures.items) (met_first D n todo known first);
    }

pub loop-next-preserved : goal.loop-next-preserved
loop-next-preserved c =
    let n = c.args.node in
    let shown = beneath (is_among c.args.arrays.now) c.args.forest.now in
    let order = c.loop-next.order.items in
    let todo = c.loop-next.todo.items in
    let rest = c.pop.new.self.items in
    let next = c.in-Some.next in
    let v : Visit = record { node = next; others = length rest } in
    let left = c.meet.new.todo.items in
    let last : todo ≡ rest ++ next ∷ [] = c.in-Some.ensures.items in
    record {
      walk = subst (λ vs. IsWalk shown (n ∷ []) vs left) (sym c.in_ok-meet.ensures.order) (walk_more shown (n ∷ []) order v rest todo left last refl c.in_ok-meet.ensures.todo c.loop-next.invariant.walk);
      met = λ D stands sound known.
          met_next D sound n order c.meet.new.order.items v todo rest (shown next) left last c.in_ok-meet.ensures.order c.in_ok-meet.ensures.todo (c.in_ok-meet.ensures.beneath D stands sound)
          (c.loop-next.invariant.met D stands sound known);
    }

pub returns-then-len-clause-ends : goal.returns-then-len-clause-ends
returns-then-len-clause-ends c = λ D stands sound known.
    let F = c.args.forest.now in
    let order = c.loop-next.order.items in
    let many : length F.nodes.entries ≤ length order = omega (arith, c.if-len.true, c.len.ensures, c.len-in-Some.ensures.len, c.loop-next.order.ok.0) in
    absurd (too_many F D stands c.args.node c.in-Some.next order c.loop-next.todo.items c.pop.new.self.items (c.loop-next.invariant.met D stands sound known) c.in-Some.ensures.items many)

pub returns-clause-known : goal.returns-clause-known
returns-clause-known c = λ D v stands sound known h. (c.loop-next.invariant.met D stands sound known).known v.node (inl (map-has (λ (v : Visit). v.node) c.loop-next.order.items v h))
