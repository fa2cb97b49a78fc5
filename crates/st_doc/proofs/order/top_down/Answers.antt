use Rattle.std.proofs.Common.{◌++◌, ◌∷◌, ◌+◌, ◌≤◌, ◌<◌, ◌≡◌, ◌∙◌, List, [], map, Some, ap, sym, refl, subst, length, slice_get, append_assoc, arith}
use Rattle.std.proofs.lemmas.Option.{slice_get_within}
use Rattle.st_ids.specs.declared.names.NodeId.{NodeId}
use Rattle.st_marks.specs.Document.{content}
use Rattle.st_marks.specs.LiveTree.{owners_shown}
use Rattle.st_doc.specs.Doc.{document_of}
use Rattle.st_doc.specs.inside.LiveText.{seats_of}
use Rattle.st_doc.specs.declared.seats.Seat.{Seat}
use Rattle.st_doc.proofs.Children.{children, children_once, child_above, above_child}
use Rattle.st_doc.proofs.KeyOrder.{seat_there}
use Rattle.st_doc.proofs.Ordered.{SoFar, all_so_far, first_so_far, more_so_far, within_nodes}
use Rattle.st_doc.proofs.order.top_down.Goals as goal

pub loop-node-init : goal.loop-node-init
loop-node-init c =
    first_so_far (document_of c.args.doc.now) c.push.new.self.items
    (c.in_ok-push.ensures.items ∙ ap (λ (l : List NodeId). l ++ c.root_node.result ∷ []) c.new-order.ensures.items ∙ ap (λ (n : NodeId). n ∷ []) c.root_node.ensures)

pub loop-node-preserved : goal.loop-node-preserved
loop-node-preserved c =
    let D = document_of c.args.doc.now in
    let sound = c.requires.sound in
    let n = c.in-Some.node in
    let entries = c.args.doc.now.held.entries in
    let ss = seats_of n entries in
    let rise = c.requires.seats.rise n in
    let holds = c.requires.seats.holds n in
    let all = seat_there n entries in
    let here : slice_get c.loop-node.order.items c.loop-node.next ≡ Some n = ap (λ l. slice_get l c.loop-node.next) (sym c.as_slice.ensures.value) ∙ sym c.node_at.ensures ∙ c.in-Some.is in
    let order : c.push_occupants.new.order.items ≡ c.loop-node.order.items ++ children D n ss =
    c.in_ok-push_occupants.ensures ∙ (λ i. c.in_ok-push_items.ensures i ++ map (λ (s : Seat). s.node) ((c.seats_at.ensures ∙ c.requires.seats.listed n) i))
    ∙ append_assoc c.loop-node.order.items (owners_shown (content D n)) (map (λ (s : Seat). s.node) ss) in
    subst (λ l. SoFar D l (c.loop-node.next + 1)) (sym order)
    (more_so_far D sound c.loop-node.order.items (children D n ss) c.loop-node.next n here
    (children_once D sound n ss rise holds all) (child_above D sound n ss rise holds all) (above_child D sound n ss rise holds all) c.loop-node.invariant)

pub loop-node-smaller : goal.loop-node-smaller
loop-node-smaller c =
    let here : slice_get c.loop-node.order.items c.loop-node.next ≡ Some c.in-Some.node = ap (λ l. slice_get l c.loop-node.next) (sym c.as_slice.ensures.value) ∙ sym c.node_at.ensures ∙ c.in-Some.is in
    let inside : c.loop-node.next < length c.loop-node.order.items = slice_get_within c.loop-node.order.items c.loop-node.next c.in-Some.node here in
    let few : length c.loop-node.order.items ≤ length c.args.doc.now.nodes.entries =
    within_nodes (document_of c.args.doc.now) c.requires.sound c.args.doc.now.nodes (λ n. refl) c.loop-node.order.items c.loop-node.next c.loop-node.invariant in
    omega (arith, inside, few)

pub returns : goal.returns
returns c =
    all_so_far (document_of c.args.doc.now) c.loop-node.order.items c.loop-node.next
    (ap (λ l. slice_get l c.loop-node.next) (sym c.as_slice.ensures.value) ∙ sym c.node_at.ensures ∙ c.in_default.is) c.loop-node.invariant
