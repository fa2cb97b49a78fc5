use Rattle.std.proofs.Common.{◌-◌, ◌≤◌, ◌<◌, IsSome, length, refl, sym, subst, arith}
use Rattle.std.specs.BTreeMap.{get}
use Rattle.std.proofs.lemmas.Option.{slice_get_read}
use Rattle.st_ids.specs.Order.{node_cmp}
use Rattle.st_doc.specs.Doc.{document_of}
use Rattle.st_doc.specs.LiveText.{is_among}
use Rattle.st_doc.proofs.LiveTexts.{none_made, shown_more}
use Rattle.st_doc.proofs.Ordered.{children_ready, here_known, none_ready, ready_more, root_ready}
use Rattle.st_doc.proofs.live_text.root_value.Goals as goal

pub value_of-requires-clause-known : goal.value_of-requires-clause-known
value_of-requires-clause-known c =
    let order = c.in_ok-order.order.items in
    let left = c.loop-left.left in
    let n = c.index-node.result.now in
    let more : 0 < left = c.loop-left-test.true in
    let within : left ≤ length order = c.loop-left.invariant.within in
    here_known (document_of c.args.doc.now) c.requires order c.in_ok-order.ensures (left - 1) left n (omega arith)
    (slice_get_read order (length order) (left - 1) n refl (omega arith) c.index-node.ensures) c.loop-left.done c.loop-left.invariant.ready

pub value_of-requires-clause-made : goal.value_of-requires-clause-made
value_of-requires-clause-made c =
    let order = c.in_ok-order.order.items in
    let left = c.loop-left.left in
    let n = c.index-node.result.now in
    let more : 0 < left = c.loop-left-test.true in
    let within : left ≤ length order = c.loop-left.invariant.within in
    children_ready (document_of c.args.doc.now) c.requires order c.in_ok-order.ensures (left - 1) left n (omega arith)
    (slice_get_read order (length order) (left - 1) n refl (omega arith) c.index-node.ensures) c.loop-left.done c.loop-left.invariant.ready

pub loop-left-init : goal.loop-left-init
loop-left-init c =
    let order = c.in_ok-order.order.items in
    let none = none_made c.new-done.result c.new-done.ensures.empty in
    record {
      within = omega (arith, c.len-left.ensures);
      shown = λ n v e. absurd (none n v e);
      ready = none_ready (document_of c.args.doc.now) c.requires order c.in_ok-order.ensures c.len-left.result c.new-done.result (omega (arith, c.len-left.ensures));
    }

pub take-requires : goal.take-requires
take-requires c =
    let left = c.loop-left.left in
    let end : left ≤ 0 = c.loop-left-test.false in
    subst (λ n. IsSome (get node_cmp c.loop-left.done n)) (sym c.root_node.ensures)
    (root_ready (document_of c.args.doc.now) c.requires c.in_ok-order.order.items c.in_ok-order.ensures left c.loop-left.done (omega arith) c.loop-left.invariant.ready)

pub loop-left-preserved : goal.loop-left-preserved
loop-left-preserved c =
    let D = document_of c.args.doc.now in
    let all = c.loop-left.invariant.shown in
    let order = c.in_ok-order.order.items in
    let left = c.loop-left.left in
    let n = c.index-node.result.now in
    let more : 0 < left = c.loop-left-test.true in
    let within : left ≤ length order = c.loop-left.invariant.within in
    record {
      within = omega arith;
      shown = shown_more (is_among c.args.arrays.now) D n c.in_ok-value.value c.set.new.map c.value_of.new.done c.loop-left.done c.in_ok-set.ensures
          c.in_ok-value.ensures.part all (c.in_ok-value.ensures.shown all);
      ready = ready_more D c.requires order c.in_ok-order.ensures (left - 1) left n (omega arith)
          (slice_get_read order (length order) (left - 1) n refl (omega arith) c.index-node.ensures) c.loop-left.done c.loop-left.invariant.ready
          c.value_of.new.done c.set.new.map c.in_ok-value.value c.in_ok-value.ensures.rest c.in_ok-set.ensures;
    }
