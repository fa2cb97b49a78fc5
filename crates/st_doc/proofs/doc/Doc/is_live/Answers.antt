use Rattle.std.proofs.Common.{◌≡◌, true, false, refl, sym, ap, ◌∙◌, subst, Some}
use Rattle.std.specs.Map.{lookup}
use Rattle.std.specs.Ordering.{is_eq}
use Rattle.st_ids.specs.Order.{node_cmp, same_node}
use Rattle.st_ids.proofs.Orders.{same_node-true, same_node-itself}
use Rattle.st_marks.specs.Document.{above, Reaches}
use Rattle.st_ids.specs.Root.{root}
use Rattle.st_doc.specs.inside.Ahead.{above_ahead}
use Rattle.st_doc.specs.Doc.{document_of}
use Rattle.st_doc.proofs.Verdicts.{above_now, live_reaches}
use Rattle.st_doc.proofs.doc.Doc.is_live.Goals as goal

pub returns-then-is_same_node : goal.returns-then-is_same_node
returns-then-is_same_node c =
    let is_root = same_node-true c.args.node _ (sym c.if-is_same_node.ensures) ∙ c.root_node-root.ensures in
    (λ e. (0, ap (λ n. Some n) is_root), λ h. refl)

pub returns : goal.returns
returns c =
    let D = document_of c.args.self.now in
    let node = c.args.node in
    let apart : node ≡ root → ⊥ = λ e. let bad : true ≡ false = sym (same_node-itself node) ∙ ap (same_node node) (e ∙ sym c.root_node-root.ensures) ∙ sym c.if-is_same_node.ensures in cc in
    let live = live_reaches D node apart in
    let N = c.nothing.result in
    let targets = c.new-targets.result in
    let place = c.args.self.now.place in
    let up = above_ahead N targets place in
    let ups : up ≡ above D = λ i n. above_now D N targets place n c.nothing.ensures (ap (lookup (λ x. is_eq (node_cmp n x))) c.new-targets.ensures.empty) refl i in
    let found = c.in_ok-above.ensures c.root_node-root.result in
    let root_is = c.root_node-root.ensures in (
      λ e. live.1 (subst (λ u. Reaches u node root) ups (subst (Reaches up node) root_is (found.0 (sym c.contains.ensures ∙ e)))),
      λ h. c.contains.ensures ∙ found.1 (subst (Reaches up node) (sym root_is) (subst (λ u. Reaches u node root) (sym ups) (live.0 h))),
    )
