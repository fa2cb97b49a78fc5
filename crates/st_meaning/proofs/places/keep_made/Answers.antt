use Rattle.std.proofs.Common.{◌≡◌, [], ◌∷◌, ◌++◌, ◌∙◌, ◌&&◌, Option, Some, cond, unwrap_or, ap}
use Rattle.std.specs.BTreeMap.{get}
use Rattle.st_embed.proofs.Keeping.{place_eq}
use Rattle.st_ids.specs.Order.{same_node}
use Rattle.st_ids.specs.declared.names.CellId.{CellId}
use Rattle.st_ids.specs.declared.names.NodeId.{NodeId}
use Rattle.st_ids.proofs.Orders.{same_node-true}
use Rattle.st_lemmas.proofs.Bools.{and-true}
use Rattle.st_marks.specs.Intent.{same_anchor}
use Rattle.st_marks.proofs.Lookups.{anchor_is}
use Rattle.st_meaning.specs.InOrder.{place_cmp}
use Rattle.st_meaning.proofs.Loops.{pushed_at}
use Rattle.st_meaning.proofs.places.keep_made.Goals as goal

pub returns : goal.returns
returns c = λ n a.
    let row = c.args.row in
    let after = c.args.after in
    let m = c.args.cells.now in
    let made = c.args.made in
    ap (λ q. unwrap_or q []) (c.in_ok-push_at.ensures (n, a))
    ∙ ap (λ b. unwrap_or (cond b (Some (unwrap_or (get place_cmp m (row, after)) [] ++ made ∷ [])) (get place_cmp m (n, a))) []) (place_eq row n after a)
    ∙ pushed_at (get place_cmp m (row, after)) (get place_cmp m (n, a)) made (same_node row n && same_anchor after a)
    (λ t. let b = and-true _ _ t in ap (get place_cmp m) (let p : ◌≡◌ {A = NodeId × Option CellId} (row, after) (n, a) = (λ i. (same_node-true row n b.0 i, anchor_is after a b.1 i)) in p))
