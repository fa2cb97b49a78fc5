use Rattle.std.proofs.lemmas.Result.{IfOk-weaker}
use Rattle.st_marks.specs.Agree.{MadeAt}
use Rattle.st_turn_places.specs.declared.places.Placed.{Placed}
use Rattle.st_part_rings.specs.inside.Links.{AreLinks, joint_links}
use Rattle.std.proofs.Common.{map}
use Rattle.std.proofs.Common.{◌≡◌, ◌||◌, ◌∙◌, sym, subst}
use Rattle.std.specs.BTreeSet.{contains}
use Rattle.st_ids.specs.Order.{node_cmp}
use Rattle.st_marks.specs.Embedding.{is_among}
use Rattle.st_marks.specs.Listings.{listing_after_change, nodes_new}
use Rattle.st_turn_places.specs.Rules.{ArePlaces}
use Rattle.st_part_rings.proofs.LinksTold.{joint_are}
use Rattle.st_part_rings.proofs.left.links_made.Goals as goal

pub returns : goal.returns
returns c =
    let C = c.args.first.now in
    let K = c.args.then.now in
    IfOk-weaker c.links_joint.result (λ l. l ≡ joint_links (contains node_cmp c.in_ok-made.made) (is_among (map (λ (p : Placed). p.node) c.as_slice-4.result.now)) c.as_slice-3.result.now c.as_slice-4.result.now) (λ l. AreLinks l (MadeAt C K)) (λ l. joint_are C K c.as_slice-3.result.now c.as_slice-4.result.now
    (subst (λ l. ArePlaces l (listing_after_change C)) (sym c.as_slice-3.ensures) c.in_ok-left.ensures)
    (subst (λ l. ArePlaces l (listing_after_change K)) (sym c.as_slice-4.ensures) c.in_ok-left_then.ensures)
    (contains node_cmp c.in_ok-made.made)
    (λ n. c.in_ok-made.ensures n ∙ (λ i. is_among (nodes_new (c.as_slice.ensures i)) n || is_among (nodes_new (c.as_slice-2.ensures i)) n))
    l) c.links_joint.ensures
