use Rattle.std.proofs.Common.{◌≡◌, ◌∙◌}
use Rattle.std.specs.BTreeMap.{BTreeMap, get}
use Rattle.std.specs.Option.{option_or}
use Rattle.st_ids.specs.Order.{node_cmp}
use Rattle.st_ids.specs.declared.names.NodeId.{NodeId}
use Rattle.st_lemmas.proofs.Options.{IfOk-along}
use Rattle.st_marks.specs.declared.places.Spot.{Spot}
use Rattle.st_puts.specs.Mentions.{PlacesMentioned}
use Rattle.st_puts.specs.inside.First.{first_at}
use Rattle.st_puts.specs.inside.Spots.{found_before, gone_after, stands_after}
use Rattle.st_puts.proofs.ThinMarks.{same_after, same_found}
use Rattle.st_puts.proofs.SpotsRight.{beside_right}
use Rattle.st_puts.proofs.spots.places_beside.Goals as goal

pub returns : goal.returns
returns c = λ D E N x f g shows steps.
    let C = c.args.change.now in
    let S = c.args.step.now in
    IfOk-along c.spots_beside.result
    (λ (m : BTreeMap NodeId Spot). (n : NodeId) → get node_cmp m n ≡ option_or (option_or (first_at (stands_after S) n) (first_at (gone_after S) n)) (first_at (found_before C) n))
    (PlacesMentioned E N)
    (λ m h n e. beside_right D E N shows.0 steps.0 x f g shows.1 steps.1 n e (get node_cmp m n) (h n ∙ (λ i. option_or (same_after S steps.0 steps.2 n i) (first_at (same_found C shows.0 shows.2 i) n)))) c.spots_beside.ensures
