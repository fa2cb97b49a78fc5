use Rattle.std.proofs.Common.{◌≡◌, ◌++◌, true, map, Option, Some, None, IsSome, IfSome, refl, sym, ap, subst, ◌∙◌}
use Rattle.std.specs.BTreeMap.{BTreeMap, get}
use Rattle.std.specs.Option.{option_or}
use Rattle.st_ids.specs.Order.{node_cmp}
use Rattle.st_ids.specs.declared.names.NodeId.{NodeId}
use Rattle.st_lemmas.proofs.Options.{IfOk-along}
use Rattle.st_marks.specs.declared.marks.RegStep.{RegStep}
use Rattle.st_marks.specs.declared.places.Spot.{Spot}
use Rattle.st_marks.specs.Embedding.{is_among}
use Rattle.st_marks.specs.Listings.{nodes_loose, nodes_new, placed_before}
use Rattle.st_puts.specs.inside.First.{first_at}
use Rattle.st_puts.specs.inside.Spots.{gone_after, stands_after}
use Rattle.st_puts.proofs.ThinMarks.{same_after, same_listed}
use Rattle.st_puts.proofs.SpotsRight.{after_right, listed_told}
use Rattle.st_puts.proofs.spots.places_after.Goals as goal

if_found : (o : Option Spot) (p : Spot) → ((q : Spot) → o ≡ Some q → p ≡ q) → IfSome o (λ q. p ≡ q)
if_found None p h = tt
if_found (Some q) p h = h q refl

pub returns-clause-right : goal.returns-clause-right
returns-clause-right c = λ D E x shows.
    let S = c.args.step.now in
    IfOk-along c.spots_after.result (λ (m : BTreeMap NodeId Spot). (n : NodeId) → get node_cmp m n ≡ option_or (first_at (stands_after S) n) (first_at (gone_after S) n))
    (λ (m : BTreeMap NodeId Spot). (n : NodeId) → IfSome (get node_cmp m n) (λ q. E.place n ≡ q))
    (λ m h n. if_found (get node_cmp m n) (E.place n) (λ q e. after_right D E shows.0 x shows.1 n q (sym (h n ∙ same_after S shows.0 shows.2 n) ∙ e))) c.spots_after.ensures

pub returns-clause-listed : goal.returns-clause-listed
returns-clause-listed c = λ D E x shows.
    let S = c.args.step.now in
    IfOk-along c.spots_after.result (λ (m : BTreeMap NodeId Spot). (n : NodeId) → get node_cmp m n ≡ option_or (first_at (stands_after S) n) (first_at (gone_after S) n))
    (λ (m : BTreeMap NodeId Spot). (n : NodeId) → is_among (nodes_new S.new ++ nodes_loose S.loose ++ placed_before S.rows (map (λ (r : RegStep). r.before) S.regs)) n ≡ true → IsSome (get node_cmp m n))
    (λ m h n e. subst (λ o. IsSome o) (sym (h n ∙ same_after S shows.0 shows.2 n)) (listed_told D E shows.0 x shows.1 n (ap (λ l. is_among l n) (sym (same_listed S shows.0 shows.2)) ∙ e))) c.spots_after.ensures
