-- Two places are the same where the test tells it.
use Rattle.std.proofs.Common.{◌≡◌, true, ap, refl}
use Rattle.st_ids.specs.Order.{same_cell, same_node}
use Rattle.st_ids.proofs.Orders.{same_cell-itself, same_cell-true, same_field-itself, same_field-true, same_node-itself, same_node-true}
use Rattle.st_lemmas.proofs.Bools.{and-both, and-true}
use Rattle.st_marks.specs.declared.places.Spot.{Spot}
use Rattle.st_step.specs.inside.Marks.{same_spot}

pub spot-itself : (a : Spot) → same_spot a a ≡ true
spot-itself Spot.Nowhere = refl
spot-itself (Spot.Row n c) = and-both (same_node n n) (same_cell c c) (same_node-itself n) (same_cell-itself c)
spot-itself (Spot.Register f) = same_field-itself f

pub spot-true : (a b : Spot) → same_spot a b ≡ true → a ≡ b
spot-true Spot.Nowhere Spot.Nowhere e = refl
spot-true Spot.Nowhere (Spot.Row n d) e = cc
spot-true Spot.Nowhere (Spot.Register g) e = cc
spot-true (Spot.Row m c) Spot.Nowhere e = cc
spot-true (Spot.Row m c) (Spot.Row n d) e =
    let parts = and-true (same_node m n) (same_cell c d) e in
    let p : m ≡ n = same_node-true m n parts.0 in
    let q : c ≡ d = same_cell-true c d parts.1 in
    λ i. Spot.Row (p i) (q i)
spot-true (Spot.Row m c) (Spot.Register g) e = cc
spot-true (Spot.Register f) Spot.Nowhere e = cc
spot-true (Spot.Register f) (Spot.Row n d) e = cc
spot-true (Spot.Register f) (Spot.Register g) e = ap (λ x. Spot.Register x) (same_field-true f g e)
