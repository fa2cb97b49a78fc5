-- Climbing, and what stands where.
use Rattle.std.proofs.Common.{◌≡◌, ◌≢◌, ℕ, zero, suc, Bool, true, false, IsSome, Option, Some, None, refl, sym, ap, ◌∙◌, subst, inl, inr, ◌⊎◌, option_and_then}
use Rattle.st_ids.specs.declared.names.NodeId.{NodeId}
use Rattle.st_ids.specs.declared.names.CellId.{CellId}
use Rattle.st_ids.specs.Listing.{Has}
use Rattle.st_ids.specs.Order.{same_cell, same_node, same_field}
use Rattle.st_ids.proofs.Orders.{same_cell-true, same_cell-itself, same_node-true, same_node-itself, same_field-true, same_field-itself}
use Rattle.st_marks.specs.declared.places.Slot.{Slot}
use Rattle.st_marks.specs.declared.places.Spot.{Spot}
use Rattle.st_marks.proofs.Members.{map-has, has-map}
use Rattle.st_marks.specs.Document.{Document, above, node_of, climb, ClimbsToAnEnd, is_cell, slot, content, IsSoundInForm}

-- one step more, at the far end
pub climb_more : (up : NodeId → Option NodeId) (k : ℕ) (n p q : NodeId) → climb up k n ≡ Some p → up p ≡ Some q → climb up (suc k) n ≡ Some q
climb_more up zero n p q e f =
    let same : n ≡ p = cc in
    rw (same, f) refl
climb_more up (suc k) n p q e f = go (up n) refl (λ m h. climb_more up k m p q h f) e
  where
    go : (o : Option NodeId) → up n ≡ o → ((m : NodeId) → climb up k m ≡ Some p → climb up (suc k) m ≡ Some q) → option_and_then (climb up k) o ≡ Some p → option_and_then (climb up (suc k)) (up n) ≡ Some q
    go None h rest e = cc
    go (Some m) h rest e = rw h (rest m e)

pub climb_end : (up : NodeId → Option NodeId) (n : NodeId) → up n ≡ None → ClimbsToAnEnd up n
climb_end up n e = (1, rw e refl)

pub ends_above : (up : NodeId → Option NodeId) (n p : NodeId) → up n ≡ Some p → ClimbsToAnEnd up p → ClimbsToAnEnd up n
ends_above up n p e h = (suc h.0, rw e h.1)

-- two places are one, or not
pub same_spot : (s t : Spot) → (s ≡ t) ⊎ (s ≢ t)
same_spot Spot.Nowhere Spot.Nowhere = inl refl
same_spot Spot.Nowhere (Spot.Row n c) = inr (λ e. cc)
same_spot Spot.Nowhere (Spot.Register f) = inr (λ e. cc)
same_spot (Spot.Row n c) Spot.Nowhere = inr (λ e. cc)
same_spot (Spot.Row n c) (Spot.Row m d) =
    elim (same_node n m) as (λ b. same_node n m ≡ b → (Spot.Row n c ≡ Spot.Row m d) ⊎ (Spot.Row n c ≢ Spot.Row m d)) [
      | true ↦ λ e. elim (same_cell c d) as (λ b. same_cell c d ≡ b → (Spot.Row n c ≡ Spot.Row m d) ⊎ (Spot.Row n c ≢ Spot.Row m d)) [
        | true ↦ λ f. inl (let p = same_node-true n m e in let q = same_cell-true c d f in λ i. Spot.Row (p i) (q i))
        | false ↦ λ f. inr (λ g. let q : c ≡ d = cc in false-true (sym f ∙ ap (same_cell c) (sym q) ∙ same_cell-itself c))
      ] refl
      | false ↦ λ e. inr (λ g. let q : n ≡ m = cc in false-true (sym e ∙ ap (same_node n) (sym q) ∙ same_node-itself n))
    ] refl
  where
    false-true : false ≡ true → ⊥
    false-true e = cc
same_spot (Spot.Row n c) (Spot.Register f) = inr (λ e. cc)
same_spot (Spot.Register f) Spot.Nowhere = inr (λ e. cc)
same_spot (Spot.Register f) (Spot.Row n c) = inr (λ e. cc)
same_spot (Spot.Register f) (Spot.Register g) =
    elim (same_field f g) as (λ b. same_field f g ≡ b → (Spot.Register f ≡ Spot.Register g) ⊎ (Spot.Register f ≢ Spot.Register g)) [
      | true ↦ λ e. inl (ap (λ f. Spot.Register f) (same_field-true f g e))
      | false ↦ λ e. inr (λ h. let q : f ≡ g = cc in false-true (sym e ∙ ap (same_field f) (sym q) ∙ same_field-itself f))
    ] refl
  where
    false-true : false ≡ true → ⊥
    false-true e = cc

-- a node is a cell's where its place is the cell
pub is_cell-true : (c : CellId) (s : Spot) → is_cell c s ≡ true → (r : NodeId) × (s ≡ Spot.Row r c)
is_cell-true c Spot.Nowhere e = cc
is_cell-true c (Spot.Row n d) e = (n, ap (λ d. Spot.Row n d) (sym (same_cell-true c d e)))
is_cell-true c (Spot.Register f) e = cc

-- a node in a row is shown there
pub shown : (D : Document) → IsSoundInForm D → (n r : NodeId) (c : CellId) → D.place n ≡ Spot.Row r c → Has (content D r) (record { cell = c; node = n; full = true })
shown D s n r c e =
    subst (λ b. Has (content D r) (record { cell = c; node = n; full = b })) (ap (is_cell c) e ∙ same_cell-itself c)
    (map-has (slot D) (D.rows r) (record { cell = c; node = n }) (s.own_cell n r c e))

-- and what is shown full in a row stands there
pub stands : (D : Document) → IsSoundInForm D → (n r : NodeId) (c : CellId) → Has (content D r) (record { cell = c; node = n; full = true }) → D.place n ≡ Spot.Row r c
stands D s n r c h =
    let o = has-map (slot D) (D.rows r) _ h in
    let cell : o.0.cell ≡ c = ap (λ (x : Slot). x.cell) o.2 in
    let node : o.0.node ≡ n = ap (λ (x : Slot). x.node) o.2 in
    let full : is_cell o.0.cell (D.place o.0.node) ≡ true = ap (λ (x : Slot). x.full) o.2 in
    let at = is_cell-true o.0.cell (D.place o.0.node) full in
    let here = s.own_cell o.0.node at.0 o.0.cell at.1 in
    let row : D.row_of o.0.cell ≡ Some at.0 = (s.one_row o.0.cell at.0).1 (o.0.node, here) in
    let row' : D.row_of o.0.cell ≡ Some r = (s.one_row o.0.cell r).1 (o.0.node, o.1) in
    let same : at.0 ≡ r = let both : Some at.0 ≡ Some r = sym row ∙ row' in cc in
    sym (ap D.place node) ∙ at.1 ∙ (λ i. Spot.Row (same i) (cell i))

-- a node with a place is there
pub placed_known : (D : Document) → IsSoundInForm D → (n : NodeId) → D.place n ≢ Spot.Nowhere → IsSome (D.nodes n)
placed_known D s n h = go (D.place n) refl
  where
    go : (t : Spot) → D.place n ≡ t → IsSome (D.nodes n)
    go Spot.Nowhere e = absurd (h e)
    go (Spot.Row r c) e = (s.cells_known r _ (s.own_cell n r c e)).1
    go (Spot.Register f) e = (s.held_known n f ((s.one_held n f).1 e)).0

-- so is the node above another
pub above_known : (D : Document) → IsSoundInForm D → (n p : NodeId) → above D n ≡ Some p → IsSome (D.nodes p)
above_known D s n p e = go (D.place n) refl e
  where
    go : (q : Spot) → D.place n ≡ q → node_of q ≡ Some p → IsSome (D.nodes p)
    go Spot.Nowhere h e = cc
    go (Spot.Row r c) h e = let q : r ≡ p = cc in subst (λ r. IsSome (D.nodes r)) q ((s.cells_known r _ (s.own_cell n r c h)).0)
    go (Spot.Register g) h e = let q : g.node ≡ p = cc in subst (λ r. IsSome (D.nodes r)) q ((s.held_known n g ((s.one_held n g).1 h)).1)

-- a node that isn't there is nowhere
pub unknown_nowhere : (D : Document) → IsSoundInForm D → (n : NodeId) → D.nodes n ≡ None → D.place n ≡ Spot.Nowhere
unknown_nowhere D s n e = elim (same_spot (D.place n) Spot.Nowhere) [
  | inl h ↦ h
  | inr h ↦ (let there = placed_known D s n h in let bad : ◌≡◌ {A = Bool} false true = rw e at there in cc)
]
