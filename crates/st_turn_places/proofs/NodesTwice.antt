-- Nodes that stand twice.
use Rattle.std.proofs.Common.{◌≡◌, ◌≢◌, ◌<◌, ◌≤◌, ◌+◌, ℕ, zero, suc, Bool, true, false, cond, List, [], ◌∷◌, ◌++◌, length, take, get_or, slice_get, Option, Some, None, MatchOption, ◌↔◌, refl, sym, ap, ◌∙◌, subst, inl, inr, ◌⊎◌}
use Rattle.std.specs.Ordering.{is_eq}
use Rattle.std.proofs.lemmas.List.{take_all}
use Rattle.st_ids.specs.Listing.{Has}
use Rattle.st_ids.specs.Order.{node_cmp, same_cell, same_node}
use Rattle.st_ids.specs.declared.names.FieldId.{FieldId}
use Rattle.st_ids.specs.declared.names.NodeId.{NodeId}
use Rattle.st_ids.proofs.Orders.{is_eq_equal, node_cmp_exact, same_cell-itself, same_cell-true, same_field-itself, same_field-true, same_node-itself, same_node-true}
use Rattle.st_lemmas.proofs.FirstItems.{take_one}
use Rattle.st_lemmas.proofs.Bools.{and-both, and-true, true-false}
use Rattle.st_marks.specs.declared.places.Spot.{Spot}
use Rattle.st_marks.specs.Agree.{field_of, row_field}
use Rattle.st_marks.specs.Listings.{Listing, Places}
use Rattle.st_marks.proofs.Members.{append_left, append_right, flat_map-has, has-append, has-flat_map}
use Rattle.st_turn_places.specs.declared.places.Placed.{Placed}
use Rattle.st_turn_places.specs.inside.Sides.{IsTable}
use Rattle.st_turn_places.specs.inside.Twice.{apart_fields, fields_of, found_twice, looked_up, same_spot}
use Rattle.st_turn_places.specs.Rules.{ArePlaces, IsPlacedOnce, NodesTwice}
use Rattle.st_clash.specs.Adds.{Adds}
use Rattle.st_clash.proofs.LeastFields.{there}

-- ## The table

-- a table of so many placements
abbrev pub IsTableTo : List Placed → ℕ → (NodeId → Option ℕ) → Type 0
IsTableTo ps i at = (n : NodeId) → MatchOption (at n) ((p : Placed) → Has (take i ps) p → p.node ≢ n) (λ j. (p : Placed) × (slice_get ps j ≡ Some p) × (p.node ≡ n))

pub no_table : (ps : List Placed) (at : NodeId → Option ℕ) → ((n : NodeId) → at n ≡ None) → IsTableTo ps 0 at
no_table ps at none n = subst (λ o. MatchOption o ((p : Placed) → Has [] p → p.node ≢ n) (λ j. (p : Placed) × (slice_get ps j ≡ Some p) × (p.node ≡ n))) (sym (none n)) (λ p h. absurd h)

pub table_more : (ps : List Placed) (i : ℕ) (d : Placed) (before now : NodeId → Option ℕ) → i < length ps → ((n : NodeId) → now n ≡ cond (is_eq (node_cmp (get_or ps i d).node n)) (Some i) (before n)) → IsTableTo ps i before → IsTableTo ps (i + 1) now
unfolding same_node
table_more ps i d before now inside more so_far n = go (is_eq (node_cmp (get_or ps i d).node n)) refl (before n) refl
  where
    Told : Option ℕ → Type 0
    Told o = MatchOption o ((p : Placed) → Has (take (i + 1) ps) p → p.node ≢ n) (λ j. (p : Placed) × (slice_get ps j ≡ Some p) × (p.node ≡ n))

    go : (b : Bool) → is_eq (node_cmp (get_or ps i d).node n) ≡ b → (o : Option ℕ) → before n ≡ o → Told (now n)
    go true e o f =
        let x = there ps i inside in
        let same : (get_or ps i d).node ≡ n = node_cmp_exact (get_or ps i d).node n (is_eq_equal _ e) in
        subst Told (sym (more n ∙ ap (λ b. cond b (Some i) (before n)) e)) (x.0, x.1, ap (λ (p : Placed). p.node) (sym (x.3 d)) ∙ same)
    go false e (Some j) f = subst Told (sym (more n ∙ ap (λ b. cond b (Some i) (before n)) e ∙ f)) (subst (λ o. MatchOption o ((p : Placed) → Has (take i ps) p → p.node ≢ n) (λ j. (p : Placed) × (slice_get ps j ≡ Some p) × (p.node ≡ n))) f (so_far n))
    go false e None f = subst Told (sym (more n ∙ ap (λ b. cond b (Some i) (before n)) e ∙ f)) (λ p h. elim (has-append (take i ps) (get_or ps i d ∷ []) p (subst (λ l. Has l p) (take_one ps i d (get_or ps i d) inside refl) h)) [
      | inl k ↦ subst (λ o. MatchOption o ((p : Placed) → Has (take i ps) p → p.node ≢ n) (λ j. (p : Placed) × (slice_get ps j ≡ Some p) × (p.node ≡ n))) f (so_far n) p k
      | inr k ↦ elim k [ inl q ↦ (λ z. apart (ap (λ (r : Placed). r.node) q ∙ z)) | inr w ↦ absurd w ]
    ])
      where
        apart : (get_or ps i d).node ≡ n → ⊥
        apart z = let bad : true ≡ false = sym (same_node-itself n) ∙ ap (λ k. is_eq (node_cmp k n)) (sym z) ∙ e in cc

pub whole_table : (ps : List Placed) (i : ℕ) (at : NodeId → Option ℕ) → length ps ≤ i → IsTableTo ps i at → IsTable ps at
whole_table ps i at l t n = subst (λ xs. MatchOption (at n) ((p : Placed) → Has xs p → p.node ≢ n) (λ j. (p : Placed) × (slice_get ps j ≡ Some p) × (p.node ≡ n))) (take_all i ps l) (t n)

-- ## Places

pub get-has : {A : Type 0} (xs : List A) (i : ℕ) (x : A) → slice_get xs i ≡ Some x → Has xs x
get-has [] i x e = cc
get-has (y ∷ ys) zero x e = inl (let q : y ≡ x = cc in q)
get-has (y ∷ ys) (suc i) x e = inr (get-has ys i x e)

spot-itself : (a : Spot) → same_spot a a ≡ true
spot-itself Spot.Nowhere = refl
spot-itself (Spot.Row n c) = and-both (same_node n n) (same_cell c c) (same_node-itself n) (same_cell-itself c)
spot-itself (Spot.Register f) = same_field-itself f

spot-true : (a b : Spot) → same_spot a b ≡ true → a ≡ b
spot-true Spot.Nowhere Spot.Nowhere e = refl
spot-true Spot.Nowhere (Spot.Row n d) e = cc
spot-true Spot.Nowhere (Spot.Register g) e = cc
spot-true (Spot.Row m c) Spot.Nowhere e = cc
spot-true (Spot.Row m c) (Spot.Row n d) e =
    let parts = and-true (same_node m n) (same_cell c d) e in
    let p : m ≡ n = same_node-true m n parts.0 in
    let q : c ≡ d = same_cell-true c d parts.1 in
    λ i. Spot.Row (p i) (q i)
spot-true (Spot.Row m c) (Spot.Register g) e = cc
spot-true (Spot.Register f) Spot.Nowhere e = cc
spot-true (Spot.Register f) (Spot.Row n d) e = cc
spot-true (Spot.Register f) (Spot.Register g) e = ap (λ x. Spot.Register x) (same_field-true f g e)

field_told : (s : Spot) (f : FieldId) → Has (fields_of s) f ↔ (field_of s ≡ Some f)
field_told Spot.Nowhere f = (λ h. absurd h, λ e. cc)
field_told (Spot.Row n c) f = (λ h. elim h [ inl e ↦ ap (λ z. Some z) e | inr w ↦ absurd w ], λ e. inl (let q : row_field n ≡ f = cc in q))
field_told (Spot.Register g) f = (λ h. elim h [ inl e ↦ ap (λ z. Some z) e | inr w ↦ absurd w ], λ e. inl (let q : g ≡ f = cc in q))

module _ (L M : Listing) (ps qs : List Placed) (at : NodeId → Option ℕ) (mine : ArePlaces ps L) (theirs : ArePlaces qs M) (table : IsTable qs at) where
  apart : (p q : Placed) (b : Bool) → same_spot p.spot q.spot ≡ b → (f : FieldId) → Has (apart_fields p (Some q)) f → (p.spot ≢ q.spot) × ((field_of p.spot ≡ Some f) ⊎ (field_of q.spot ≡ Some f))
  apart p q true e f h = absurd (subst (λ b. Has (cond b [] (fields_of p.spot ++ fields_of q.spot)) f) e h)
  apart p q false e f h = (
    λ z. true-false (subst (λ t. same_spot p.spot t ≡ true) z (spot-itself p.spot)) e,
    elim (has-append (fields_of p.spot) (fields_of q.spot) f (subst (λ b. Has (cond b [] (fields_of p.spot ++ fields_of q.spot)) f) e h)) [
      | inl k ↦ inl ((field_told p.spot f).0 k)
      | inr k ↦ inr ((field_told q.spot f).0 k)
    ],
  )

  told_apart : (p q : Placed) (b : Bool) → same_spot p.spot q.spot ≡ b → (f : FieldId) → p.spot ≢ q.spot → (field_of p.spot ≡ Some f) ⊎ (field_of q.spot ≡ Some f) → Has (apart_fields p (Some q)) f
  told_apart p q true e f z w = absurd (z (spot-true p.spot q.spot e))
  told_apart p q false e f z w = subst (λ b. Has (cond b [] (fields_of p.spot ++ fields_of q.spot)) f) (sym e) (elim w [
    | inl k ↦ append_left (fields_of p.spot) (fields_of q.spot) f ((field_told p.spot f).1 k)
    | inr k ↦ append_right (fields_of p.spot) (fields_of q.spot) f ((field_told q.spot f).1 k)
  ])

  abbrev Told : NodeId → Option ℕ → Type 0
  Told n o = MatchOption o ((p : Placed) → Has qs p → p.node ≢ n) (λ i. (p : Placed) × (slice_get qs i ≡ Some p) × (p.node ≡ n))

  other : (p : Placed) (f : FieldId) (o : Option ℕ) → Told p.node o → Has (apart_fields p (looked_up qs o)) f → (q : Placed) × Has qs q × (q.node ≡ p.node) × Has (apart_fields p (Some q)) f
  other p f None t h = absurd h
  other p f (Some i) t h = (t.0, get-has qs i t.0 t.1, t.2, subst (λ z. Has (apart_fields p z) f) t.1 h)

  other_back : (p q : Placed) (f : FieldId) (o : Option ℕ) → Told p.node o → Has qs q → q.node ≡ p.node → ((r : Placed) → Has qs r → r.node ≡ p.node → Has (apart_fields p (Some r)) f) → Has (apart_fields p (looked_up qs o)) f
  other_back p q f None t h e all = absurd (t q h e)
  other_back p q f (Some i) t h e all = subst (λ z. Has (apart_fields p z) f) (sym t.1) (all t.0 (get-has qs i t.0 t.1) t.2)

  twice_told : (f : FieldId) → Has (found_twice ps qs at) f → NodesTwice L M f
  twice_told f h =
      let r = has-flat_map (λ (p : Placed). apart_fields p (looked_up qs (at p.node))) ps f h in
      let q = other r.0 f (at r.0.node) (table r.0.node) r.2 in
      let a = apart r.0 q.0 (same_spot r.0.spot q.0.spot) refl f q.3 in
      (r.0.node, r.0.spot, q.0.spot, (mine r.0).0 r.1, subst (λ n. Places M n q.0.spot) q.2 ((theirs q.0).0 q.1), a.0, a.1)

  told_twice : IsPlacedOnce M → (f : FieldId) → NodesTwice L M f → Has (found_twice ps qs at) f
  told_twice once f d =
      let n = d.0 in
      let p : Placed = record { node = d.0; spot = d.1 } in
      let q : Placed = record { node = d.0; spot = d.2 } in
      flat_map-has (λ (p : Placed). apart_fields p (looked_up qs (at p.node))) ps p f ((mine p).1 d.3)
      (other_back p q f (at d.0) (table d.0) ((theirs q).1 d.4) refl (λ r h e.
      let same : r.spot ≡ d.2 = once d.0 r.spot d.2 (subst (λ k. Places M k r.spot) e ((theirs r).0 h)) d.4 in
      told_apart p r (same_spot d.1 r.spot) refl f (λ z. d.5 (z ∙ same)) (elim d.6 [ inl k ↦ inl k | inr k ↦ inr (ap field_of same ∙ k) ])))

  pub twice_added : (old new : List FieldId) → new ≡ old ++ found_twice ps qs at → Adds old new (NodesTwice L M) (IsPlacedOnce M)
  twice_added old new e = (found_twice ps qs at, e, twice_told, told_twice)
