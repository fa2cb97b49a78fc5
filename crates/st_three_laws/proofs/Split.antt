-- What both steps as one mention, list and make, one of the two does.
use Rattle.std.proofs.Common.{◌≡◌, ◌⊎◌, ℕ, zero, suc, Bool, true, false, Option, Some, None, IsSome, cond, option_and_then, refl, sym, ap, ◌∙◌, subst, inl, inr}
use Rattle.std.specs.List.{list_any}
use Rattle.st_ids.specs.Listing.{Has}
use Rattle.st_ids.specs.declared.names.CellId.{CellId}
use Rattle.st_ids.specs.declared.names.NodeId.{NodeId}
use Rattle.st_lemmas.proofs.Bools.{true-false}
use Rattle.st_marks.specs.declared.marks.How.TheVariants.{Stay}
use Rattle.st_marks.specs.declared.marks.RowMarks.{RowMarks}
use Rattle.st_marks.specs.declared.places.Slot.{Slot}
use Rattle.st_marks.specs.declared.places.Spot.{Spot}
use Rattle.st_marks.specs.declared.steps.Step.{Step}
use Rattle.st_marks.specs.Document.{Document, above, climb, content, node_of, owned_cell, slot}
use Rattle.st_marks.specs.Embedding.{tells}
use Rattle.st_marks.specs.Extends.{IsExtendedBy}
use Rattle.st_marks.specs.Listings.{cells_made, nodes_new}
use Rattle.st_marks.specs.Row.{CellMark, Counted, Make, Touch, spread, step_cell, step_row}
use Rattle.st_marks.specs.Step.{IsChanged, IsMentionedByStep, IsStep}
use Rattle.st_marks.proofs.Climb.{above_known, same_spot, stands}
use Rattle.st_marks.proofs.Later.{node_later}
use Rattle.st_marks.proofs.Members.{any-has, flat_map-has, map-has}
use Rattle.st_normal.specs.Rules.{in_rows}
use Rattle.st_puts.proofs.StepPlaces.{cells-once, empty-not, row-look}
use Rattle.st_puts.proofs.StepRows.{MarkOf, make-step, mark-of, of_gained, of_kept}
use Rattle.st_normal_step_laws.proofs.SoundLater.{makes-cell}
use Rattle.st_normal_step_laws.proofs.StepsFind.{finds_what_is_so}
use Rattle.st_three_laws.proofs.NextOver.{gained-new, lacks-or-knows, made-from, made-to, new-known}
use Rattle.st_three_laws.proofs.NextRows.{as-slot, same-slot, unmentioned}
use Rattle.st_three_laws.proofs.RowsTold.{untold-row}

module _ (D E F : Document) (a b u : Step) (x : IsExtendedBy D E) (y : IsExtendedBy E F) (z : IsExtendedBy D F) (s : IsStep D E a) (t : IsStep E F b) (w : IsStep D F u) where
  module _ (n : NodeId) (unnamed : IsMentionedByStep D E n → ⊥) where
    way-up : (k : ℕ) (r : NodeId) → IsSome (D.nodes r) → climb (above D) k r ≡ Some n → climb (above E) k r ≡ Some n
    way-up zero r known at = at
    way-up (suc k) r known at = elim (same_spot (D.place r) (E.place r)) [
      | inr h ↦ absurd (unnamed (r, (known, inl h), suc k, at))
      | inl h ↦ go (above D r) refl (ap node_of (sym h)) at (λ q up there. way-up k q (above_known D x.before r q up) there)
    ]
      where
        go : (o : Option NodeId) → above D r ≡ o → above E r ≡ above D r → option_and_then (climb (above D) k) o ≡ Some n → ((q : NodeId) → above D r ≡ Some q → climb (above D) k q ≡ Some n → climb (above E) k q ≡ Some n) → option_and_then (climb (above E) k) (above E r) ≡ Some n
        go None e same at rest = cc
        go (Some q) e same at rest = ap (option_and_then (climb (above E) k)) (same ∙ e) ∙ rest q e at

    then-changed : (r : NodeId) (k : ℕ) → climb (above D) k r ≡ Some n → IsChanged D F r → IsChanged E F r
    then-changed r k at (known, inl w) = (node_later D E x r known, inl (λ e. unnamed (r, (known, inl (λ z. w (z ∙ e))), k, at)))
    then-changed r k at (known, inr (inl w)) = (node_later D E x r known, inr (inl (λ e. unnamed (r, (known, inr (inl (λ z. w (z ∙ e)))), k, at))))
    then-changed r k at (known, inr (inr w)) = (node_later D E x r known, inr (inr (w.0, w.1, λ e. unnamed (r, (known, inr (inr (w.0, w.1, λ z. w.2 (z ∙ e)))), k, at))))

    second-names : IsMentionedByStep D F n → IsMentionedByStep E F n
    second-names m = (m.0, then-changed m.0 m.2 m.3 m.1, m.2, way-up m.2 m.0 m.1.0 m.3)

  pub mention-split : (n : NodeId) → w.mentioned n ≡ true → (s.mentioned n ≡ true) ⊎ (t.mentioned n ≡ true)
  mention-split n h = go (s.mentioned n) refl
    where
      go : (c : Bool) → s.mentioned n ≡ c → (s.mentioned n ≡ true) ⊎ (t.mentioned n ≡ true)
      go true e = inl e
      go false e = inr ((t.which n).1 (second-names n (λ m. true-false ((s.which n).1 m) e) ((w.which n).0 h)))

  pub row-split : (k : NodeId) → list_any tells (step_row w.mentioned (w.grows k)) ≡ true → list_any tells (step_row s.mentioned (s.grows k)) ≡ false → list_any tells (step_row t.mentioned (t.grows k)) ≡ false → ⊥
  row-split k e none neither = let r = any-has tells (step_row w.mentioned (w.grows k)) e in at r.0 r.2 (mark-of w.mentioned (w.grows k) (cells-once D F u z w k) r.0 r.1)
    where
      first : content D k ≡ content E k
      first = untold-row s.mentioned (s.grows k) none

      back : content F k ≡ content D k
      back = sym (first ∙ untold-row t.mentioned (t.grows k) neither)

      at : (m : CellMark) → tells m ≡ true → MarkOf w.mentioned (content D k) (content F k) m → ⊥
      at m told (of_gained q i fresh f) = fresh (map-has (λ (t : Slot). t.cell) (content D k) q (subst (λ c. Has c q) back i))
      at m told (of_kept v q h i same f) = go v.full q.full refl refl
        where
          mark : (c d : Bool) → v.full ≡ c → q.full ≡ d → tells (step_cell w.mentioned v.cell v.node c d) ≡ true
          mark c d g j = ap tells ((λ i. step_cell w.mentioned v.cell v.node (sym g i) (sym j i)) ∙ f) ∙ told

          full-place : (r : Slot) → Has (content D k) r → r.full ≡ true → D.place r.node ≡ Spot.Row k r.cell
          full-place r h g = stands D x.before r.node k r.cell (as-slot (content D k) r true g h)

          counted : (n : Bool) → w.mentioned v.node ≡ n → v.full ≡ true → tells (cond n (Touch v.cell v.node Stay) Counted) ≡ true → ⊥
          counted false e g j = true-false j refl
          counted true e g j = elim (mention-split v.node e) [
            | inl m ↦ unmentioned D E a x s k none v h g m
            | inr m ↦ unmentioned E F b y t k neither v (subst (λ c. Has c v) first h) g m
          ]

          go : (c d : Bool) → v.full ≡ c → q.full ≡ d → ⊥
          go true true g j = counted (w.mentioned v.node) refl g (mark true true g j)
          go true false g j = empty-not D v.node k v.cell (same-slot (content D k) v q false same j (subst (λ c. Has c q) back i)) (full-place v h g)
          go false true g j = empty-not D v.node k v.cell (as-slot (content D k) v false g h) (ap D.place same.1 ∙ full-place q (subst (λ c. Has c q) back i) j ∙ ap (Spot.Row k) (sym same.0))
          go false false g j = true-false (mark false false g j) refl

  pub new-split : (n : NodeId) → Has (nodes_new u.new) n → Has (nodes_new a.new) n ⊎ Has (nodes_new b.new) n
  new-split n h = elim (lacks-or-knows E n) [
    | inl e ↦ inr (gained-new E F b t n e (new-known D F u w n h))
    | inr e ↦ inl (gained-new D E a s n ((finds_what_is_so D F u z w).new_nodes n h) e)
  ]

  pub cells-split : (c : CellId) → Has (in_rows cells_made u.rows) c → Has (in_rows cells_made a.rows) c ⊎ Has (in_rows cells_made b.rows) c
  cells-split c h = go (E.row_of c) refl
    where
      none : D.row_of c ≡ None
      none = (finds_what_is_so D F u z w).new_cells c h

      makes : (S : Step) (q : RowMarks) (n : NodeId) (v : Bool) → Has S.rows q → Has (spread q.marks) (Make c n v) → Has (in_rows cells_made S.rows) c
      makes S q n v i j = flat_map-has (λ (r : RowMarks). cells_made (spread r.marks)) S.rows q c i (makes-cell (spread q.marks) c n v j)

      go : (o : Option NodeId) → E.row_of c ≡ o → Has (in_rows cells_made a.rows) c ⊎ Has (in_rows cells_made b.rows) c
      go None e =
          let m = made-from u c h in
          let there = make-step w.mentioned (w.grows m.0.node) (cells-once D F u z w m.0.node) c m.1 m.2 (subst (λ ms. Has ms (Make c m.1 m.2)) (row-look D F u z w m.0 m.3).0 m.4) in
          let q = made-to E F b y t m.0.node c m.1 m.2 there.0 e in
          inr (makes b q.0 m.1 m.2 q.1 q.2)
      go (Some k) e =
          let o = (x.after.one_row c k).0 e in
          let there = map-has (slot E) (E.rows k) (owned_cell c o.0) o.1 in
          let q = made-to D E a x s k c o.0 (slot E (owned_cell c o.0)).full there none in
          inl (makes a q.0 o.0 (slot E (owned_cell c o.0)).full q.1 q.2)
