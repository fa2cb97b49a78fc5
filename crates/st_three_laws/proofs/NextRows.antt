-- Where one step tells nothing of a row; and which rows the second of two steps lists.
use Rattle.std.proofs.Common.{◌≡◌, ◌⊎◌, Bool, true, false, List, IsSome, cond, refl, sym, ap, ◌∙◌, subst, inl, inr}
use Rattle.std.specs.List.{list_any}
use Rattle.st_ids.specs.Listing.{Has}
use Rattle.st_ids.specs.declared.names.NodeId.{NodeId}
use Rattle.st_lemmas.proofs.Bools.{true-false}
use Rattle.st_lemmas.proofs.Options.{None-IsSome}
use Rattle.st_marks.specs.declared.marks.How.TheVariants.{Stay, Leave}
use Rattle.st_marks.specs.declared.places.Slot.{Slot}
use Rattle.st_marks.specs.declared.places.Spot.{Spot}
use Rattle.st_marks.specs.declared.steps.Step.{Step}
use Rattle.st_marks.specs.Document.{Document, content}
use Rattle.st_marks.specs.Embedding.{tells}
use Rattle.st_marks.specs.Extends.{IsExtendedBy}
use Rattle.st_marks.specs.Row.{CellMark, Counted, Touch, Fill, SameCell, step_cell, step_row}
use Rattle.st_marks.specs.Step.{IsStep}
use Rattle.st_marks.proofs.Climb.{stands}
use Rattle.st_marks.proofs.Members.{any-has, has-any, map-has}
use Rattle.st_puts.proofs.StepPlaces.{cells-once, empty-not, slot-known, touched-as}
use Rattle.st_puts.proofs.StepRows.{IsKept, MarkOf, cell_with, kept-mark, mark-of, of_gained, of_kept}
use Rattle.st_three_laws.proofs.RowsTold.{untold-row}
use Rattle.st_three_laws.proofs.Touched.{mentioned_touched}

-- a cell by its parts
pub as-slot : (c : List Slot) (v : Slot) (b : Bool) → v.full ≡ b → Has c v → Has c (cell_with v.cell v.node b)
as-slot c v b f h = subst (Has c) (λ i. record { cell = v.cell; node = v.node; full = f i }) h

-- one that is the same, by the parts of the other
pub same-slot : (c : List Slot) (v q : Slot) (b : Bool) → SameCell v q → q.full ≡ b → Has c q → Has c (cell_with v.cell v.node b)
same-slot c v q b same f h = subst (Has c) (λ i. record { cell = sym same.0 i; node = sym same.1 i; full = f i }) h

-- ## A row of which a step tells nothing

module _ (A B : Document) (S : Step) (e : IsExtendedBy A B) (q : IsStep A B S) (k : NodeId) (none : list_any tells (step_row q.mentioned (q.grows k)) ≡ false) where
  silent : (y : CellMark) → Has (step_row q.mentioned (q.grows k)) y → tells y ≡ true → ⊥
  silent y h t = true-false (has-any tells (step_row q.mentioned (q.grows k)) y h t) none

  pub unmentioned : (v : Slot) → Has (content A k) v → v.full ≡ true → q.mentioned v.node ≡ true → ⊥
  unmentioned v h f m = elim (touched-as A B S e q v.node k v.cell m (stands A e.before v.node k v.cell (as-slot (content A k) v true f h))) [
    | inl j ↦ silent (Touch v.cell v.node Stay) j.1 refl
    | inr j ↦ silent (Touch v.cell v.node Leave) j.1 refl
  ]

  pub unfilled : (v : Slot) → Has (content A k) v → v.full ≡ false → B.place v.node ≡ Spot.Row k v.cell → ⊥
  unfilled v h f p = go kept.slot.full refl
    where
      kept : IsKept q.mentioned (q.grows k) v
      kept = kept-mark q.mentioned (q.grows k) v h

      go : (b : Bool) → kept.slot.full ≡ b → ⊥
      go true g = silent (Fill v.cell v.node) (subst (Has (step_row q.mentioned (q.grows k))) (λ i. step_cell q.mentioned v.cell v.node (f i) (g i)) kept.mark) refl
      go false g = empty-not B v.node k v.cell (same-slot (content B k) v kept.slot false kept.same g kept.there) p

-- ## Which rows the second lists

module _ (D E F : Document) (a b u : Step) (x : IsExtendedBy D E) (y : IsExtendedBy E F) (z : IsExtendedBy D F) (s : IsStep D E a) (t : IsStep E F b) (w : IsStep D F u) (k : NodeId) where
  -- one that is there is mentioned by the first, or by both as one
  pub known-touched : (n : NodeId) → IsSome (D.nodes n) → t.mentioned n ≡ true → (s.mentioned n ≡ true) ⊎ (w.mentioned n ≡ true)
  known-touched n h m = elim (mentioned_touched D E F a b u x y z s t w n m) [ inl e ↦ absurd (None-IsSome (D.nodes n) e h) | inr r ↦ r ]

  -- a row that the second lists is listed by the first, or by both as one
  pub row-listed_before : list_any tells (step_row t.mentioned (t.grows k)) ≡ true → list_any tells (step_row s.mentioned (s.grows k)) ≡ false → list_any tells (step_row w.mentioned (w.grows k)) ≡ false → ⊥
  row-listed_before e none neither = let r = any-has tells (step_row t.mentioned (t.grows k)) e in at r.0 r.2 (mark-of t.mentioned (t.grows k) (cells-once E F b y t k) r.0 r.1)
    where
      first : content D k ≡ content E k
      first = untold-row s.mentioned (s.grows k) none

      both : content D k ≡ content F k
      both = untold-row w.mentioned (w.grows k) neither

      later : content F k ≡ content E k
      later = sym both ∙ first

      at : (m : CellMark) → tells m ≡ true → MarkOf t.mentioned (content E k) (content F k) m → ⊥
      at m told (of_gained q i fresh f) = fresh (map-has (λ (t : Slot). t.cell) (content E k) q (subst (λ c. Has c q) later i))
      at m told (of_kept v q h i same f) = go v.full q.full refl refl
        where
          mark : (c d : Bool) → v.full ≡ c → q.full ≡ d → tells (step_cell t.mentioned v.cell v.node c d) ≡ true
          mark c d g j = ap tells ((λ i. step_cell t.mentioned v.cell v.node (sym g i) (sym j i)) ∙ f) ∙ told

          full-place : (r : Slot) → Has (content E k) r → r.full ≡ true → E.place r.node ≡ Spot.Row k r.cell
          full-place r h g = stands E x.after r.node k r.cell (as-slot (content E k) r true g h)

          counted : (n : Bool) → t.mentioned v.node ≡ n → v.full ≡ true → tells (cond n (Touch v.cell v.node Stay) Counted) ≡ true → ⊥
          counted false e g j = true-false j refl
          counted true e g j =
              let there : Has (content D k) v = subst (λ c. Has c v) (sym first) h in
              elim (known-touched v.node (slot-known D x.before k v there).1 e) [
                | inl m ↦ unmentioned D E a x s k none v there g m
                | inr m ↦ unmentioned D F u z w k neither v there g m
              ]

          go : (c d : Bool) → v.full ≡ c → q.full ≡ d → ⊥
          go true true g j = counted (t.mentioned v.node) refl g (mark true true g j)
          go true false g j = empty-not E v.node k v.cell (same-slot (content E k) v q false same j (subst (λ c. Has c q) later i)) (full-place v h g)
          go false true g j = empty-not E v.node k v.cell (as-slot (content E k) v false g h) (ap E.place same.1 ∙ full-place q (subst (λ c. Has c q) later i) j ∙ ap (Spot.Row k) (sym same.0))
          go false false g j = true-false (mark false false g j) refl
