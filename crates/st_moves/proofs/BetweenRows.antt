-- What the rows and registers of the document between hold.
use Rattle.std.proofs.Common.{◌≡◌, Bool, true, false, ◌&&◌, List, [], ◌∷◌, map, Option, Some, None, cond, if◌then◌else◌, refl, sym, ap, ◌∙◌, subst}
use Rattle.std.specs.List.{AllByRecursion}
use Rattle.st_ids.specs.Listing.{Has}
use Rattle.st_ids.specs.declared.names.CellId.{CellId}
use Rattle.st_ids.specs.declared.names.NodeId.{NodeId}
use Rattle.st_marks.specs.declared.intents.Owned.{Owned}
use Rattle.st_marks.specs.declared.places.Slot.{Slot}
use Rattle.st_marks.specs.declared.places.Spot.{Spot}
use Rattle.st_marks.specs.Document.{Document, content, is_cell, owned_cell, slot}
use Rattle.st_marks.specs.Extends.{IsExtendedBy, GainsItems, no_more, item_gained, item_kept}
use Rattle.st_marks.specs.Register.{holds_mentioned}
use Rattle.st_marks.specs.Row.{SameCell}
use Rattle.st_marks.proofs.Climb.{is_cell-true}
use Rattle.st_marks.proofs.Later.{has_later}
use Rattle.st_marks.proofs.Members.{has-map}
use Rattle.st_marks.proofs.Unique.{distinct_content}
use Rattle.st_rows.proofs.GainedCells.{AllGained, cell_there, gained_new, weaker}
use Rattle.st_rows.specs.Sequence.{cells_of}
use Rattle.st_moves.specs.Between.{between, unless_taken}
use Rattle.st_moves.specs.Carried.{row_between}
use Rattle.st_moves.proofs.BetweenSound.{place_named, place_other}

-- the slot as another document has it
abbrev refit : Document → Slot → Slot
refit B y = record { cell = y.cell; node = y.node; full = is_cell y.cell (B.place y.node) }

abbrev IsOf : Document → Slot → Type 0
IsOf D s = s.full ≡ is_cell s.cell (D.place s.node)

module _ (D E : Document) (m : NodeId → Bool) (x : IsExtendedBy D E) where
  abbrev B : Document
  B = between m D E

  cell_kept : (a : CellId) (s : Spot) → is_cell a (unless_taken m E s) ≡ is_cell a s
  cell_kept a Spot.Nowhere = refl
  cell_kept a (Spot.Row n c) = refl
  cell_kept a (Spot.Register f) = elim (holds_mentioned m (E.held f)) as (λ b. is_cell a (cond b Spot.Nowhere (Spot.Register f)) ≡ false) [ true ↦ refl | false ↦ refl ]

  kept_full : (s t : Slot) → SameCell s t → IsOf D s → IsOf E t → (if m t.node then t.full else s.full) ≡ is_cell t.cell (B.place t.node)
  kept_full s t a f g = elim (m t.node) as (λ b. m t.node ≡ b → cond b t.full s.full ≡ is_cell t.cell (B.place t.node)) [
    | true ↦ (λ e. g ∙ ap (is_cell t.cell) (sym (place_named D E m t.node e)))
    | false ↦ (λ e. f ∙ (λ i. is_cell (a.0 i) (D.place (a.1 i))) ∙ sym (cell_kept t.cell (D.place t.node)) ∙ ap (is_cell t.cell) (sym (place_other D E m t.node e)))
  ] refl

  and_true : (b : Bool) → (b && true) ≡ b
  and_true true = refl
  and_true false = refl

  and_false : (b : Bool) → (b && false) ≡ false
  and_false true = refl
  and_false false = refl

  gained_full : (t : Slot) → (is_cell t.cell (D.place t.node) ≡ false) → IsOf E t → (t.full && m t.node) ≡ is_cell t.cell (B.place t.node)
  gained_full t f g = elim (m t.node) as (λ b. m t.node ≡ b → (t.full && b) ≡ is_cell t.cell (B.place t.node)) [
    | true ↦ (λ e. and_true t.full ∙ g ∙ ap (is_cell t.cell) (sym (place_named D E m t.node e)))
    | false ↦ (λ e. and_false t.full ∙ sym f ∙ sym (cell_kept t.cell (D.place t.node)) ∙ ap (is_cell t.cell) (sym (place_other D E m t.node e)))
  ] refl

  refitted : {c d : List Slot} (g : GainsItems SameCell c d) → AllByRecursion (IsOf D) c → AllByRecursion (IsOf E) d → AllGained (λ t. is_cell t.cell (D.place t.node) ≡ false) g → row_between m g ≡ map (refit B) d
  refitted no_more p q h = refl
  refitted (item_gained {y = t} g) p q h = λ i. record t { full = gained_full t h.0 q.0 i } ∷ refitted g p q.1 h.1 i
  refitted (item_kept {x = s} {y = t} a g) p q h = λ i. record t { full = kept_full s t a p.0 q.0 i } ∷ refitted g p.1 q.1 h i

  all_of : (C : Document) (os : List Owned) → AllByRecursion (IsOf C) (map (slot C) os)
  all_of C [] = tt
  all_of C (o ∷ os) = (refl, all_of C os)

  refit_all : (os : List Owned) → map (refit B) (map (slot E) os) ≡ map (slot B) os
  refit_all [] = refl
  refit_all (o ∷ os) = ap (λ l. slot B o ∷ l) (refit_all os)

  node_in : {y z : NodeId} → ◌≡◌ {A = Option NodeId} (Some y) (Some z) → y ≡ z
  node_in {y} e = ap at e
    where
      at : Option NodeId → NodeId
      at None = y
      at (Some d) = d

  -- a cell that only E's row has is nobody's place in D
  not_there : (n : NodeId) (t : Slot) → (Has (cells_of (content D n)) t.cell → ⊥) × Has (content E n) t → is_cell t.cell (D.place t.node) ≡ false
  not_there n t p = elim (is_cell t.cell (D.place t.node)) as (λ b. is_cell t.cell (D.place t.node) ≡ b → b ≡ false) [
    | true ↦ (λ e.
        let r = is_cell-true t.cell (D.place t.node) e in
        let own = x.before.own_cell t.node r.0 t.cell r.1 in
        let later = has_later (x.rows r.0) (owned_cell t.cell t.node) own in
        let o = has-map (slot E) (E.rows n) t p.1 in
        let there : E.row_of t.cell ≡ Some n = (x.after.one_row t.cell n).1 (o.0.node, subst (λ a. Has (E.rows n) (owned_cell a o.0.node)) (ap (λ (s : Slot). s.cell) o.2) o.1) in
        let row : r.0 ≡ n = node_in (sym ((x.after.one_row t.cell r.0).1 (t.node, later)) ∙ there) in
        absurd (p.0 (subst (λ k. Has (cells_of (content D k)) t.cell) row (cell_there D r.0 (owned_cell t.cell t.node) own))))
    | false ↦ (λ e. refl)
  ] refl

  -- a row of the document between
  pub content_between : (n : NodeId) (g : GainsItems SameCell (content D n) (content E n)) → content B n ≡ row_between m g
  content_between n g =
      sym (refit_all (E.rows n)) ∙ sym (refitted g (all_of D (D.rows n)) (all_of E (E.rows n))
      (weaker (λ t. (Has (cells_of (content D n)) t.cell → ⊥) × Has (content E n) t) (λ t. is_cell t.cell (D.place t.node) ≡ false) (not_there n) g (gained_new g (distinct_content E (E.rows n) (x.after.once n)))))
