-- Both sides make the same cells in the same rows.
use Rattle.std.proofs.Common.{◌≡◌, Bool, true, false, ◌&&◌, List, refl, sym, ap, ◌∙◌, subst, inl, inr, ◌⊎◌}
use Rattle.std.specs.List.{list_any}
use Rattle.st_ids.proofs.Orders.{same_cell-itself, same_cell-true, same_node-itself, same_node-true}
use Rattle.st_ids.specs.Listing.{Has}
use Rattle.st_ids.specs.Order.{same_cell, same_node}
use Rattle.st_ids.specs.declared.names.CellId.{CellId}
use Rattle.st_ids.specs.declared.names.NodeId.{NodeId}
use Rattle.st_lemmas.proofs.Bools.{and-both, and-true, refuted-false, true-false}
use Rattle.st_marks.specs.declared.marks.RowMarks.{RowMarks}
use Rattle.st_marks.specs.declared.places.Slot.{Slot}
use Rattle.st_marks.specs.declared.steps.Step.{Step}
use Rattle.st_marks.specs.Document.{Document, content}
use Rattle.st_marks.specs.Extends.{IsExtendedBy}
use Rattle.st_marks.specs.Listings.{cell_made, cells_made, is_among_cells}
use Rattle.st_marks.specs.Row.{CellMark, Counted, Gap, Touch, Make, Fill, spread}
use Rattle.st_marks.specs.Step.{IsStep}
use Rattle.st_marks.proofs.Members.{any-has, flat_map-has, has-any, has-flat_map, has-map, map-has}
use Rattle.st_marks.proofs.Turns.{extends_on}
use Rattle.st_puts.proofs.StepPlaces.{cells-once, row-look, told-listed}
use Rattle.st_puts.proofs.StepRows.{after-mark, kept-mark, make-step}
use Rattle.st_rows.specs.Sequence.{cells_of}
use Rattle.st_laws.proofs.BothTell.{Tells, both_tell}
use Rattle.st_laws.proofs.SidesMove.{OverDocuments}
use Rattle.st_laws.specs.InOrder.{MakesCell}

abbrev has_cell : List Slot → CellId → Bool
has_cell xs c = is_among_cells (cells_of xs) c

among-cells : (cs : List CellId) (c : CellId) → is_among_cells cs c ≡ true → Has cs c
among-cells cs c e = let r = any-has (λ (d : CellId). same_cell d c) cs e in subst (Has cs) (same_cell-true r.0 c r.2) r.1

cells-among : (cs : List CellId) (c : CellId) → Has cs c → is_among_cells cs c ≡ true
cells-among cs c h = has-any (λ (d : CellId). same_cell d c) cs c h (same_cell-itself c)

abbrev makes : Step → NodeId → CellId → Bool
makes S n c = list_any (λ (r : RowMarks). same_node r.node n && is_among_cells (cells_made (spread r.marks)) c) S.rows

made-so : (S : Step) (n : NodeId) (c : CellId) → makes S n c ≡ true → MakesCell S n c
made-so S n c e =
    let r = any-has (λ (r : RowMarks). same_node r.node n && is_among_cells (cells_made (spread r.marks)) c) S.rows e in
    let w = and-true (same_node r.0.node n) (is_among_cells (cells_made (spread r.0.marks)) c) r.2 in
    (r.0, r.1, same_node-true r.0.node n w.0, among-cells (cells_made (spread r.0.marks)) c w.1)

so-made : (S : Step) (n : NodeId) (c : CellId) → MakesCell S n c → makes S n c ≡ true
so-made S n c (r, i, e, h) =
    has-any (λ (r : RowMarks). same_node r.node n && is_among_cells (cells_made (spread r.marks)) c) S.rows r i
    (and-both (same_node r.node n) (is_among_cells (cells_made (spread r.marks)) c) (ap (λ k. same_node k n) e ∙ same_node-itself n) (cells-among (cells_made (spread r.marks)) c h))

made-mark : (ms : List CellMark) (c : CellId) → Has (cells_made ms) c → (n : NodeId) × (b : Bool) × Has ms (Make c n b)
made-mark ms c h = let y = has-flat_map cell_made ms c h in go y.0 y.1 y.2
  where
    go : (y : CellMark) → Has ms y → Has (cell_made y) c → (n : NodeId) × (b : Bool) × Has ms (Make c n b)
    go Counted i j = absurd j
    go (Gap d) i j = absurd j
    go (Touch d n h) i j = absurd j
    go (Make d n b) i (inl e) = (n, b, subst (λ d. Has ms (Make d n b)) e i)
    go (Make d n b) i (inr j) = absurd j
    go (Fill d n) i j = absurd j

module _ (D E : Document) (S : Step) (x : IsExtendedBy D E) (s : IsStep D E S) (n : NodeId) (c : CellId) where
  made-there : MakesCell S n c → (has_cell (content D n) c ≡ false) × (has_cell (content E n) c ≡ true)
  made-there (r, i, e, h) =
      let y = made-mark (spread r.marks) c h in
      let w = make-step s.mentioned (s.grows r.node) (cells-once D E S x s r.node) c y.0 y.1 (subst (λ ms. Has ms (Make c y.0 y.1)) (row-look D E S x s r i).0 y.2) in
      subst (λ n. (has_cell (content D n) c ≡ false) × (has_cell (content E n) c ≡ true)) e (
        refuted-false (has_cell (content D r.node) c) (λ t. w.1 (among-cells (cells_of (content D r.node)) c t)),
        cells-among (cells_of (content E r.node)) c (map-has (λ (s : Slot). s.cell) (content E r.node) (record { cell = c; node = y.0; full = y.1 }) w.0),
      )

  there-made : has_cell (content D n) c ≡ false → has_cell (content E n) c ≡ true → MakesCell S n c
  there-made d e =
      let t = has-map (λ (s : Slot). s.cell) (content E n) c (among-cells (cells_of (content E n)) c e) in
      elim (after-mark s.mentioned (s.grows n) t.0 t.1) [
        | inl w ↦ absurd (true-false (cells-among (cells_of (content D n)) c (subst (Has (cells_of (content D n))) (w.same.0 ∙ t.2) (map-has (λ (s : Slot). s.cell) (content D n) w.slot w.there))) d)
        | inr i ↦ (let l = told-listed D E S x s n (Make t.0.cell t.0.node t.0.full) i refl in
            (l.0, l.1, l.2, subst (Has (cells_made (spread l.0.marks))) t.2 (flat_map-has cell_made (spread l.0.marks) (Make t.0.cell t.0.node t.0.full) t.0.cell l.3 (inl refl))))
      ]

  stays-there : has_cell (content D n) c ≡ true → has_cell (content E n) c ≡ true
  stays-there d =
      let t = has-map (λ (s : Slot). s.cell) (content D n) c (among-cells (cells_of (content D n)) c d) in
      let w = kept-mark s.mentioned (s.grows n) t.0 t.1 in
      cells-among (cells_of (content E n)) c (subst (Has (cells_of (content E n))) (sym w.same.0 ∙ t.2) (map-has (λ (s : Slot). s.cell) (content E n) w.slot w.there))

  unmade-stays : makes S n c ≡ false → has_cell (content D n) c ≡ has_cell (content E n) c
  unmade-stays f = go (has_cell (content D n) c) (has_cell (content E n) c) refl refl
    where
      go : (a b : Bool) → has_cell (content D n) c ≡ a → has_cell (content E n) c ≡ b → a ≡ b
      go true true d e = refl
      go false false d e = refl
      go true false d e = absurd (true-false (stays-there d) e)
      go false true d e = absurd (true-false (so-made S n c (there-made d e)) f)

cells-told : (D E C F : Document) (S : Step) → IsExtendedBy D E → IsStep D E S → IsExtendedBy C F → IsStep C F S → (n : NodeId) (c : CellId)
    → Tells (makes S n c) (has_cell (content D n) c) (has_cell (content E n) c) (has_cell (content C n) c) (has_cell (content F n) c)
cells-told D E C F S x s y t n c = record {
  same = λ e. let h = made-so S n c e in let v = made-there D E S x s n c h in let w = made-there C F S y t n c h in (v.0 ∙ sym w.0, v.1 ∙ sym w.1);
  stays = λ e. (unmade-stays D E S x s n c e, unmade-stays C F S y t n c e);
}

module _ (D E F : Document) (S T U : Step) (x : IsExtendedBy D E) (y : IsExtendedBy E F) (z : IsExtendedBy D F) (s : IsStep D E S) (t : IsStep E F T) (u : IsStep D F U) (n : NodeId) (c : CellId) where
  by-one : makes U n c ≡ true → makes S n c ≡ false → makes T n c ≡ false → ⊥
  by-one p a b = let w = made-there D F U z u n c (made-so U n c p) in
      true-false w.1 (sym (unmade-stays D E S x s n c a ∙ unmade-stays E F T y t n c b) ∙ w.0)

  not-dropped : makes S n c ≡ true → makes U n c ≡ false → makes T n c ≡ false → ⊥
  not-dropped a p b = let w = made-there D E S x s n c (made-so S n c a) in
      true-false w.1 (unmade-stays E F T y t n c b ∙ sym (unmade-stays D F U z u n c p) ∙ w.0)

module _ (a b c ab bc l r : Step) (p : OverDocuments a b ab) (q : OverDocuments b c bc) (k : OverDocuments ab c l) (h : OverDocuments a bc r) (n : NodeId) (d : CellId) where
  abbrev there : Document → Bool
  there D = has_cell (content D n) d

  k-ends : IsExtendedBy k.before k.after
  k-ends = extends_on k.before k.between k.after k.first_extends k.then_extends

  h-ends : IsExtendedBy h.before h.after
  h-ends = extends_on h.before h.between h.after h.first_extends h.then_extends

  p-ends : IsExtendedBy p.before p.after
  p-ends = extends_on p.before p.between p.after p.first_extends p.then_extends

  q-ends : IsExtendedBy q.before q.after
  q-ends = extends_on q.before q.between q.after q.first_extends q.then_extends

  alike : ((there k.before ≡ there h.before) × (there k.after ≡ there h.after)) ⊎ ((there k.before ≡ there k.after) × (there h.before ≡ there h.after))
  alike = both_tell (makes a n d) (makes b n d) (makes c n d) (makes ab n d) (makes bc n d)
      (there k.before) (there k.between) (there k.after) (there q.before) (there q.between) (there q.after)
      (there h.before) (there h.between) (there h.after) (there p.before) (there p.between) (there p.after)
      (cells-told p.before p.between h.before h.between a p.first_extends p.first h.first_extends h.first n d)
      (cells-told p.between p.after q.before q.between b p.then_extends p.next q.first_extends q.first n d)
      (cells-told q.between q.after k.between k.after c q.then_extends q.next k.then_extends k.next n d)
      (cells-told p.before p.after k.before k.between ab p-ends p.both k.first_extends k.first n d)
      (cells-told q.before q.after h.between h.after bc q-ends q.both h.then_extends h.next n d)
      (by-one p.before p.between p.after a b ab p.first_extends p.then_extends p-ends p.first p.next p.both n d)
      (not-dropped p.before p.between p.after a b ab p.first_extends p.then_extends p-ends p.first p.next p.both n d)
      (by-one q.before q.between q.after b c bc q.first_extends q.then_extends q-ends q.first q.next q.both n d)
      (not-dropped q.before q.between q.after b c bc q.first_extends q.then_extends q-ends q.first q.next q.both n d)

  pub cells_on : MakesCell l n d → MakesCell r n d
  cells_on w = let m = made-there k.before k.after l k-ends k.both n d w in
      elim alike [
        | inl e ↦ there-made h.before h.after r h-ends h.both n d (sym e.0 ∙ m.0) (sym e.1 ∙ m.1)
        | inr e ↦ absurd (true-false m.1 (sym e.0 ∙ m.0))
      ]

  pub cells_back : MakesCell r n d → MakesCell l n d
  cells_back w = let m = made-there h.before h.after r h-ends h.both n d w in
      elim alike [
        | inl e ↦ there-made k.before k.after l k-ends k.both n d (e.0 ∙ m.0) (e.1 ∙ m.1)
        | inr e ↦ absurd (true-false m.1 (sym e.1 ∙ m.0))
      ]
