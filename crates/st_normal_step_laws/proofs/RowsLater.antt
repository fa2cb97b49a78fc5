-- A row, with what a step's marks make among its cells.
use Rattle.std.proofs.Common.{◌≡◌, ◌≢◌, Bool, suc, List, [], ◌∷◌, map, length, refl, sym, ap, ◌∙◌, subst, inl, inr, ◌⊎◌}
use Rattle.st_ids.specs.Listing.{AreDistinct, Has}
use Rattle.st_ids.specs.declared.names.CellId.{CellId}
use Rattle.st_ids.specs.declared.names.NodeId.{NodeId}
use Rattle.st_marks.specs.declared.intents.Owned.{Owned}
use Rattle.st_marks.specs.declared.places.Slot.{Slot}
use Rattle.st_marks.specs.Document.{Document, is_cell, owned_cell, slot}
use Rattle.st_marks.specs.Extends.{GainsItems, no_more, item_gained, item_kept}
use Rattle.st_marks.specs.Listings.{cell_in, cells_after, cells_before, cells_in}
use Rattle.st_marks.specs.Row.{CellMark, Counted, Gap, Touch, Make, Fill, SameCell, step_cell, step_row}
use Rattle.st_marks.proofs.Members.{all-has, distinct-right, flat_map-has, has-all}
use Rattle.st_puts.specs.Seen.{AreAsSeen}
use Rattle.st_puts.proofs.Groups.{IsMarkOf}
use Rattle.st_normal_step_laws.specs.StepOver.{row_later}

-- a row os grew by marks ms to ps: each mark makes a cell, or is true of the cell at which it is
pub data Grew (D : Document) : List Owned → List CellMark → List Owned → Type 0 where
  none_grew : Grew D [] [] []
  made_grew : {os ps : List Owned} {ms : List CellMark} (c : CellId) (n : NodeId) (b : Bool) → Grew D os ms ps → Grew D os (Make c n b ∷ ms) (owned_cell c n ∷ ps)
  kept_grew : {os ps : List Owned} {ms : List CellMark} (o : Owned) (y : CellMark) → IsMarkOf (slot D o) y → Grew D os ms ps → Grew D (o ∷ os) (y ∷ ms) (o ∷ ps)

pub grew : (D : Document) (os : List Owned) (ms : List CellMark) → AreAsSeen (map (slot D) os) (cells_before ms) → Grew D os ms (row_later os ms)
grew D [] [] p = none_grew
grew D (o ∷ os) [] p = absurd p
grew D os (Make c n b ∷ ms) p = made_grew c n b (grew D os ms p)
grew D [] (Counted ∷ ms) p = absurd p
grew D (o ∷ os) (Counted ∷ ms) p = kept_grew o Counted p.0.0 (grew D os ms p.1)
grew D [] (Gap c ∷ ms) p = absurd p
grew D (o ∷ os) (Gap c ∷ ms) p = kept_grew o (Gap c) (p.0.0, p.0.1) (grew D os ms p.1)
grew D [] (Touch c n h ∷ ms) p = absurd p
grew D (o ∷ os) (Touch c n h ∷ ms) p = kept_grew o (Touch c n h) (p.0.0, p.0.1, p.0.2) (grew D os ms p.1)
grew D [] (Fill c n ∷ ms) p = absurd p
grew D (o ∷ os) (Fill c n ∷ ms) p = kept_grew o (Fill c n) (p.0.0, p.0.1, p.0.2) (grew D os ms p.1)

module _ (D : Document) where
  -- a cell after it was there, or is made
  pub grew-has : {os ps : List Owned} {ms : List CellMark} → Grew D os ms ps → (p : Owned) → Has ps p → Has os p ⊎ ((b : Bool) × Has ms (Make p.cell p.node b))
  grew-has none_grew p h = absurd h
  grew-has (made_grew c n b g) p (inl e) = inr (b, inl (λ i. Make (e i).cell (e i).node b))
  grew-has (made_grew c n b g) p (inr h) = elim (grew-has g p h) [ inl i ↦ inl i | inr a ↦ inr (a.0, inr a.1) ]
  grew-has (kept_grew o y w g) p (inl e) = inl (inl e)
  grew-has (kept_grew o y w g) p (inr h) = elim (grew-has g p h) [ inl i ↦ inl (inr i) | inr a ↦ inr (a.0, inr a.1) ]

  pub has-kept : {os ps : List Owned} {ms : List CellMark} → Grew D os ms ps → (p : Owned) → Has os p → Has ps p
  has-kept none_grew p h = absurd h
  has-kept (made_grew c n b g) p h = inr (has-kept g p h)
  has-kept (kept_grew o y w g) p (inl e) = inl e
  has-kept (kept_grew o y w g) p (inr h) = inr (has-kept g p h)

  not-make : (s : Slot) (y : CellMark) (c : CellId) (n : NodeId) (b : Bool) → IsMarkOf s y → y ≡ Make c n b → ⊥
  not-make s y c n b w e = subst (IsMarkOf s) e w

  make-owned : {a c : CellId} {m n : NodeId} {d b : Bool} → Make a m d ≡ Make c n b → owned_cell a m ≡ owned_cell c n
  make-owned {a} {c} {m} {n} {d} {b} e = let p : a ≡ c = cc in let q : m ≡ n = cc in λ i. owned_cell (p i) (q i)

  pub has-made : {os ps : List Owned} {ms : List CellMark} → Grew D os ms ps → (c : CellId) (n : NodeId) (b : Bool) → Has ms (Make c n b) → Has ps (owned_cell c n)
  has-made none_grew c n b h = absurd h
  has-made (made_grew a m d g) c n b (inl e) = inl (make-owned e)
  has-made (made_grew a m d g) c n b (inr h) = inr (has-made g c n b h)
  has-made (kept_grew o y w g) c n b (inl e) = absurd (not-make (slot D o) y c n b w e)
  has-made (kept_grew o y w g) c n b (inr h) = inr (has-made g c n b h)

  pub grew-gains : {os ps : List Owned} {ms : List CellMark} → Grew D os ms ps → GainsItems (λ (o p : Owned). o ≡ p) os ps
  grew-gains none_grew = no_more
  grew-gains (made_grew c n b g) = item_gained (grew-gains g)
  grew-gains (kept_grew o y w g) = item_kept refl (grew-gains g)

  after-one : (s : Slot) (y : CellMark) (ms : List CellMark) → IsMarkOf s y → length (cells_after (y ∷ ms)) ≡ suc (length (cells_after ms))
  after-one s Counted ms w = refl
  after-one s (Gap c) ms w = refl
  after-one s (Touch c n h) ms w = refl
  after-one s (Make c n b) ms w = absurd w
  after-one s (Fill c n) ms w = refl

  pub grew-length : {os ps : List Owned} {ms : List CellMark} → Grew D os ms ps → length ps ≡ length (cells_after ms)
  grew-length none_grew = refl
  grew-length (made_grew c n b g) = ap (λ k. suc k) (grew-length g)
  grew-length (kept_grew {ms = ms} o y w g) = ap (λ k. suc k) (grew-length g) ∙ sym (after-one (slot D o) y ms w)

  pub grew-once : {os ps : List Owned} {ms : List CellMark} → Grew D os ms ps → AreDistinct (λ (o : Owned). o.cell) os → AreDistinct (λ (c : CellId). c) (cells_in ms)
      → ((o : Owned) (n : NodeId) (b : Bool) → Has os o → Has ms (Make o.cell n b) → ⊥) → AreDistinct (λ (o : Owned). o.cell) ps
  grew-once none_grew d e apart = tt
  grew-once (made_grew {os = os} {ps = ps} {ms = ms} c n b g) d e apart = (
    has-all (λ (p : Owned). p.cell ≢ c) ps (λ p h q. elim (grew-has g p h) [
      | inl i ↦ apart p n b i (inl (ap (λ c. Make c n b) (sym q)))
      | inr a ↦ all-has (λ a. a ≢ c) (cells_in ms) p.cell e.0 (flat_map-has cell_in ms (Make p.cell p.node a.0) p.cell a.1 (inl refl)) q
    ]),
    grew-once g d e.1 (λ o m a i j. apart o m a i (inr j)),
  )
  grew-once (kept_grew {os = os} {ps = ps} {ms = ms} o y w g) d e apart = (
    has-all (λ (p : Owned). p.cell ≢ o.cell) ps (λ p h q. elim (grew-has g p h) [
      | inl i ↦ all-has (λ (p : Owned). p.cell ≢ o.cell) os p d.0 i q
      | inr a ↦ apart o p.node a.0 (inl refl) (inr (subst (λ c. Has ms (Make c p.node a.0)) q a.1))
    ]),
    grew-once g d.1 (distinct-right (λ (c : CellId). c) (cell_in y) (cells_in ms) e) (λ p m a i j. apart p m a (inr i) (inr j)),
  )

  -- ## Cells with their marks

  abbrev pub met : {os ps : List Owned} {ms : List CellMark} → Grew D os ms ps → List (Owned × CellMark)
  met none_grew = []
  met (made_grew c n b g) = met g
  met (kept_grew o y w g) = (o, y) ∷ met g

  abbrev pub IsMet : List Owned → List CellMark → Owned × CellMark → Type 0
  IsMet os ms p = Has os p.0 × Has ms p.1 × IsMarkOf (slot D p.0) p.1

  pub met-has : {os ps : List Owned} {ms : List CellMark} (g : Grew D os ms ps) (p : Owned × CellMark) → Has (met g) p → IsMet os ms p
  met-has none_grew p h = absurd h
  met-has (made_grew c n b g) p h = let r = met-has g p h in (r.0, inr r.1, r.2)
  met-has (kept_grew {os = os} {ms = ms} o y w g) p (inl e) = subst (IsMet (o ∷ os) (y ∷ ms)) e (inl refl, inl refl, w)
  met-has (kept_grew o y w g) p (inr h) = let r = met-has g p h in (inr r.0, inr r.1, r.2)

  pub mark-met : {os ps : List Owned} {ms : List CellMark} (g : Grew D os ms ps) (y : CellMark) → Has ms y → ((c : CellId) (n : NodeId) (b : Bool) → y ≡ Make c n b → ⊥) → (o : Owned) × Has (met g) (o, y)
  mark-met none_grew y h other = absurd h
  mark-met (made_grew c n b g) y (inl e) other = absurd (other c n b (sym e))
  mark-met (made_grew c n b g) y (inr h) other = mark-met g y h other
  mark-met (kept_grew o z w g) y (inl e) other = (o, inl (λ i. (o, e i)))
  mark-met (kept_grew o z w g) y (inr h) other = let r = mark-met g y h other in (r.0, inr r.1)

  pub cell-met : {os ps : List Owned} {ms : List CellMark} (g : Grew D os ms ps) (o : Owned) → Has os o → (y : CellMark) × Has (met g) (o, y)
  cell-met none_grew o h = absurd h
  cell-met (made_grew c n b g) o h = cell-met g o h
  cell-met (kept_grew p z w g) o (inl e) = (z, inl (λ i. (e i, z)))
  cell-met (kept_grew p z w g) o (inr h) = let r = cell-met g o h in (r.0, inr r.1)

  pub met-once : {os ps : List Owned} {ms : List CellMark} (g : Grew D os ms ps) → AreDistinct (λ (o : Owned). o.cell) os → (o p : Owned) (y z : CellMark) → Has (met g) (o, y) → Has (met g) (p, z) → o.cell ≡ p.cell → y ≡ z
  met-once none_grew d o p y z h i e = absurd h
  met-once (made_grew c n b g) d o p y z h i e = met-once g d o p y z h i e
  met-once (kept_grew q x w g) d o p y z (inl a) (inl b) e = sym (ap (λ (t : Owned × CellMark). t.1) a) ∙ ap (λ (t : Owned × CellMark). t.1) b
  met-once (kept_grew {os = os} q x w g) d o p y z (inl a) (inr i) e = absurd (all-has (λ (r : Owned). r.cell ≢ q.cell) os p d.0 (met-has g (p, z) i).0 (sym e ∙ ap (λ (t : Owned × CellMark). t.0.cell) (sym a)))
  met-once (kept_grew {os = os} q x w g) d o p y z (inr h) (inl b) e = absurd (all-has (λ (r : Owned). r.cell ≢ q.cell) os o d.0 (met-has g (o, y) h).0 (e ∙ ap (λ (t : Owned × CellMark). t.0.cell) (sym b)))
  met-once (kept_grew q x w g) d o p y z (inr h) (inr i) e = met-once g d.1 o p y z h i e

  -- ## As a step lists it

  abbrev pub Listed : (m : NodeId → Bool) (E : Document) (os : List Owned) (ms : List CellMark) (ps : List Owned) → Type 0
  Listed m E os ms ps = (g : GainsItems SameCell (map (slot D) os) (map (slot E) ps)) × (step_row m g ≡ ms)

  -- where each mark is that of the step at its cell, the row is listed by its marks
  pub grew-listed : (m : NodeId → Bool) (E : Document) {os ps : List Owned} {ms : List CellMark} (g : Grew D os ms ps)
      → ((o : Owned) (y : CellMark) → Has (met g) (o, y) → step_cell m o.cell o.node (is_cell o.cell (D.place o.node)) (is_cell o.cell (E.place o.node)) ≡ y)
      → ((c : CellId) (n : NodeId) (b : Bool) → Has ms (Make c n b) → is_cell c (E.place n) ≡ b)
      → Listed m E os ms ps
  grew-listed m E none_grew kept made = (no_more, refl)
  grew-listed m E (made_grew c n b g) kept made =
      let r = grew-listed m E g kept (λ a k d h. made a k d (inr h)) in
      (item_gained r.0, λ i. Make c n (made c n b (inl refl) i) ∷ r.1 i)
  grew-listed m E (kept_grew o y w g) kept made =
      let r = grew-listed m E g (λ p z h. kept p z (inr h)) (λ a k d h. made a k d (inr h)) in
      (item_kept (refl, refl) r.0, λ i. kept o y (inl refl) i ∷ r.1 i)
