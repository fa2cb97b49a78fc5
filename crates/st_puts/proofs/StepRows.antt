-- The marks of one row over a step, each with the cell that it is of.
use Rattle.std.proofs.Common.{◌++◌, ◌≡◌, ◌≢◌, Bool, true, false, List, [], ◌∷◌, cond, refl, sym, ap, ◌∙◌, subst, inl, inr, ◌⊎◌}
use Rattle.st_ids.specs.Listing.{AreDistinct, Has}
use Rattle.st_ids.specs.declared.names.CellId.{CellId}
use Rattle.st_ids.specs.declared.names.NodeId.{NodeId}
use Rattle.st_marks.specs.declared.marks.How.{How}
use Rattle.st_marks.specs.declared.marks.How.TheVariants.{Stay, Leave}
use Rattle.st_marks.specs.declared.places.Slot.{Slot}
use Rattle.st_marks.specs.Extends.{GainsItems, no_more, item_gained, item_kept}
use Rattle.st_marks.specs.Row.{CellMark, Counted, Gap, Touch, Make, Fill, SameCell, step_cell, step_row}
use Rattle.st_marks.specs.Listings.{cells_in}
use Rattle.st_marks.proofs.Members.{all-has, has-all}
use Rattle.st_normal.specs.Rules.{incoming_nodes}
use Rattle.st_rows.proofs.KindLaws.{has_grown, not_again}
use Rattle.st_rows.specs.Sequence.{cells_of}

-- ## The cell of a mark

-- a mark is of a cell that is there before and after, or of one that is made
pub data MarkOf (m : NodeId → Bool) (c d : List Slot) (y : CellMark) : Type 0 where
  of_kept : (s t : Slot) → Has c s → Has d t → SameCell s t → step_cell m s.cell s.node s.full t.full ≡ y → MarkOf m c d y
  of_gained : (t : Slot) → Has d t → (Has (cells_of c) t.cell → ⊥) → Make t.cell t.node t.full ≡ y → MarkOf m c d y

after_gained : (m : NodeId → Bool) (c d : List Slot) (u : Slot) (y : CellMark) → MarkOf m c d y → MarkOf m c (u ∷ d) y
after_gained m c d u y (of_kept s t h i same e) = of_kept s t h (inr i) same e
after_gained m c d u y (of_gained t i new e) = of_gained t (inr i) new e

after_kept : (m : NodeId → Bool) (c d : List Slot) (r u : Slot) (y : CellMark) → r.cell ≡ u.cell → AreDistinct (λ (s : Slot). s.cell) (u ∷ d) → MarkOf m c d y → MarkOf m (r ∷ c) (u ∷ d) y
after_kept m c d r u y a o (of_kept s t h i same e) = of_kept s t (inr h) (inr i) same e
after_kept m c d r u y a o (of_gained t i new e) = of_gained t (inr i) (λ w. elim w [ inl q ↦ all-has (λ (s : Slot). s.cell ≢ u.cell) d t o.0 i (sym q ∙ a) | inr j ↦ new j ]) e

pub mark-of : (m : NodeId → Bool) {c d : List Slot} (g : GainsItems SameCell c d) → AreDistinct (λ (s : Slot). s.cell) d → (y : CellMark) → Has (step_row m g) y → MarkOf m c d y
mark-of m no_more o y h = absurd h
mark-of m (item_gained {y = t} {ys = d} g) o y (inl e) = of_gained t (inl refl) (λ h. not_again d t.cell o.0 (has_grown g t.cell h)) e
mark-of m (item_gained {y = t} {xs = c} {ys = d} g) o y (inr h) = after_gained m c d t y (mark-of m g o.1 y h)
mark-of m (item_kept {x = s} {y = t} a g) o y (inl e) = of_kept s t (inl refl) (inl refl) a e
mark-of m (item_kept {x = s} {y = t} {xs = c} {ys = d} a g) o y (inr h) = after_kept m c d s t y a.0 o (mark-of m g o.1 y h)

-- ## The mark of a cell

-- a cell that is there before is there after, and has a mark
pub record IsKept (m : NodeId → Bool) {c d : List Slot} (g : GainsItems SameCell c d) (s : Slot) : Type 0 where
  pub slot : Slot
  pub there : Has d slot
  pub same : SameCell s slot
  pub mark : Has (step_row m g) (step_cell m s.cell s.node s.full slot.full)

pub kept-mark : (m : NodeId → Bool) {c d : List Slot} (g : GainsItems SameCell c d) (s : Slot) → Has c s → IsKept m g s
kept-mark m no_more s h = absurd h
kept-mark m (item_gained g) s h = let r = kept-mark m g s h in record { slot = r.slot; there = inr r.there; same = r.same; mark = inr r.mark }
kept-mark m (item_kept {x = r} {y = t} a g) s (inl e) = record {
  slot = t;
  there = inl refl;
  same = (sym (ap (λ (s : Slot). s.cell) e) ∙ a.0, sym (ap (λ (s : Slot). s.node) e) ∙ a.1);
  mark = inl (ap (λ (s : Slot). step_cell m s.cell s.node s.full t.full) e);
}
kept-mark m (item_kept a g) s (inr h) = let r = kept-mark m g s h in record { slot = r.slot; there = inr r.there; same = r.same; mark = inr r.mark }

-- a cell that is there after was there before, and has a mark
pub record IsFromBefore (m : NodeId → Bool) {c d : List Slot} (g : GainsItems SameCell c d) (t : Slot) : Type 0 where
  pub slot : Slot
  pub there : Has c slot
  pub same : SameCell slot t
  pub mark : Has (step_row m g) (step_cell m slot.cell slot.node slot.full t.full)

-- or it is made
pub after-mark : (m : NodeId → Bool) {c d : List Slot} (g : GainsItems SameCell c d) (t : Slot) → Has d t → IsFromBefore m g t ⊎ Has (step_row m g) (Make t.cell t.node t.full)
after-mark m no_more t h = absurd h
after-mark m (item_gained {y = u} g) t (inl e) = inr (inl (ap (λ (u : Slot). Make u.cell u.node u.full) e))
after-mark m (item_gained g) t (inr h) = elim (after-mark m g t h) [
  | inl r ↦ inl (record { slot = r.slot; there = r.there; same = r.same; mark = inr r.mark })
  | inr i ↦ inr (inr i)
]
after-mark m (item_kept {x = s} {y = u} a g) t (inl e) = inl (record {
  slot = s;
  there = inl refl;
  same = (a.0 ∙ ap (λ (u : Slot). u.cell) e, a.1 ∙ ap (λ (u : Slot). u.node) e);
  mark = inl (ap (λ (u : Slot). step_cell m s.cell s.node s.full u.full) e);
})
after-mark m (item_kept a g) t (inr h) = elim (after-mark m g t h) [
  | inl r ↦ inl (record { slot = r.slot; there = inr r.there; same = r.same; mark = inr r.mark })
  | inr i ↦ inr (inr i)
]

-- ## What a mark says of its cell

touch-cell : (m : NodeId → Bool) (a : CellId) (k : NodeId) (b e : Bool) (d : CellId) (n : NodeId) (h : How) → step_cell m a k b e ≡ Touch d n h
    → (a ≡ d) × (k ≡ n) × (b ≡ true) × (((h ≡ Stay) × (e ≡ true) × (m n ≡ true)) ⊎ ((h ≡ Leave) × (e ≡ false)))
touch-cell m a k true true d n h q = go (m k) refl q
  where
    go : (z : Bool) → m k ≡ z → cond z (Touch a k Stay) Counted ≡ Touch d n h → (a ≡ d) × (k ≡ n) × (true ≡ true) × (((h ≡ Stay) × (true ≡ true) × (m n ≡ true)) ⊎ ((h ≡ Leave) × (true ≡ false)))
    go true f q = let i : a ≡ d = cc in let j : k ≡ n = cc in let w : h ≡ Stay = cc in (i, j, refl, inl (w, refl, ap m (sym j) ∙ f))
    go false f q = cc
touch-cell m a k true false d n h q = let i : a ≡ d = cc in let j : k ≡ n = cc in let w : h ≡ Leave = cc in (i, j, refl, inr (w, refl))
touch-cell m a k false true d n h q = cc
touch-cell m a k false false d n h q = cc

fill-cell : (m : NodeId → Bool) (a : CellId) (k : NodeId) (b e : Bool) (d : CellId) (n : NodeId) → step_cell m a k b e ≡ Fill d n → (a ≡ d) × (k ≡ n) × (b ≡ false) × (e ≡ true)
fill-cell m a k true true d n q = go (m k) q
  where
    go : (z : Bool) → cond z (Touch a k Stay) Counted ≡ Fill d n → (a ≡ d) × (k ≡ n) × (true ≡ false) × (true ≡ true)
    go true q = cc
    go false q = cc
fill-cell m a k true false d n q = cc
fill-cell m a k false true d n q = let i : a ≡ d = cc in let j : k ≡ n = cc in (i, j, refl, refl)
fill-cell m a k false false d n q = cc

unmade : (m : NodeId → Bool) (a : CellId) (k : NodeId) (b e : Bool) (d : CellId) (n : NodeId) (f : Bool) → step_cell m a k b e ≡ Make d n f → ⊥
unmade m a k true true d n f q = go (m k) q
  where
    go : (z : Bool) → cond z (Touch a k Stay) Counted ≡ Make d n f → ⊥
    go true q = cc
    go false q = cc
unmade m a k true false d n f q = cc
unmade m a k false true d n f q = cc
unmade m a k false false d n f q = cc

-- a cell with its node, full or not
abbrev pub cell_with : CellId → NodeId → Bool → Slot
cell_with d n b = record { cell = d; node = n; full = b }

has-cell : (c : List Slot) (s : Slot) (d : CellId) (n : NodeId) (b : Bool) → Has c s → s.cell ≡ d → s.node ≡ n → s.full ≡ b → Has c (cell_with d n b)
has-cell c s d n b h e f g = subst (Has c) (λ i. record { cell = e i; node = f i; full = g i }) h

module _ (m : NodeId → Bool) {c d : List Slot} (g : GainsItems SameCell c d) (o : AreDistinct (λ (s : Slot). s.cell) d) where
  -- a node that is found in a full cell stays there, and is named, or leaves
  pub touch-step : (a : CellId) (n : NodeId) (h : How) → Has (step_row m g) (Touch a n h)
      → Has c (cell_with a n true) × (((h ≡ Stay) × Has d (cell_with a n true) × (m n ≡ true)) ⊎ ((h ≡ Leave) × Has d (cell_with a n false)))
  touch-step a n h i = go (mark-of m g o (Touch a n h) i)
    where
      go : MarkOf m c d (Touch a n h) → Has c (cell_with a n true) × (((h ≡ Stay) × Has d (cell_with a n true) × (m n ≡ true)) ⊎ ((h ≡ Leave) × Has d (cell_with a n false)))
      go (of_gained t j new e) = cc
      go (of_kept s t j k same e) =
          let w = touch-cell m s.cell s.node s.full t.full a n h e in (
            has-cell c s a n true j w.0 w.1 w.2,
            elim w.3 [
              | inl v ↦ inl (v.0, has-cell d t a n true k (sym same.0 ∙ w.0) (sym same.1 ∙ w.1) v.1, v.2)
              | inr v ↦ inr (v.0, has-cell d t a n false k (sym same.0 ∙ w.0) (sym same.1 ∙ w.1) v.1)
            ],
          )

  -- a cell that is filled is empty before and full after
  pub fill-step : (a : CellId) (n : NodeId) → Has (step_row m g) (Fill a n) → Has c (cell_with a n false) × Has d (cell_with a n true)
  fill-step a n i = go (mark-of m g o (Fill a n) i)
    where
      go : MarkOf m c d (Fill a n) → Has c (cell_with a n false) × Has d (cell_with a n true)
      go (of_gained t j new e) = cc
      go (of_kept s t j k same e) =
          let w = fill-cell m s.cell s.node s.full t.full a n e in (
            has-cell c s a n false j w.0 w.1 w.2,
            has-cell d t a n true k (sym same.0 ∙ w.0) (sym same.1 ∙ w.1) w.3,
          )

  -- a cell that is made isn't there before
  pub make-step : (a : CellId) (n : NodeId) (b : Bool) → Has (step_row m g) (Make a n b) → Has d (cell_with a n b) × (Has (cells_of c) a → ⊥)
  make-step a n b i = go (mark-of m g o (Make a n b) i)
    where
      go : MarkOf m c d (Make a n b) → Has d (cell_with a n b) × (Has (cells_of c) a → ⊥)
      go (of_kept s t j k same e) = absurd (unmade m s.cell s.node s.full t.full a n b e)
      go (of_gained t j new e) =
          let p : t.cell ≡ a = cc in let q : t.node ≡ n = cc in let r : t.full ≡ b = cc in (
            has-cell d t a n b j p q r,
            λ h. new (subst (Has (cells_of c)) (sym p) h),
          )

-- ## Each cell is listed once

named-or-not : (m : NodeId → Bool) (a : CellId) (k : NodeId) (b e : Bool) (ms : List CellMark) → (cells_in (step_cell m a k b e ∷ ms) ≡ cells_in ms) ⊎ (cells_in (step_cell m a k b e ∷ ms) ≡ a ∷ cells_in ms)
named-or-not m a k true true ms = go (m k)
  where
    go : (z : Bool) → (cells_in (cond z (Touch a k Stay) Counted ∷ ms) ≡ cells_in ms) ⊎ (cells_in (cond z (Touch a k Stay) Counted ∷ ms) ≡ a ∷ cells_in ms)
    go true = inr refl
    go false = inl refl
named-or-not m a k true false ms = inr refl
named-or-not m a k false true ms = inr refl
named-or-not m a k false false ms = inr refl

pub in-row-after : (m : NodeId → Bool) {c d : List Slot} (g : GainsItems SameCell c d) (a : CellId) → Has (cells_in (step_row m g)) a → Has (cells_of d) a
in-row-after m no_more a h = absurd h
in-row-after m (item_gained g) a (inl e) = inl e
in-row-after m (item_gained g) a (inr h) = inr (in-row-after m g a h)
in-row-after m (item_kept {x = s} {y = t} same g) a h = elim (named-or-not m s.cell s.node s.full t.full (step_row m g)) [
  | inl e ↦ inr (in-row-after m g a (subst (λ l. Has l a) e h))
  | inr e ↦ elim (subst (λ l. Has l a) e h) [ inl q ↦ inl (sym same.0 ∙ q) | inr i ↦ inr (in-row-after m g a i) ]
]

pub step-cells-once : (m : NodeId → Bool) {c d : List Slot} (g : GainsItems SameCell c d) → AreDistinct (λ (s : Slot). s.cell) d → AreDistinct (λ (a : CellId). a) (cells_in (step_row m g))
step-cells-once m no_more o = tt
step-cells-once m (item_gained {y = t} {ys = d} g) o = (
  has-all (λ a. a ≢ t.cell) (cells_in (step_row m g)) (λ a h e. not_again d t.cell o.0 (subst (Has (cells_of d)) e (in-row-after m g a h))),
  step-cells-once m g o.1,
)
step-cells-once m (item_kept {x = s} {y = t} {ys = d} same g) o = elim (named-or-not m s.cell s.node s.full t.full (step_row m g)) [
  | inl e ↦ subst (AreDistinct (λ (a : CellId). a)) (sym e) (step-cells-once m g o.1)
  | inr e ↦ subst (AreDistinct (λ (a : CellId). a)) (sym e) (
    has-all (λ a. a ≢ s.cell) (cells_in (step_row m g)) (λ a h q. not_again d t.cell o.0 (subst (Has (cells_of d)) (q ∙ same.0) (in-row-after m g a h))),
    step-cells-once m g o.1,
  )
]

-- ## Who comes in

-- a node comes in by a cell that is made full or filled
pub incoming-mark : (ms : List CellMark) (n : NodeId) → Has (incoming_nodes ms) n → (a : CellId) × (Has ms (Make a n true) ⊎ Has ms (Fill a n))
incoming-mark [] n h = absurd h
incoming-mark (Counted ∷ ms) n h = let r = incoming-mark ms n h in (r.0, elim r.1 [ inl i ↦ inl (inr i) | inr i ↦ inr (inr i) ])
incoming-mark (Gap c ∷ ms) n h = let r = incoming-mark ms n h in (r.0, elim r.1 [ inl i ↦ inl (inr i) | inr i ↦ inr (inr i) ])
incoming-mark (Touch c k g ∷ ms) n h = let r = incoming-mark ms n h in (r.0, elim r.1 [ inl i ↦ inl (inr i) | inr i ↦ inr (inr i) ])
incoming-mark (Make c k true ∷ ms) n (inl q) = (c, inl (inl (ap (λ k. Make c k true) q)))
incoming-mark (Make c k true ∷ ms) n (inr h) = let r = incoming-mark ms n h in (r.0, elim r.1 [ inl i ↦ inl (inr i) | inr i ↦ inr (inr i) ])
incoming-mark (Make c k false ∷ ms) n h = let r = incoming-mark ms n h in (r.0, elim r.1 [ inl i ↦ inl (inr i) | inr i ↦ inr (inr i) ])
incoming-mark (Fill c k ∷ ms) n (inl q) = (c, inr (inl (ap (λ k. Fill c k) q)))
incoming-mark (Fill c k ∷ ms) n (inr h) = let r = incoming-mark ms n h in (r.0, elim r.1 [ inl i ↦ inl (inr i) | inr i ↦ inr (inr i) ])

pub make-incoming : (ms : List CellMark) (a : CellId) (n : NodeId) → Has ms (Make a n true) → Has (incoming_nodes ms) n
make-incoming [] a n h = absurd h
make-incoming (Counted ∷ ms) a n (inl q) = cc
make-incoming (Counted ∷ ms) a n (inr h) = make-incoming ms a n h
make-incoming (Gap c ∷ ms) a n (inl q) = cc
make-incoming (Gap c ∷ ms) a n (inr h) = make-incoming ms a n h
make-incoming (Touch c k g ∷ ms) a n (inl q) = cc
make-incoming (Touch c k g ∷ ms) a n (inr h) = make-incoming ms a n h
make-incoming (Make c k true ∷ ms) a n (inl q) = let e : k ≡ n = cc in inl e
make-incoming (Make c k true ∷ ms) a n (inr h) = inr (make-incoming ms a n h)
make-incoming (Make c k false ∷ ms) a n (inl q) = cc
make-incoming (Make c k false ∷ ms) a n (inr h) = make-incoming ms a n h
make-incoming (Fill c k ∷ ms) a n (inl q) = cc
make-incoming (Fill c k ∷ ms) a n (inr h) = inr (make-incoming ms a n h)

pub fill-incoming : (ms : List CellMark) (a : CellId) (n : NodeId) → Has ms (Fill a n) → Has (incoming_nodes ms) n
fill-incoming [] a n h = absurd h
fill-incoming (Counted ∷ ms) a n (inl q) = cc
fill-incoming (Counted ∷ ms) a n (inr h) = fill-incoming ms a n h
fill-incoming (Gap c ∷ ms) a n (inl q) = cc
fill-incoming (Gap c ∷ ms) a n (inr h) = fill-incoming ms a n h
fill-incoming (Touch c k g ∷ ms) a n (inl q) = cc
fill-incoming (Touch c k g ∷ ms) a n (inr h) = fill-incoming ms a n h
fill-incoming (Make c k true ∷ ms) a n (inl q) = cc
fill-incoming (Make c k true ∷ ms) a n (inr h) = inr (fill-incoming ms a n h)
fill-incoming (Make c k false ∷ ms) a n (inl q) = cc
fill-incoming (Make c k false ∷ ms) a n (inr h) = fill-incoming ms a n h
fill-incoming (Fill c k ∷ ms) a n (inl q) = let e : k ≡ n = cc in inl e
fill-incoming (Fill c k ∷ ms) a n (inr h) = inr (fill-incoming ms a n h)

-- the cell in which one who comes in stands after
in-after : (m : NodeId → Bool) {c d : List Slot} (g : GainsItems SameCell c d) → AreDistinct (λ (s : Slot). s.cell) d → (n : NodeId) → Has (incoming_nodes (step_row m g)) n → (a : CellId) × Has d (cell_with a n true)
in-after m g o n h = let r = incoming-mark (step_row m g) n h in (r.0, elim r.1 [ inl i ↦ (make-step m g o r.0 n true i).0 | inr i ↦ (fill-step m g o r.0 n i).1 ])

-- whoever comes by a cell comes by it alone
incoming-or-not : (m : NodeId → Bool) (a : CellId) (k : NodeId) (b e : Bool) (ms : List CellMark) → (incoming_nodes (step_cell m a k b e ∷ ms) ≡ incoming_nodes ms) ⊎ ((incoming_nodes (step_cell m a k b e ∷ ms) ≡ k ∷ incoming_nodes ms) × (e ≡ true))
incoming-or-not m a k true true ms = go (m k)
  where
    go : (z : Bool) → (incoming_nodes (cond z (Touch a k Stay) Counted ∷ ms) ≡ incoming_nodes ms) ⊎ ((incoming_nodes (cond z (Touch a k Stay) Counted ∷ ms) ≡ k ∷ incoming_nodes ms) × (true ≡ true))
    go true = inl refl
    go false = inl refl
incoming-or-not m a k true false ms = inl refl
incoming-or-not m a k false true ms = inr (refl, refl)
incoming-or-not m a k false false ms = inl refl

-- no node stands in two cells
abbrev pub StandsOnce : List Slot → Type 0
StandsOnce d = (a b : CellId) (n : NodeId) → Has d (cell_with a n true) → Has d (cell_with b n true) → a ≡ b

-- whoever is in the first cell doesn't come in behind it
not-behind : (m : NodeId → Bool) {c d : List Slot} (g : GainsItems SameCell c d) (t : Slot) → AreDistinct (λ (s : Slot). s.cell) (t ∷ d) → StandsOnce (t ∷ d) → t.full ≡ true → (n : NodeId) → Has (incoming_nodes (step_row m g)) n → n ≢ t.node
not-behind m {d = d} g t o one f n h e =
    let r = in-after m g o.1 n h in
    let same = one r.0 t.cell n (inr r.1) (has-cell (t ∷ d) t t.cell n true (inl refl) refl (sym e) f) in
    all-has (λ (s : Slot). s.cell ≢ t.cell) d (cell_with r.0 n true) o.0 r.1 same

pub incoming-once : (m : NodeId → Bool) {c d : List Slot} (g : GainsItems SameCell c d) → AreDistinct (λ (s : Slot). s.cell) d → StandsOnce d → AreDistinct (λ (n : NodeId). n) (incoming_nodes (step_row m g))
incoming-once m no_more o one = tt
incoming-once m (item_gained {y = t} {ys = d} g) o one = elim t.full as (λ b. t.full ≡ b → AreDistinct (λ (n : NodeId). n) (cond b (t.node ∷ []) [] ++ incoming_nodes (step_row m g))) [
  | true ↦ (λ f. (has-all (λ n. n ≢ t.node) (incoming_nodes (step_row m g)) (not-behind m g t o one f), incoming-once m g o.1 (λ a b n h i. one a b n (inr h) (inr i))))
  | false ↦ (λ f. incoming-once m g o.1 (λ a b n h i. one a b n (inr h) (inr i)))
] refl
incoming-once m (item_kept {x = s} {y = t} a g) o one = elim (incoming-or-not m s.cell s.node s.full t.full (step_row m g)) [
  | inl e ↦ subst (AreDistinct (λ (n : NodeId). n)) (sym e) (incoming-once m g o.1 (λ a b n h i. one a b n (inr h) (inr i)))
  | inr e ↦ subst (AreDistinct (λ (n : NodeId). n)) (sym e.0) (
    has-all (λ n. n ≢ s.node) (incoming_nodes (step_row m g)) (λ n h q. not-behind m g t o one e.1 n h (q ∙ a.1)),
    incoming-once m g o.1 (λ a b n h i. one a b n (inr h) (inr i)),
  )
]
