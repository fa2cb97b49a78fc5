-- A step followed by one or by another, both of which lead from one document: what either composition shows before is the same.
use Rattle.std.proofs.Common.{◌≡◌, ◌≢◌, ◌⊎◌, ◌||◌, ◌++◌, ℕ, Bool, true, false, not, List, slice_get, Option, Some, None, option_map, cond, refl, sym, ap, ◌∙◌, subst, inl, inr}
use Rattle.std.specs.List.{AllZip, flat_map, list_any}
use Rattle.st_ids.specs.Listing.{Has}
use Rattle.st_ids.specs.Order.{same_node}
use Rattle.st_ids.specs.Root.{root}
use Rattle.st_ids.specs.declared.names.FieldId.{FieldId}
use Rattle.st_ids.specs.declared.names.NodeId.{NodeId}
use Rattle.st_lemmas.proofs.Bools.{or-cases, refuted-false, true-false}
use Rattle.st_lemmas.proofs.Options.{one_some}
use Rattle.st_marks.specs.declared.marks.How.{How}
use Rattle.st_marks.specs.declared.marks.How.TheVariants.{Stay, Leave}
use Rattle.st_marks.specs.declared.marks.Loose.{Loose}
use Rattle.st_marks.specs.declared.marks.RegStep.{RegStep}
use Rattle.st_marks.specs.declared.marks.RowMarks.{RowMarks}
use Rattle.st_marks.specs.declared.places.Slot.{Slot}
use Rattle.st_marks.specs.declared.places.Spot.{Spot}
use Rattle.st_marks.specs.declared.steps.Step.{Step}
use Rattle.st_marks.specs.Document.{Document, IsSoundInForm, content}
use Rattle.st_marks.specs.Embedding.{tells}
use Rattle.st_marks.specs.Extends.{IsExtendedBy}
use Rattle.st_marks.specs.Intent.{same_option}
use Rattle.st_marks.specs.Listings.{CellView, Places, cell_view, cells_before, listing_before_step, nodes_loose, placed_in_register, placed_in_row, placed_nowhere}
use Rattle.st_marks.specs.Register.{holds_mentioned}
use Rattle.st_marks.specs.Row.{CellMark, SameCell, merge, spread, step_row}
use Rattle.st_marks.specs.Step.{IsStep}
use Rattle.st_marks.proofs.Climb.{stands}
use Rattle.st_marks.proofs.Members.{append_right, has-map, map-has}
use Rattle.st_marks.proofs.Unique.{distinct_content}
use Rattle.st_normal.specs.Rules.{IsFoundAs, entries_of_step, found_in, found_loose, found_over, in_rows}
use Rattle.st_normal.specs.declared.entries.Found.{Found}
use Rattle.st_normal.proofs.NoRings.{among_has}
use Rattle.st_puts.specs.Seen.{AreAsSeen}
use Rattle.st_puts.proofs.Basics.{row-not-nowhere}
use Rattle.st_puts.proofs.StepPlaces.{FoundAt, at_loose, at_register, at_row, empty-not, found-at, found-named, held-place, loose-place, moved, named-found, one-or-other, row-listed, row-look, slot-known, touch-place}
use Rattle.st_puts.proofs.StepRows.{kept-mark}
use Rattle.st_rows.proofs.Documents.{in_document}
use Rattle.st_rows.proofs.KindLaws.{spread-merge}
use Rattle.st_agree_laws.proofs.ShownTruth.{step_true}
use Rattle.st_normal_step_laws.proofs.StepsFind.{finds_what_is_so}
use Rattle.st_three_laws.proofs.Between.{IsTold, one-index, pick, pick-has, rows-under, told-before, zip-at, zip-flip}
use Rattle.st_three_laws.proofs.NextRows.{as-slot, same-slot, unfilled, unmentioned}
use Rattle.st_three_laws.proofs.RowsTold.{AreAlike, seen-alike, untold-row}
use Rattle.st_three_laws.proofs.Split.{mention-split, row-split}

-- ## One step

module _ (A B : Document) (S : Step) (x : IsExtendedBy A B) (s : IsStep A B S) where
  abbrev pub lists : NodeId → Bool
  lists k = list_any tells (step_row s.mentioned (s.grows k))

  abbrev pub Named : Slot → Type 0
  Named v = s.mentioned v.node ≡ true

  abbrev pub Filled : NodeId → Slot → Type 0
  Filled k v = B.place v.node ≡ Spot.Row k v.cell

  pub lists-mention : (k : NodeId) (v : Slot) → Has (content A k) v → v.full ≡ true → s.mentioned v.node ≡ true → lists k ≡ true
  lists-mention k v h f m = go (lists k) refl
    where
      go : (b : Bool) → lists k ≡ b → lists k ≡ true
      go true e = e
      go false e = absurd (unmentioned A B S x s k e v h f m)

  pub lists-fill : (k : NodeId) (v : Slot) → Has (content A k) v → v.full ≡ false → Filled k v → lists k ≡ true
  lists-fill k v h f m = go (lists k) refl
    where
      go : (b : Bool) → lists k ≡ b → lists k ≡ true
      go true e = e
      go false e = absurd (unfilled A B S x s k e v h f m)

  pub told-row : (k : NodeId) → AllZip (IsTold Named (Filled k)) (content A k) (cells_before (step_row s.mentioned (s.grows k)))
  told-row k = told-before s.mentioned (Filled k) (s.grows k)
      (λ v p i same f. stands B x.after v.node k v.cell (same-slot (content B k) v p true same f i))
      (λ v p h i same f g. moved A B S x s v.node (slot-known A x.before k v h).1 (λ e. empty-not B v.node k v.cell (same-slot (content B k) v p false same g i) (sym e ∙ stands A x.before v.node k v.cell (as-slot (content A k) v true f h))))

  -- a row that is shown is told
  pub listed-row : (k : NodeId) (cells : List CellView) → (listing_before_step S).row k ≡ Some cells → (lists k ≡ true) × (cells_before (step_row s.mentioned (s.grows k)) ≡ cells)
  listed-row k cells e = go (lists k) refl (sym (ap (option_map (λ (r : RowMarks). cells_before (spread r.marks))) (s.rows.at_each k)) ∙ e)
    where
      told_marks : List CellMark
      told_marks = step_row s.mentioned (s.grows k)

      go : (b : Bool) → lists k ≡ b → option_map (λ (r : RowMarks). cells_before (spread r.marks)) (cond b (Some (record { node = k; marks = merge told_marks })) None) ≡ Some cells → (b ≡ true) × (cells_before told_marks ≡ cells)
      go true f h = (refl, ap cells_before (sym (spread-merge told_marks)) ∙ one_some (cells_before (spread (merge told_marks))) cells h)
      go false f h = cc

  abbrev pub differs : FieldId → Bool
  differs f = not (same_option same_node (A.held f) (B.held f)) || holds_mentioned s.mentioned (A.held f)

  pub listed-register : (f : FieldId) (o : Option NodeId) → (listing_before_step S).register f ≡ Some o → differs f ≡ true
  listed-register f o e = go (differs f) refl (sym (ap (option_map (λ (r : RegStep). r.before)) (s.regs.at_each f)) ∙ e)
    where
      go : (b : Bool) → differs f ≡ b → option_map (λ (r : RegStep). r.before) (cond b (Some (record { field = f; before = A.held f; after = B.held f })) None) ≡ Some o → b ≡ true
      go true h k = refl
      go false h k = cc

  -- where it shows a node the node is, and it mentions the node
  pub says : (n : NodeId) (p : Spot) → Places (listing_before_step S) n p → (A.place n ≡ p) × (s.mentioned n ≡ true) × (n ≢ root)
  says n p (placed_in_row k m c cells i e f) =
      let l = listed-row k cells e in
      let v = zip-at (λ x v. IsTold Named (Filled k) v x) cells (content A k) i (cell_view c m true) (subst (λ xs. AllZip (λ x v. IsTold Named (Filled k) v x) xs (content A k)) l.1 (zip-flip (IsTold Named (Filled k)) (content A k) (cells_before (step_row s.mentioned (s.grows k))) (told-row k))) f in
      let here : A.place m ≡ Spot.Row k c = stands A x.before m k c (subst (Has (content A k)) (λ i. record { cell = sym v.4.seen.1 i; node = sym v.4.seen.2 i; full = sym v.4.seen.0 i }) v.3) in
      (here, named v.0 v.4 (v.4.node m refl), λ r. row-not-nowhere k c (sym here ∙ ap A.place r ∙ x.before.root_nowhere))
    where
      named : (v : Slot) → IsTold Named (Filled k) v (cell_view c m true) → ((v.full ≡ true) × Named v) ⊎ ((v.full ≡ false) × Filled k v) → s.mentioned m ≡ true
      named v t (inl h) = ap s.mentioned t.seen.2 ∙ h.1
      named v t (inr h) = absurd (true-false (sym t.seen.0) h.0)
  says n p (placed_in_register f m e) =
      let held : A.held f ≡ Some m = (step_true A B S s).registers f (Some m) e in
      let here = (x.before.one_held m f).0 held in
      (here, mention held here (listed-register f (Some m) e), λ r. bad f (sym here ∙ ap A.place r ∙ x.before.root_nowhere))
    where
      bad : (f : FieldId) → Spot.Register f ≡ Spot.Nowhere → ⊥
      bad f e = cc

      not-so : (b : Bool) → b ≡ true → not b ≡ true → ⊥
      not-so true e f = true-false f refl
      not-so false e f = true-false e refl

      mention : A.held f ≡ Some m → A.place m ≡ Spot.Register f → differs f ≡ true → s.mentioned m ≡ true
      mention held here d = elim (or-cases (not (same_option same_node (A.held f) (B.held f))) (holds_mentioned s.mentioned (A.held f)) d) [
        | inr h ↦ ap (holds_mentioned s.mentioned) (sym held) ∙ h
        | inl h ↦ elim (one-or-other (A.held f) (B.held f)) [
          | inl q ↦ absurd (not-so (same_option same_node (A.held f) (B.held f)) q.1 h)
          | inr q ↦ moved A B S x s m (x.before.held_known m f held).0 (λ k. q.0 (held ∙ sym ((x.after.one_held m f).1 (sym k ∙ here))))
        ]
      ]
  says n p (placed_nowhere m e) =
      let l = has-map (λ (l : Loose). l.node) S.loose m ((among_has (nodes_loose S.loose) m).0 e) in
      let f : Found = record { node = l.0.node; how = l.0.how } in
      let q = found-named A B S x s l.0.node (map-has (λ (f : Found). f.node) (entries_of_step S).found f (append_right (in_rows found_in S.rows) (flat_map found_over S.regs ++ found_loose S.loose) f
      (append_right (flat_map found_over S.regs) (found_loose S.loose) f (map-has (λ (l : Loose). let f : Found = record { node = l.node; how = l.how } in f) S.loose l.0 l.1)))) in
      ((step_true A B S s).nowhere m e, subst (λ n. s.mentioned n ≡ true) l.2 q.0, subst (λ n. n ≢ root) l.2 q.1)

-- ## One step between two pairs of documents

module _ (A B C D : Document) (S : Step) (x : IsExtendedBy A B) (s : IsStep A B S) (y : IsExtendedBy C D) (q : IsStep C D S) where
  pub lists-there : (k : NodeId) → lists A B S x s k ≡ true → lists C D S y q k ≡ true
  lists-there k e = let r = row-listed A B S x s k e in subst (λ n. list_any tells (step_row q.mentioned (q.grows n)) ≡ true) r.2 (row-look C D S y q r.0 r.1).1

  pub marks-there : (k : NodeId) → lists A B S x s k ≡ true → step_row s.mentioned (s.grows k) ≡ step_row q.mentioned (q.grows k)
  marks-there k e = let r = row-listed A B S x s k e in sym r.3 ∙ subst (λ n. spread r.0.marks ≡ step_row q.mentioned (q.grows n)) r.2 (row-look C D S y q r.0 r.1).0

  pub step-alike : (k : NodeId) → lists A B S x s k ≡ true → AllZip (AreAlike (Named A B S x s) (Filled A B S x s k)) (content A k) (content C k)
  step-alike k e = seen-alike s.mentioned (Filled A B S x s k) (s.grows k) (λ v p i same f h. empty-not B v.node k v.cell (same-slot (content B k) v p false same f i) h) (content C k) sees
    where
      sees : AreAsSeen (content C k) (cells_before (step_row s.mentioned (s.grows k)))
      sees = let r = row-listed A B S x s k e in
          subst (λ ms. AreAsSeen (content C k) (cells_before ms)) r.3 (subst (λ n. AreAsSeen (content C n) (cells_before (spread r.0.marks))) r.2 ((finds_what_is_so C D S y q).rows r.0 r.1))

  found-there : (n : NodeId) (h : How) → IsFoundAs (entries_of_step S) n h → A.place n ≡ C.place n
  found-there n h i = at (found-at A B S x s (record { node = n; how = h }) i).0
    where
      at : FoundAt A B S x s n h → A.place n ≡ C.place n
      at (at_row r a j k p) = p ∙ sym (touch-place C D S y q r a n h j k).0
      at (at_register r j e p) = p ∙ sym (held-place C D S y q r n j e).0
      at (at_loose l j e p u) = p ∙ sym (subst (λ n. C.place n ≡ Spot.Nowhere) e (loose-place C D S y q l j).0)

  pub mention-there : (n : NodeId) → s.mentioned n ≡ true → n ≢ root → A.place n ≡ C.place n
  mention-there n m u = elim (named-found A B S x s n m u) [ inl w ↦ found-there n Stay w.1 | inr w ↦ found-there n Leave w.1 ]

pub quiet-there : (A B C D : Document) (S : Step) (x : IsExtendedBy A B) (s : IsStep A B S) (y : IsExtendedBy C D) (q : IsStep C D S) (k : NodeId) → lists A B S x s k ≡ false → lists C D S y q k ≡ false
quiet-there A B C D S x s y q k e = refuted-false (lists C D S y q k) (λ h. true-false (lists-there C D A B S y q x s k h) e)

pub same-index : (A : Document) → IsSoundInForm A → (n m : NodeId) (k l : ℕ) (v q : Slot) → slice_get (content A n) k ≡ Some v → slice_get (content A m) l ≡ Some q → Has (content A n) v → Has (content A m) q → v.cell ≡ q.cell → (n ≡ m) × (k ≡ l)
same-index A x n m k l v q e f h i same =
    let row : n ≡ m = one_some n m (sym (in_document A x n v.cell (map-has (λ (s : Slot). s.cell) (content A n) v h)) ∙ ap A.row_of same ∙ in_document A x m q.cell (map-has (λ (s : Slot). s.cell) (content A m) q i)) in
    (row, one-index (content A m) k l v q (distinct_content A (A.rows m) (x.once m)) (ap (λ n. slice_get (content A n) k) (sym row) ∙ e) f same)

-- ## A step, and then one of the two

module _ (D E F : Document) (a b u : Step) (x : IsExtendedBy D E) (y : IsExtendedBy E F) (z : IsExtendedBy D F) (s : IsStep D E a) (t : IsStep E F b) (w : IsStep D F u)
    (M B : Document) (xb : IsExtendedBy M B) (sb : IsStep M B b) where
  -- who stands in a full cell, and isn't mentioned by the first, stays there
  pub stays : (k : NodeId) (v p : Slot) → Has (content D k) v → Has (content E k) p → SameCell v p → v.full ≡ true → s.mentioned v.node ≡ false → p.full ≡ true
  stays k v p h i same f m = go p.full refl
    where
      go : (c : Bool) → p.full ≡ c → p.full ≡ true
      go true e = e
      go false e = absurd (true-false (moved D E a x s v.node (slot-known D x.before k v h).1 (λ j. empty-not E v.node k v.cell (same-slot (content E k) v p false same e i) (sym j ∙ stands D x.before v.node k v.cell (as-slot (content D k) v true f h)))) m)

  pub then-mentions : (n : NodeId) → w.mentioned n ≡ true → s.mentioned n ≡ false → t.mentioned n ≡ true
  then-mentions n h e = elim (mention-split D E F a b u x y z s t w n h) [ inl m ↦ absurd (true-false m e) | inr m ↦ m ]

  pub then-lists : (k : NodeId) → lists D F u z w k ≡ true → lists D E a x s k ≡ false → lists E F b y t k ≡ true
  then-lists k h e = go (lists E F b y t k) refl
    where
      go : (c : Bool) → lists E F b y t k ≡ c → lists E F b y t k ≡ true
      go true f = f
      go false f = absurd (row-split D E F a b u x y z s t w k h e f)

  -- where a cell that both as one tell is told: by the first; or in the row of the document in the middle, among the cells that the
  -- first doesn't make
  pub data CellFrom (n : NodeId) (k : ℕ) (v : Slot) : Type 0 where
    by_first : lists D E a x s n ≡ true → (v.full ≡ false) ⊎ ((v.full ≡ true) × (s.mentioned v.node ≡ true)) → CellFrom n k v
    by_picked : lists D E a x s n ≡ true → (e : Slot) → slice_get (pick (step_row s.mentioned (s.grows n)) (content M n)) k ≡ Some e → Has (content M n) e → v.cell ≡ e.cell → CellFrom n k v
    by_next : lists D E a x s n ≡ false → (e : Slot) → slice_get (content M n) k ≡ Some e → Has (content M n) e → v.cell ≡ e.cell → CellFrom n k v

  pub cell-from : (n : NodeId) (k : ℕ) (v : Slot) → lists D F u z w n ≡ true → slice_get (content D n) k ≡ Some v → Has (content D n) v → (v.full ≡ false) ⊎ ((v.full ≡ true) × (w.mentioned v.node ≡ true)) → CellFrom n k v
  cell-from n k v listed e h told = go (lists D E a x s n) refl told
    where
      alike : lists E F b y t n ≡ true → AllZip (AreAlike (Named E F b y t) (Filled E F b y t n)) (content E n) (content M n)
      alike l = step-alike E F M B b y t xb sb n l

      go : (c : Bool) → lists D E a x s n ≡ c → (v.full ≡ false) ⊎ ((v.full ≡ true) × (w.mentioned v.node ≡ true)) → CellFrom n k v
      go true f (inl g) = by_first f (inl g)
      go true f (inr g) = at (s.mentioned v.node) refl
        where
          at : (c : Bool) → s.mentioned v.node ≡ c → CellFrom n k v
          at true m = by_first f (inr (g.0, m))
          at false m =
              let there = kept-mark s.mentioned (s.grows n) v h in
              let full = stays n v there.slot h there.there there.same g.0 m in
              let next = then-mentions v.node g.1 m in
              let l = lists-mention E F b y t n there.slot there.there full (ap t.mentioned (sym there.same.1) ∙ next) in
              let r = zip-at (λ v e. v.full ≡ true → s.mentioned v.node ≡ false → t.mentioned v.node ≡ true → v.cell ≡ e.cell) (content D n) (pick (step_row s.mentioned (s.grows n)) (content M n)) k v
              (rows-under s.mentioned (AreAlike (Named E F b y t) (Filled E F b y t n)) (λ v e. v.full ≡ true → s.mentioned v.node ≡ false → t.mentioned v.node ≡ true → v.cell ≡ e.cell) (s.grows n) (content M n)
              (λ v p e i j same q f m o. same.0 ∙ (q.named (stays n v p i j same f m) (ap t.mentioned (sym same.1) ∙ o)).0) (alike l)) e in
              by_picked f r.0 r.1 (pick-has (step_row s.mentioned (s.grows n)) (content M n) r.0 r.3) (r.4 g.0 m next)
      go false f told =
          let same = untold-row s.mentioned (s.grows n) f in
          let r = zip-at (AreAlike (Named E F b y t) (Filled E F b y t n)) (content E n) (content M n) k v (alike (then-lists n listed f)) (ap (λ c. slice_get c k) (sym same) ∙ e) in
          by_next f r.0 r.1 r.3 (elim told [
            | inl g ↦ r.4.empty g
            | inr g ↦ (r.4.named g.0 (then-mentions v.node g.1 (refuted-false (s.mentioned v.node) (λ m. unmentioned D E a x s n f v h g.0 m)))).0
          ])
