-- What two compositions that begin with one step show before doesn't differ, where their second steps lead from one document.
use Rattle.std.proofs.Common.{◌≡◌, ◌≢◌, ◌⊎◌, ◌||◌, ℕ, Bool, true, false, not, List, slice_get, Option, Some, None, IsSome, refl, sym, ap, ◌∙◌, subst, inl, inr}
use Rattle.std.specs.List.{AllZip}
use Rattle.st_ids.specs.Listing.{Has}
use Rattle.st_ids.specs.Order.{same_node}
use Rattle.st_ids.specs.Root.{root}
use Rattle.st_ids.specs.declared.names.CellId.{CellId}
use Rattle.st_ids.specs.declared.names.FieldId.{FieldId}
use Rattle.st_ids.specs.declared.names.NodeId.{NodeId}
use Rattle.st_lemmas.proofs.Bools.{or-cases, or-left, or-right, true-false}
use Rattle.st_lemmas.proofs.Options.{one_some}
use Rattle.st_marks.specs.declared.places.Slot.{Slot}
use Rattle.st_marks.specs.declared.places.Spot.{Spot}
use Rattle.st_marks.specs.declared.steps.Step.{Step}
use Rattle.st_marks.specs.Agree.{IsSameView, SameIfBoth}
use Rattle.st_marks.specs.Document.{Document, content}
use Rattle.st_marks.specs.Extends.{IsExtendedBy}
use Rattle.st_marks.specs.Intent.{same_option}
use Rattle.st_marks.specs.Listings.{CellView, Listing, ListsCell, cells_before, listing_before_step}
use Rattle.st_marks.specs.Register.{holds_mentioned}
use Rattle.st_marks.specs.Row.{SameCell, step_row}
use Rattle.st_marks.specs.Step.{IsStep}
use Rattle.st_marks.proofs.Climb.{same_spot, stands}
use Rattle.st_marks.proofs.Members.{map-has}
use Rattle.st_marks.proofs.Unique.{distinct_content}
use Rattle.st_agree_laws.proofs.ShownTruth.{step_true}
use Rattle.st_puts.proofs.StepPlaces.{has-reg, known, moved, one-or-other}
use Rattle.st_rows.proofs.Documents.{in_document}
use Rattle.st_normal_step_laws.proofs.StepsFind.{finds_what_is_so}
use Rattle.st_pair_laws.proofs.Alike.{ShowAlike}
use Rattle.st_three_laws.proofs.Between.{AreBoth, IsTold, alike-both, one-index, pick, pick-once, rows-back, views-same, zip-at, zip-each, zip-flip, zip-join}
use Rattle.st_three_laws.proofs.JointSide.{AtOnePlace}
use Rattle.st_three_laws.proofs.NextRows.{same-slot, unmentioned}
use Rattle.st_three_laws.proofs.RowsTold.{AreAlike, rows-on, untold-row, zip-both}
use Rattle.st_three_laws.proofs.Split.{mention-split}
use Rattle.st_three_laws.proofs.StepsBeside.{CellFrom, Filled, Named, by_first, by_next, by_picked, cell-from, differs, lists, lists-fill, lists-mention, lists-there, listed-register, listed-row, marks-there, mention-there, quiet-there, same-index, says, stays, step-alike, then-lists, then-mentions, told-row}

-- a register of which the first tells nothing holds whom it held, and the next step tells of it where both as one do
untold-register : (A B C : Document) (a b u : Step) (x : IsExtendedBy A B) (y : IsExtendedBy B C) (z : IsExtendedBy A C) (s : IsStep A B a) (t : IsStep B C b) (w : IsStep A C u)
    (f : FieldId) → differs A C u z w f ≡ true → differs A B a x s f ≡ false → (A.held f ≡ B.held f) × (differs B C b y t f ≡ true)
untold-register A B C a b u x y z s t w f e none = (same, told)
  where
    same : A.held f ≡ B.held f
    same = elim (one-or-other (A.held f) (B.held f)) [
      | inl q ↦ q.0
      | inr q ↦ absurd (true-false (or-left (not (same_option same_node (A.held f) (B.held f))) (holds_mentioned s.mentioned (A.held f)) (ap not q.1)) none)
    ]

    holder : (h : Option NodeId) → A.held f ≡ h → holds_mentioned w.mentioned h ≡ true → holds_mentioned t.mentioned h ≡ true
    holder None k m = m
    holder (Some n) k m = elim (mention-split A B C a b u x y z s t w n m) [
      | inl i ↦ absurd (true-false (or-right (not (same_option same_node (A.held f) (B.held f))) (holds_mentioned s.mentioned (A.held f)) (ap (holds_mentioned s.mentioned) k ∙ i)) none)
      | inr i ↦ i
    ]

    told : differs B C b y t f ≡ true
    told = subst (λ h. (not (same_option same_node h (C.held f)) || holds_mentioned t.mentioned h) ≡ true) same (elim (or-cases (not (same_option same_node (A.held f) (C.held f))) (holds_mentioned w.mentioned (A.held f)) e) [
      | inl n ↦ or-left (not (same_option same_node (A.held f) (C.held f))) (holds_mentioned t.mentioned (A.held f)) n
      | inr h ↦ or-right (not (same_option same_node (A.held f) (C.held f))) (holds_mentioned t.mentioned (A.held f)) (holder (A.held f) refl h)
    ])

unmoved : (A B : Document) (S : Step) (e : IsExtendedBy A B) (q : IsStep A B S) (n : NodeId) → IsSome (A.nodes n) → q.mentioned n ≡ false → A.place n ≡ B.place n
unmoved A B S e q n h m = elim (same_spot (A.place n) (B.place n)) [ inl k ↦ k | inr k ↦ absurd (true-false (moved A B S e q n h k) m) ]

same-back : {A : Type 0} (o p : Option A) → SameIfBoth o p → SameIfBoth p o
same-back None None s = tt
same-back None (Some b) s = tt
same-back (Some a) None s = tt
same-back (Some a) (Some b) s = sym s

view-back : (v q : CellView) → IsSameView v q → IsSameView q v
view-back v q s = record { full = sym s.full; cell = same-back v.cell q.cell s.cell; node = same-back v.node q.node s.node }

module _ (D E F : Document) (a b u : Step) (x : IsExtendedBy D E) (y : IsExtendedBy E F) (z : IsExtendedBy D F) (s : IsStep D E a) (t : IsStep E F b) (w : IsStep D F u)
    (G H K : Document) (d r : Step) (x' : IsExtendedBy G H) (y' : IsExtendedBy H K) (z' : IsExtendedBy G K) (s' : IsStep G H a) (t' : IsStep H K d) (w' : IsStep G K r)
    (M B N : Document) (xb : IsExtendedBy M B) (sb : IsStep M B b) (xd : IsExtendedBy M N) (sd : IsStep M N d) where
  abbrev L : Listing
  L = listing_before_step u

  abbrev R : Listing
  R = listing_before_step r

  -- ## Rows

  module _ (k : NodeId) (lu : lists D F u z w k ≡ true) (lr : lists G K r z' w' k ≡ true) where
    abbrev Both : Slot → Slot → Type 0
    Both = AreBoth (Named D F u z w) (Filled D F u z w k) (Named G K r z' w') (Filled G K r z' w' k)

    abbrev Next : Slot → Slot → Type 0
    Next = AreBoth (Named E F b y t) (Filled E F b y t k) (Named H K d y' t') (Filled H K d y' t' k)

    next : lists E F b y t k ≡ true → lists H K d y' t' k ≡ true → AllZip Next (content E k) (content H k)
    next lb ld = zip-join (AreAlike (Named E F b y t) (Filled E F b y t k)) (AreAlike (Named H K d y' t') (Filled H K d y' t' k)) Next (content E k) (content M k) (content H k)
        (λ v e q p o. alike-both (Named E F b y t) (Filled E F b y t k) (Named H K d y' t') (Filled H K d y' t' k) v e q p o)
        (step-alike E F M B b y t xb sb k lb) (step-alike H K M N d y' t' xd sd k ld)

    abbrev First : Slot → Slot → Type 0
    First v q = AreAlike (Named D E a x s) (Filled D E a x s k) v q × AreAlike (Named G H a x' s') (Filled G H a x' s' k) q v

    abbrev Later : Slot → Slot → Type 0
    Later p o = lists E F b y t k ≡ true → lists H K d y' t' k ≡ true → Next p o

    abbrev never : Slot → Type 0
    never v = ⊥

    later : lists D E a x s k ≡ true → AllZip Later (content E k) (content H k)
    later e = go (lists E F b y t k) refl (lists H K d y' t' k) refl
      where
        alike : AllZip (AreAlike never never) (content E k) (content H k)
        alike = rows-on s.mentioned s'.mentioned (Named D E a x s) (Filled D E a x s k) never never (s.grows k) (s'.grows k) (marks-there D E G H a x s x' s' k e)
            (λ v p h i same f g n. absurd n) (λ v p h i same f g n. absurd n) (step-alike D E G H a x s x' s' k e)

        go : (c : Bool) → lists E F b y t k ≡ c → (o : Bool) → lists H K d y' t' k ≡ o → AllZip Later (content E k) (content H k)
        go true lb true ld = zip-each Next Later (content E k) (content H k) (λ p o i j n h l. n) (next lb ld)
        go true lb false ld = zip-each (AreAlike never never) Later (content E k) (content H k) (λ p o i j n h l. absurd (true-false l ld)) alike
        go false lb o ld = zip-each (AreAlike never never) Later (content E k) (content H k) (λ p o i j n h l. absurd (true-false h lb)) alike

    pair : (v p q o : Slot) → Has (content D k) v → Has (content E k) p → Has (content G k) q → Has (content H k) o → SameCell v p → SameCell q o → First v q → Later p o → Both v q
    pair v p q o hv hp hq ho same same' first l = record { full = first.0.full; empty = first.0.empty; named = named; filled = filled }
      where
        named : v.full ≡ true → w.mentioned v.node ≡ true → w'.mentioned q.node ≡ true → SameCell v q
        named f n m = go (s.mentioned v.node) refl (s'.mentioned q.node) refl
          where
            full : q.full ≡ true
            full = sym first.0.full ∙ f

            go : (c : Bool) → s.mentioned v.node ≡ c → (e : Bool) → s'.mentioned q.node ≡ e → SameCell v q
            go true g e h = first.0.named f g
            go false g true h = let c = first.1.named full h in (sym c.0, sym c.1)
            go false g false h =
                let pf = stays D E F a b u x y z s t w M B xb sb k v p hv hp same f g in
                let of = stays G H K a d r x' y' z' s' t' w' M N xd sd k q o hq ho same' full h in
                let nb = ap t.mentioned (sym same.1) ∙ then-mentions D E F a b u x y z s t w M B xb sb v.node n g in
                let nd = ap t'.mentioned (sym same'.1) ∙ then-mentions G H K a d r x' y' z' s' t' w' M N xd sd q.node m h in
                let c = (l (lists-mention E F b y t k p hp pf nb) (lists-mention H K d y' t' k o ho of nd)).named pf nb nd in
                (same.0 ∙ c.0 ∙ sym same'.0, same.1 ∙ c.1 ∙ sym same'.1)

        filled : v.full ≡ false → Filled D F u z w k v → Filled G K r z' w' k q → v.node ≡ q.node
        filled f n m = go p.full refl o.full refl
          where
            empty : q.full ≡ false
            empty = sym first.0.full ∙ f

            go : (c : Bool) → p.full ≡ c → (e : Bool) → o.full ≡ e → v.node ≡ q.node
            go true g e h = first.0.filled f (stands E x.after v.node k v.cell (same-slot (content E k) v p true same g hp))
            go false g true h = sym (first.1.filled empty (stands H x'.after q.node k q.cell (same-slot (content H k) q o true same' h ho)))
            go false g false h =
                let nb : Filled E F b y t k p = ap F.place (sym same.1) ∙ n ∙ ap (Spot.Row k) same.0 in
                let nd : Filled H K d y' t' k o = ap K.place (sym same'.1) ∙ m ∙ ap (Spot.Row k) same'.0 in
                same.1 ∙ (l (lists-fill E F b y t k p hp g nb) (lists-fill H K d y' t' k o ho h nd)).filled g nb nd ∙ sym same'.1

    row-both : AllZip Both (content D k) (content G k)
    row-both = go (lists D E a x s k) refl
      where
        go : (c : Bool) → lists D E a x s k ≡ c → AllZip Both (content D k) (content G k)
        go true e = rows-back s.mentioned s'.mentioned First Later Both (s.grows k) (s'.grows k) (marks-there D E G H a x s x' s' k e) pair
            (zip-both (AreAlike (Named D E a x s) (Filled D E a x s k)) (λ v q. AreAlike (Named G H a x' s') (Filled G H a x' s' k) q v) (content D k) (content G k)
            (step-alike D E G H a x s x' s' k e)
            (zip-flip (AreAlike (Named G H a x' s') (Filled G H a x' s' k)) (content G k) (content D k) (step-alike G H D E a x' s' x s k (lists-there D E G H a x s x' s' k e))))
            (later e)
        go false e =
            let e' = quiet-there D E G H a x s x' s' k e in
            let n = next (then-lists D E F a b u x y z s t w M B xb sb k lu e) (then-lists G H K a d r x' y' z' s' t' w' M N xd sd k lr e') in
            zip-each Next Both (content D k) (content G k)
            (λ v q i j p. record {
              full = p.full;
              empty = p.empty;
              named = λ f n m. p.named f (told-next v i f n e) (told-then q j (sym p.full ∙ f) m e');
              filled = p.filled;
            })
            (subst (λ c. AllZip Next c (content G k)) (sym (untold-row s.mentioned (s.grows k) e)) (subst (λ c. AllZip Next (content E k) c) (sym (untold-row s'.mentioned (s'.grows k) e')) n))
          where
            told-next : (v : Slot) → Has (content D k) v → v.full ≡ true → w.mentioned v.node ≡ true → lists D E a x s k ≡ false → t.mentioned v.node ≡ true
            told-next v i f n e = elim (mention-split D E F a b u x y z s t w v.node n) [ inl m ↦ absurd (unmentioned D E a x s k e v i f m) | inr m ↦ m ]

            told-then : (v : Slot) → Has (content G k) v → v.full ≡ true → w'.mentioned v.node ≡ true → lists G H a x' s' k ≡ false → t'.mentioned v.node ≡ true
            told-then v i f n e = elim (mention-split G H K a d r x' y' z' s' t' w' v.node n) [ inl m ↦ absurd (unmentioned G H a x' s' k e v i f m) | inr m ↦ m ]

  rows : (k : NodeId) (xs ys : List CellView) → L.row k ≡ Some xs → R.row k ≡ Some ys → AllZip IsSameView xs ys
  rows k xs ys e f =
      let p = listed-row D F u z w k xs e in
      let q = listed-row G K r z' w' k ys f in
      subst (λ c. AllZip IsSameView c ys) p.1 (subst (λ c. AllZip IsSameView (cells_before (step_row w.mentioned (w.grows k))) c) q.1
      (views-same (Named D F u z w) (Filled D F u z w k) (Named G K r z' w') (Filled G K r z' w' k) (content D k) (content G k)
      (cells_before (step_row w.mentioned (w.grows k))) (cells_before (step_row w'.mentioned (w'.grows k))) (told-row D F u z w k) (told-row G K r z' w' k) (row-both k p.0 q.0)))

  -- ## Cells

  -- a cell that is listed is one of the document, at that place of the row
  record IsListedAt (V W : Document) (S : Step) (e : IsExtendedBy V W) (q : IsStep V W S) (n : NodeId) (k : ℕ) (c : CellId) : Type 0 where
    slot : Slot
    here : slice_get (content V n) k ≡ Some slot
    there : Has (content V n) slot
    cell : c ≡ slot.cell
    told : (slot.full ≡ false) ⊎ ((slot.full ≡ true) × (q.mentioned slot.node ≡ true))
    row : lists V W S e q n ≡ true

  listed-at : (V W : Document) (S : Step) (e : IsExtendedBy V W) (q : IsStep V W S) (n : NodeId) (k : ℕ) (c : CellId) (o : Option NodeId) → ListsCell (listing_before_step S) c n k o → IsListedAt V W S e q n k c
  listed-at V W S e q n k c o l =
      let r = listed-row V W S e q n l.cells l.listed in
      let v = zip-at (λ x v. IsTold (Named V W S e q) (Filled V W S e q n) v x) l.cells (content V n) k (record { cell = Some c; node = o; full = l.full })
      (subst (λ xs. AllZip (λ x v. IsTold (Named V W S e q) (Filled V W S e q n) v x) xs (content V n)) r.1 (zip-flip (IsTold (Named V W S e q) (Filled V W S e q n)) (content V n) (cells_before (step_row q.mentioned (q.grows n))) (told-row V W S e q n))) l.at_place in
      record { slot = v.0; here = v.1; there = v.3; cell = v.4.seen.1; told = v.4.cell c refl; row = r.0 }

  cells : (c : CellId) (n m : NodeId) (k l : ℕ) (o p : Option NodeId) → ListsCell L c n k o → ListsCell R c m l p → (n ≡ m) × (k ≡ l)
  cells c n m k l o p f g = go (cell-from D E F a b u x y z s t w M B xb sb n k v.slot v.row v.here v.there v.told) (cell-from G H K a d r x' y' z' s' t' w' M N xd sd m l q.slot q.row q.here q.there q.told)
    where
      v : IsListedAt D F u z w n k c
      v = listed-at D F u z w n k c o f

      q : IsListedAt G K r z' w' m l c
      q = listed-at G K r z' w' m l c p g

      same : v.slot.cell ≡ q.slot.cell
      same = sym v.cell ∙ q.cell

      in-row : (i : NodeId) (e : Slot) → Has (content M i) e → M.row_of e.cell ≡ Some i
      in-row i e h = in_document M xb.before i e.cell (map-has (λ (s : Slot). s.cell) (content M i) e h)

      one-row : (i j : NodeId) (e h : Slot) → Has (content M i) e → Has (content M j) h → v.slot.cell ≡ e.cell → q.slot.cell ≡ h.cell → i ≡ j
      one-row i j e h hi hj ei ej = one_some i j (sym (in-row i e hi) ∙ ap M.row_of (sym ei ∙ same ∙ ej) ∙ in-row j h hj)

      go : CellFrom D E F a b u x y z s t w M B xb sb n k v.slot → CellFrom G H K a d r x' y' z' s' t' w' M N xd sd m l q.slot → (n ≡ m) × (k ≡ l)
      go (by_first e told) h =
          let i = zip-at (AreAlike (Named D E a x s) (Filled D E a x s n)) (content D n) (content G n) k v.slot (step-alike D E G H a x s x' s' n e) v.here in
          same-index G x'.before n m k l i.0 q.slot i.1 q.here i.3 q.there (sym (elim told [ inl j ↦ i.4.empty j | inr j ↦ (i.4.named j.0 j.1).0 ]) ∙ same)
      go h (by_first e told) =
          let i = zip-at (AreAlike (Named G H a x' s') (Filled G H a x' s' m)) (content G m) (content D m) l q.slot (step-alike G H D E a x' s' x s m e) q.here in
          same-index D x.before n m k l v.slot i.0 v.here i.1 v.there i.3 (same ∙ elim told [ inl j ↦ i.4.empty j | inr j ↦ (i.4.named j.0 j.1).0 ])
      go (by_picked e i j hi ei) (by_picked h o j' hj ej) =
          let row : n ≡ m = one-row n m i o hi hj ei ej in (row, row-index row)
        where
          row-index : n ≡ m → k ≡ l
          row-index row = one-index (pick (step_row s'.mentioned (s'.grows m)) (content M m)) k l i o (pick-once (step_row s'.mentioned (s'.grows m)) (content M m) (distinct_content M (M.rows m) (xb.before.once m)))
              (subst (λ n. slice_get (pick (step_row s'.mentioned (s'.grows n)) (content M n)) k ≡ Some i) row (ap (λ ms. slice_get (pick ms (content M n)) k) (sym (marks-there D E G H a x s x' s' n e)) ∙ j)) j' (sym ei ∙ same ∙ ej)
      go (by_picked e i j hi ei) (by_next h o j' hj ej) = absurd (true-false (lists-there D E G H a x s x' s' n e) (subst (λ n. lists G H a x' s' n ≡ false) (sym (one-row n m i o hi hj ei ej)) h))
      go (by_next e i j hi ei) (by_picked h o j' hj ej) = absurd (true-false (lists-there G H D E a x' s' x s m h) (subst (λ n. lists D E a x s n ≡ false) (one-row n m i o hi hj ei ej) e))
      go (by_next e i j hi ei) (by_next h o j' hj ej) = same-index M xb.before n m k l i o j j' hi hj (sym ei ∙ same ∙ ej)

  -- ## Registers

  registers : (f : FieldId) (o p : Option NodeId) → L.register f ≡ Some o → R.register f ≡ Some p → o ≡ p
  registers f o p e g = sym ((step_true D F u w).registers f o e) ∙ same ∙ (step_true G K r w').registers f p g
    where
      same : D.held f ≡ G.held f
      same = go (differs D E a x s f) refl (differs G H a x' s' f) refl
        where
          go : (c : Bool) → differs D E a x s f ≡ c → (i : Bool) → differs G H a x' s' f ≡ i → D.held f ≡ G.held f
          go true h i j = sym ((finds_what_is_so G H a x' s').held (record { field = f; before = D.held f; after = E.held f }) (has-reg D E a x s f h))
          go false h true j = (finds_what_is_so D E a x s).held (record { field = f; before = G.held f; after = H.held f }) (has-reg G H a x' s' f j)
          go false h false j =
              let m = untold-register D E F a b u x y z s t w f (listed-register D F u z w f o e) h in
              let n = untold-register G H K a d r x' y' z' s' t' w' f (listed-register G K r z' w' f p g) j in
              m.0 ∙ sym ((finds_what_is_so M B b xb sb).held (record { field = f; before = E.held f; after = F.held f }) (has-reg E F b y t f m.1))
              ∙ (finds_what_is_so M N d xd sd).held (record { field = f; before = H.held f; after = K.held f }) (has-reg H K d y' t' f n.1) ∙ sym n.0

  -- ## Places

  same-place : (n : NodeId) → n ≢ root → w.mentioned n ≡ true → w'.mentioned n ≡ true → D.place n ≡ G.place n
  same-place n unroot p q = go (s.mentioned n) refl (s'.mentioned n) refl
    where
      go : (c : Bool) → s.mentioned n ≡ c → (e : Bool) → s'.mentioned n ≡ e → D.place n ≡ G.place n
      go true h e k = mention-there D E G H a x s x' s' n h unroot
      go false h true k = sym (mention-there G H D E a x' s' x s n k unroot)
      go false h false k =
          unmoved D E a x s n (known D F u z w n p) h
          ∙ mention-there E F M B b y t xb sb n (then-mentions D E F a b u x y z s t w M B xb sb n p h) unroot
          ∙ sym (mention-there H K M N d y' t' xd sd n (then-mentions G H K a d r x' y' z' s' t' w' M N xd sd n q k) unroot)
          ∙ sym (unmoved G H a x' s' n (known G K r z' w' n q) k)

  pub compositions_one : AtOnePlace L R
  compositions_one n p q f h i j =
      let e = says D F u z w n p h in
      let g = says G K r z' w' n q i in
      sym e.0 ∙ same-place n e.2 e.1 g.1 ∙ g.0

  pub compositions_alike : ShowAlike L R
  compositions_alike = record { rows = rows; cells = λ c n m k l o p named v q. cells c n m k l o p v q; registers = registers }

  pub compositions_back : ShowAlike R L
  compositions_back = record {
    rows = λ k xs ys e f. zip-each (λ y x. IsSameView x y) IsSameView xs ys (λ v q i j s. view-back q v s) (zip-flip IsSameView ys xs (rows k ys xs f e));
    cells = λ c n m k l o p named v q. let w = cells c m n l k p o q v in (sym w.0, sym w.1);
    registers = λ f o p e g. sym (registers f p o g e);
  }
