-- A row after one group of cells came into it, directly after the cell of the item left of an index.
use Rattle.std.proofs.Common.{◌≡◌, ◌≢◌, ℕ, zero, suc, ◌≤◌, Bool, true, false, cond, List, [], ◌∷◌, ◌++◌, map, take, drop, filter, length, Option, Some, None, option_map, slice_get, refl, sym, ap, ◌∙◌, subst, arith, inl, inr}
use Rattle.std.proofs.lemmas.List.{map-append}
use Rattle.st_ids.specs.Listing.{Has, AreDistinct}
use Rattle.st_ids.specs.declared.names.CellId.{CellId}
use Rattle.st_ids.specs.declared.names.NodeId.{NodeId}
use Rattle.st_marks.specs.declared.intents.Group.{Group}
use Rattle.st_marks.specs.declared.intents.Intent.{Intent}
use Rattle.st_marks.specs.declared.intents.Owned.{Owned}
use Rattle.st_marks.specs.declared.places.Slot.{Slot}
use Rattle.st_marks.specs.Document.{Document, is_cell, slot}
use Rattle.st_marks.specs.Intent.{IsIntent, group_at}
use Rattle.st_marks.specs.CarryOut.{with_groups}
use Rattle.st_marks.specs.LiveTree.{owners_shown, live_slots}
use Rattle.st_marks.proofs.Lookups.{group_at-group, group_found}
use Rattle.st_marks.proofs.Members.{all-has}
use Rattle.st_edits.specs.Paths.{left_of, row_length}
use Rattle.st_schema_laws.proofs.Rows.{owners_filtered, all_full}
use Rattle.st_ids.proofs.Shared.{no_members}
use Rattle.st_marks.proofs.Shared.{owners_append}

kept_first : (b : Bool) (x : NodeId) (xs ys zs : List NodeId) → xs ≡ ys ++ zs → cond (cond b true false) (x ∷ []) [] ++ xs ≡ cond b (x ∷ ys) ys ++ zs
kept_first true x xs ys zs e = ap (λ l. x ∷ l) e
kept_first false x xs ys zs e = e

neither : (b : Bool) (x : NodeId) → cond (cond b false false) (x ∷ []) [] ≡ []
neither true x = refl
neither false x = refl

module _ (N : Intent) (itself : IsIntent N) (m : NodeId) (left : Option CellId) (cells : List Owned) (has : (o : Owned) (os : List Owned) → cells ≡ o ∷ os → Has N.groups (record { node = m; after = left; cells = o ∷ os }))
    (only : (g : Group) → Has N.groups g → g.node ≡ m → (g.after ≡ left) × (g.cells ≡ cells)) where
  pub at_left : group_at N m left ≡ cells
  at_left = go cells refl
    where
      go : (os : List Owned) → cells ≡ os → group_at N m left ≡ cells
      go [] e = no_members (group_at N m left) (λ o k. (let g = group_at-group N m left o k in subst (λ os. Has os o) ((only g.group g.listed g.node).1 ∙ e) g.cell)) ∙ sym e
      go (o ∷ os) e = group_found N itself (record { node = m; after = left; cells = o ∷ os }) (has o os e) ∙ sym e

  pub at_other : (a : Option CellId) → a ≢ left → group_at N m a ≡ []
  at_other a apart = no_members (group_at N m a) (λ o k. (let g = group_at-group N m a o k in apart (sym g.after ∙ (only g.group g.listed g.node).0)))

  -- its cells are full, and an old one is as it was where its owner passes a test, and else empty
  module _ (D E : Document) (p : NodeId → Bool) (full_new : (o : Owned) → Has cells o → is_cell o.cell (E.place o.node) ≡ true) where
    abbrev now : List Owned → List NodeId
    now os = owners_shown (map (slot E) os)

    abbrev was : List Owned → List NodeId
    was os = owners_shown (map (slot D) os)

    abbrev live : List Owned → List Slot
    live os = filter (λ (s : Slot). s.full) (map (slot D) os)

    abbrev new : List NodeId
    new = map (λ (o : Owned). o.node) cells

    abbrev IsOld : List Owned → Type 0
    IsOld os = (o : Owned) → Has os o → is_cell o.cell (E.place o.node) ≡ cond (p o.node) (is_cell o.cell (D.place o.node)) false

    ungrown : (os : List Owned) → ((o : Owned) → Has os o → Some o.cell ≢ left) → with_groups N m os ≡ os
    ungrown [] out = refl
    ungrown (o ∷ os) out = (λ i. o ∷ (at_other (Some o.cell) (out o (inl refl)) i ++ with_groups N m os)) ∙ ap (λ l. o ∷ l) (ungrown os (λ q h. out q (inr h)))

    -- a live cell is among the cells
    live_has : (os : List Owned) (i : ℕ) (s : Slot) → slice_get (live os) i ≡ Some s → (o : Owned) × Has os o × (o.cell ≡ s.cell)
    live_has [] i s e = cc
    live_has (o ∷ os) i s e = go (slot D o).full i (λ j f. live_has os j s f) e
      where
        later : (q : Owned) × Has os q × (q.cell ≡ s.cell) → (q : Owned) × Has (o ∷ os) q × (q.cell ≡ s.cell)
        later q = (q.0, inr q.1, q.2)

        go : (b : Bool) (i : ℕ) → ((j : ℕ) → slice_get (live os) j ≡ Some s → (q : Owned) × Has os q × (q.cell ≡ s.cell)) → slice_get (cond b (slot D o ∷ live os) (live os)) i ≡ Some s → (q : Owned) × Has (o ∷ os) q × (q.cell ≡ s.cell)
        go false i rest f = later (rest i f)
        go true zero rest f = let q : slot D o ≡ s = cc in (o, inl refl, ap (λ (s : Slot). s.cell) q)
        go true (suc i) rest f = later (rest i f)

    abbrev Grown : List Owned → ℕ → Type 0
    Grown os i = now (with_groups N m os) ≡ filter p (take (suc i) (was os)) ++ (new ++ filter p (drop (suc i) (was os)))

    grown : (os : List Owned) (i : ℕ) (s : Slot) → AreDistinct (λ (o : Owned). o.cell) os → IsOld os → slice_get (live os) i ≡ Some s → left ≡ Some s.cell → Grown os i
    grown [] i s once old e is = cc
    grown (o ∷ os) i s once old e is =
        ap (λ b. cond b (o.node ∷ []) [] ++ now (group_at N m (Some o.cell) ++ with_groups N m os)) (old o (inl refl))
        ∙ go (is_cell o.cell (D.place o.node)) i (λ j f. grown os j s once.1 (λ q h. old q (inr h)) f is) e
      where
        old_rest : IsOld os
        old_rest q h = old q (inr h)

        behind : (j : ℕ) → slice_get (live os) j ≡ Some s → now (group_at N m (Some o.cell) ++ with_groups N m os) ≡ now (with_groups N m os)
        behind j f =
            let q = live_has os j s f in
            ap (λ l. now (l ++ with_groups N m os)) (at_other (Some o.cell) (λ r. (let both : Some o.cell ≡ Some s.cell = r ∙ is in let same : o.cell ≡ s.cell = cc in all-has (λ (q : Owned). q.cell ≢ o.cell) os q.0 once.0 q.1 (q.2 ∙ sym same))))

        first_here : o.cell ≡ s.cell → now (group_at N m (Some o.cell) ++ with_groups N m os) ≡ new ++ filter p (was os)
        first_here q =
            (λ i. now ((ap (group_at N m) (ap (λ c. Some c) q ∙ sym is) ∙ at_left) i
            ++ ungrown os (λ r h t. (let both : Some r.cell ≡ Some s.cell = t ∙ is in let same : r.cell ≡ s.cell = cc in all-has (λ (r : Owned). r.cell ≢ o.cell) os r once.0 h (same ∙ sym q))) i))
            ∙ ap owners_shown (map-append (slot E) cells os) ∙ owners_append (map (slot E) cells) (map (slot E) os)
            ∙ (λ i. all_full E cells full_new i ++ owners_filtered D E p os old_rest i)

        go : (b : Bool) (i : ℕ) → ((j : ℕ) → slice_get (live os) j ≡ Some s → Grown os j) → slice_get (cond b (slot D o ∷ live os) (live os)) i ≡ Some s
            → cond (cond (p o.node) b false) (o.node ∷ []) [] ++ now (group_at N m (Some o.cell) ++ with_groups N m os)
            ≡ filter p (take (suc i) (cond b (o.node ∷ []) [] ++ was os)) ++ (new ++ filter p (drop (suc i) (cond b (o.node ∷ []) [] ++ was os)))
        go false i rest f = ap (λ l. l ++ now (group_at N m (Some o.cell) ++ with_groups N m os)) (neither (p o.node) o.node) ∙ behind i f ∙ rest i f
        go true zero rest f =
            let first : slot D o ≡ s = cc in
            kept_first (p o.node) o.node (now (group_at N m (Some o.cell) ++ with_groups N m os)) [] (new ++ filter p (was os)) (first_here (ap (λ (s : Slot). s.cell) first))
        go true (suc i) rest f =
            kept_first (p o.node) o.node (now (group_at N m (Some o.cell) ++ with_groups N m os)) (filter p (take (suc i) (was os))) (new ++ filter p (drop (suc i) (was os))) (behind i f ∙ rest i f)

    -- the row, where the cell left of an index is told
    pub row_with : (i : ℕ) → left ≡ left_of D m i → i ≤ row_length D m → AreDistinct (λ (o : Owned). o.cell) (D.rows m) → IsOld (D.rows m)
        → now (group_at N m None ++ with_groups N m (D.rows m)) ≡ filter p (take i (was (D.rows m))) ++ (new ++ filter p (drop i (was (D.rows m))))
    row_with zero is le once old =
        (λ i. now ((ap (group_at N m) (sym is) ∙ at_left) i ++ ungrown (D.rows m) (λ o h t. (let bad : Some o.cell ≡ None = t ∙ is in cc)) i))
        ∙ ap owners_shown (map-append (slot E) cells (D.rows m)) ∙ owners_append (map (slot E) cells) (map (slot E) (D.rows m))
        ∙ (λ i. all_full E cells full_new i ++ owners_filtered D E p (D.rows m) old i)
    row_with (suc k) is le once old = go (slice_get (live_slots D m) k) refl
      where
        past : (ss : List Slot) (k : ℕ) → slice_get ss k ≡ None → suc k ≤ length ss → ⊥
        past [] k e le = omega arith
        past (s ∷ ss) zero e le = cc
        past (s ∷ ss) (suc k) e le = past ss k e (omega arith)

        go : (o : Option Slot) → slice_get (live_slots D m) k ≡ o → now (group_at N m None ++ with_groups N m (D.rows m)) ≡ filter p (take (suc k) (was (D.rows m))) ++ (new ++ filter p (drop (suc k) (was (D.rows m))))
        go None e = absurd (past (live_slots D m) k e le)
        go (Some s) e =
            let here : left ≡ Some s.cell = is ∙ ap (option_map (λ (s : Slot). s.cell)) e in
            ap (λ l. now (l ++ with_groups N m (D.rows m))) (at_other None (λ q. (let bad : None ≡ Some s.cell = q ∙ here in cc)))
            ∙ grown (D.rows m) k s once old e here
