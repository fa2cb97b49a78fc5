-- The rules on cells where one step leaves what another finds, by those on two that find the same.
use Rattle.std.proofs.Common.{◌≡◌, ◌||◌, ℕ, Bool, true, false, List, [], ◌∷◌, ◌++◌, map, slice_get, Option, Some, None, option_map, if◌then◌else◌, refl, sym, ap, ◌∙◌, subst, inl, inr, ◌⊎◌, IsTrue}
use Rattle.std.specs.List.{flat_map}
use Rattle.std.specs.Option.{option_map_or, option_or}
use Rattle.st_ids.specs.Listing.{IsRising, item_of, key_pairs}
use Rattle.std.specs.FinMap.Entries.{below_all, is_sorted}
use Rattle.std.specs.Ordering.{is_lt}
use Rattle.std.specs.Prelude.{◌&&◌, OnOk, Result, Ok, Err}
use Rattle.st_ids.specs.Order.{node_cmp}
use Rattle.st_ids.specs.declared.names.CellId.{CellId}
use Rattle.st_ids.specs.declared.names.FieldId.{FieldId}
use Rattle.st_ids.specs.declared.names.NodeId.{NodeId}
use Rattle.st_marks.specs.declared.changes.Change.{Change}
use Rattle.st_marks.specs.declared.marks.RowMarks.{RowMarks}
use Rattle.st_marks.specs.declared.steps.Step.{Step}
use Rattle.st_marks.specs.Agree.{IsNamedInRow}
use Rattle.st_marks.specs.Embedding.{is_among}
use Rattle.st_marks.specs.Listings.{CellView, Listing, ListsCell, cells_after, cells_before, cells_in, cells_made, is_among_cells, listing_after_step, listing_before_change, listing_before_step, nodes_new}
use Rattle.st_marks.specs.Row.{spread}
use Rattle.st_clash.specs.Adds.{Adds}
use Rattle.st_clash.specs.Cells.{CellsClash, IsMadeAgain, IsShownTwice}
use Rattle.st_agree_turn.specs.Rules.{CellsApart}
use Rattle.st_agree_turn.specs.inside.Left.{row_left}
use Rattle.st_agree_turn.proofs.RowsTold.{item_of-map, marks_left_made, marks_left_names, marks_left_views}

module _ (S T : Step) (K : Change) (e : K.rows ≡ map row_left S.rows) where
  abbrev L : Listing
  L = listing_after_step S

  abbrev B : Listing
  B = listing_before_change K

  abbrev M : Listing
  M = listing_before_step T

  abbrev row_at : List RowMarks → NodeId → Option RowMarks
  row_at rows n = item_of node_cmp (λ (r : RowMarks). r.node) rows n

  left_at : (n : NodeId) → row_at K.rows n ≡ option_map row_left (row_at S.rows n)
  left_at n = ap (λ rows. row_at rows n) e ∙ item_of-map node_cmp (λ (r : RowMarks). r.node) row_left (λ r. refl) S.rows n

  views_at : (n : NodeId) → B.row n ≡ option_map (λ (r : RowMarks). cells_after (spread r.marks)) (row_at S.rows n)
  views_at n = ap (option_map (λ (r : RowMarks). cells_before (spread r.marks))) (left_at n) ∙ go (row_at S.rows n)
    where
      go : (o : Option RowMarks) → option_map (λ (r : RowMarks). cells_before (spread r.marks)) (option_map row_left o) ≡ option_map (λ (r : RowMarks). cells_after (spread r.marks)) o
      go None = refl
      go (Some r) = ap (λ l. Some l) (marks_left_views r.marks)

  names_at : (n : NodeId) (c : CellId) → B.names.names_cell n c ≡ L.names.names_cell n c
  names_at n c = ap (λ o. is_among_cells (cells_in (option_map_or (λ (r : RowMarks). spread r.marks) o [])) c) (left_at n) ∙ go (row_at S.rows n)
    where
      go : (o : Option RowMarks) → is_among_cells (cells_in (option_map_or (λ (r : RowMarks). spread r.marks) (option_map row_left o) [])) c ≡ is_among_cells (cells_in (option_map_or (λ (r : RowMarks). spread r.marks) o [])) c
      go None = refl
      go (Some r) = ap (λ l. is_among_cells l c) (marks_left_names r.marks)

  none_made : (rows : List RowMarks) → flat_map (λ (r : RowMarks). cells_made (spread r.marks)) (map row_left rows) ≡ []
  none_made [] = refl
  none_made (r ∷ rows) = λ i. marks_left_made r.marks i ++ none_made rows i

  makes_none : (c : CellId) → B.names.makes_cell c ≡ false
  makes_none c = ap (λ rows. is_among_cells (flat_map (λ (r : RowMarks). cells_made (spread r.marks)) rows) c) e ∙ ap (λ l. is_among_cells l c) (none_made S.rows)

  -- ## What is shown

  shown : (n : NodeId) (cells : List CellView) → B.row n ≡ Some cells → L.row n ≡ Some cells
  shown n cells q = ap (λ o. option_or o (if is_among (nodes_new S.new) n then Some [] else None)) (sym (views_at n) ∙ q)

  shown_back : (n : NodeId) (cells : List CellView) (k : ℕ) (v : CellView) → L.row n ≡ Some cells → slice_get cells k ≡ Some v → B.row n ≡ Some cells
  shown_back n cells k v q at = views_at n ∙ go (option_map (λ (r : RowMarks). cells_after (spread r.marks)) (row_at S.rows n)) (is_among (nodes_new S.new) n) q
    where
      go : (o : Option (List CellView)) (b : Bool) → option_or o (if b then Some [] else None) ≡ Some cells → o ≡ Some cells
      go (Some x) b q = q
      go None true q = let none : [] ≡ cells = cc in let bad : None ≡ Some v = ap (λ l. slice_get l k) none ∙ at in cc
      go None false q = cc

  listed : (c : CellId) (n : NodeId) (k : ℕ) (o : Option NodeId) → ListsCell B c n k o → ListsCell L c n k o
  listed c n k o v = record { cells = v.cells; full = v.full; listed = shown n v.cells v.listed; at_place = v.at_place }

  listed_back : (c : CellId) (n : NodeId) (k : ℕ) (o : Option NodeId) → ListsCell L c n k o → ListsCell B c n k o
  listed_back c n k o v = record { cells = v.cells; full = v.full; listed = shown_back n v.cells k (record { cell = Some c; node = o; full = v.full }) v.listed v.at_place; at_place = v.at_place }

  -- ## The rules

  named : (c : CellId) (r : NodeId) → IsNamedInRow B M c r → IsNamedInRow L M c r
  named c r h = subst (λ b. IsTrue (b || M.names.names_cell r c)) (names_at r c) h

  named_back : (c : CellId) (r : NodeId) → IsNamedInRow L M c r → IsNamedInRow B M c r
  named_back c r h = subst (λ b. IsTrue (b || M.names.names_cell r c)) (sym (names_at r c)) h

  clash_apart : (f : FieldId) → CellsClash B M f → CellsApart L M f
  clash_apart f d = (d.0, bad d.1, d.2, named d.0 d.2 d.3, d.4)
    where
      bad : IsShownTwice B M d.0 ⊎ IsMadeAgain B M d.0 ⊎ IsMadeAgain M B d.0 → IsShownTwice L M d.0 ⊎ IsMadeAgain L M d.0
      bad (inl t) = inl (t.0, t.1, t.2, t.3, t.4, t.5, listed d.0 t.0 t.2 t.4 t.6, t.7, t.8)
      bad (inr (inl m)) = inr (m.0, m.1, subst (λ b. IsTrue b) (names_at m.0 d.0) m.2)
      bad (inr (inr m)) = let no : false ≡ true = sym (makes_none d.0) ∙ m.1 in cc

  apart_clash : (f : FieldId) → CellsApart L M f → CellsClash B M f
  apart_clash f d = (d.0, bad d.1, d.2, named_back d.0 d.2 d.3, d.4)
    where
      bad : IsShownTwice L M d.0 ⊎ IsMadeAgain L M d.0 → IsShownTwice B M d.0 ⊎ IsMadeAgain B M d.0 ⊎ IsMadeAgain M B d.0
      bad (inl t) = inl (t.0, t.1, t.2, t.3, t.4, t.5, listed_back d.0 t.0 t.2 t.4 t.6, t.7, t.8)
      bad (inr m) = inr (inl (m.0, m.1, subst (λ b. IsTrue b) (sym (names_at m.0 d.0)) m.2))

  pub cells_added : (old new : List FieldId) (P : Type 0) → Adds old new (CellsClash B M) P → Adds old new (CellsApart L M) P
  cells_added old new P a = (a.0, a.1, (λ f h. clash_apart f (a.2 f h)), (λ p f d. a.3 p f (apart_clash f d)))

-- ## Rising

below_left : (n : NodeId) (rows : List RowMarks) → below_all node_cmp n (key_pairs (λ (r : RowMarks). r.node) (map row_left rows)) ≡ below_all node_cmp n (key_pairs (λ (r : RowMarks). r.node) rows)
below_left n [] = refl
below_left n (r ∷ rows) = ap (λ b. is_lt (node_cmp n r.node) && b) (below_left n rows)

sorted_left : (rows : List RowMarks) → is_sorted node_cmp (key_pairs (λ (r : RowMarks). r.node) (map row_left rows)) ≡ is_sorted node_cmp (key_pairs (λ (r : RowMarks). r.node) rows)
sorted_left [] = refl
sorted_left (r ∷ rows) = λ i. below_left r.node rows i && sorted_left rows i

pub rows_left_rise : (rows now : List RowMarks) → now ≡ map row_left rows → IsRising node_cmp (λ (r : RowMarks). r.node) rows → IsRising node_cmp (λ (r : RowMarks). r.node) now
rows_left_rise rows now e h = ap (λ l. is_sorted node_cmp (key_pairs (λ (r : RowMarks). r.node) l)) e ∙ sorted_left rows ∙ h

-- what is so where an answer is good
pub OnOk-along : {T E : Type 0} (r : Result T E) (P Q : Type 0) → (P → Q) → OnOk r P → OnOk r Q
OnOk-along (Ok v) P Q f p = f p
OnOk-along (Err e) P Q f p = tt
