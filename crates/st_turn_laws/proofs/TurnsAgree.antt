-- Two steps of which the second begins where the first leads agree.
use Rattle.std.proofs.Common.{◌≡◌, ℕ, zero, suc, Bool, true, false, List, [], ◌∷◌, slice_get, Option, Some, None, IsSome, IsTrue, cond, refl, sym, ap, ◌∙◌, subst, inl, inr}
use Rattle.std.specs.List.{flat_map, list_any}
use Rattle.std.specs.Option.{option_map_or}
use Rattle.st_ids.specs.Listing.{Has, item_of}
use Rattle.st_ids.specs.Order.{node_cmp, same_cell}
use Rattle.st_ids.proofs.Orders.{node_cmp_exact, node_cmp_total, same_cell-itself, same_cell-true}
use Rattle.st_ids.specs.declared.names.CellId.{CellId}
use Rattle.st_ids.specs.declared.names.FieldId.{FieldId}
use Rattle.st_ids.specs.declared.names.NodeId.{NodeId}
use Rattle.st_marks.specs.declared.marks.How.TheVariants.{Stay}
use Rattle.st_marks.specs.declared.marks.RowMarks.{RowMarks}
use Rattle.st_marks.specs.declared.places.Slot.{Slot}
use Rattle.st_marks.specs.declared.steps.Step.{Step}
use Rattle.st_marks.specs.Agree.{Agrees, ComposeClash, MadeAgain, OwnedTooEarly, broken, cell_again, node_again, owned_early}
use Rattle.st_marks.specs.Document.{Document, content, owned_cell, slot}
use Rattle.st_marks.specs.Embedding.{row_marks, tells}
use Rattle.st_marks.specs.Extends.{GainsItems, IsExtendedBy, no_more, item_gained, item_kept}
use Rattle.st_marks.specs.Row.{CellMark, Counted, Make, Touch, SameCell, merge, spread, step_cell, step_row}
use Rattle.st_marks.specs.Listings.{CellView, ListsCell, cells_in, cells_made, is_among_cells, listing_after_step, listing_before_step, marks_of, names_of_step}
use Rattle.st_marks.specs.Step.{IsStep}
use Rattle.st_marks.proofs.Later.{has_later}
use Rattle.st_marks.proofs.Members.{any-has, flat_map-has, has-any, has-flat_map, map-has}
use Rattle.st_marks.proofs.Unique.{distinct_content}
use Rattle.st_agree_laws.proofs.MadeOnce.{step_makes_new, step_names_known}
use Rattle.st_agree_laws.proofs.ShownTruth.{no_difference_shown, step_true}
use Rattle.st_ids.proofs.Listings.{has-item_of}
use Rattle.st_lemmas.proofs.Options.{None-IsSome}
use Rattle.st_puts.proofs.OverDocuments.{row-told}
use Rattle.st_puts.proofs.StepPlaces.{slot-known, told-listed}
use Rattle.st_puts.proofs.StepRows.{after-mark, in-row-after}
use Rattle.st_rows.proofs.Documents.{in_document}
use Rattle.st_rows.proofs.GainedCells.{AllGained, gained_new}
use Rattle.st_rows.proofs.KindLaws.{spread-merge}
use Rattle.st_rows.proofs.ViewsOfRows.{DescribeAll, Describes}
use Rattle.st_rows.specs.Sequence.{cells_of}
use Rattle.st_turn_laws.proofs.LeftTruth.{left_true}

cell-has : (cs : List CellId) (c : CellId) → is_among_cells cs c ≡ true → Has cs c
cell-has cs c e = let r = any-has (λ d. same_cell d c) cs e in subst (Has cs) (same_cell-true r.0 c r.2) r.1

has-cell : (cs : List CellId) (c : CellId) → Has cs c → is_among_cells cs c ≡ true
has-cell cs c h = has-any (λ d. same_cell d c) cs c h (same_cell-itself c)

-- ## What marks make

made-behind : (m : NodeId → Bool) (c : CellId) (n : NodeId) (x y : Bool) (xs : List CellMark) (a : CellId) → Has (cells_made (step_cell m c n x y ∷ xs)) a → Has (cells_made xs) a
made-behind m c n true true xs a h = go (m n) h
  where
    go : (z : Bool) → Has (cells_made (cond z (Touch c n Stay) Counted ∷ xs)) a → Has (cells_made xs) a
    go true i = i
    go false i = i
made-behind m c n true false xs a h = h
made-behind m c n false true xs a h = h
made-behind m c n false false xs a h = h

made-gained : (m : NodeId → Bool) (P : Slot → Type 0) {c d : List Slot} (g : GainsItems SameCell c d) (a : CellId) → AllGained P g → Has (cells_made (step_row m g)) a → (t : Slot) × P t × (t.cell ≡ a)
made-gained m P no_more a k h = absurd h
made-gained m P (item_gained {y = t} g) a k (inl e) = (t, k.0, e)
made-gained m P (item_gained g) a k (inr h) = made-gained m P g a k.1 h
made-gained m P (item_kept {x = s} {y = t} w g) a k h = made-gained m P g a k (made-behind m s.cell s.node s.full t.full (step_row m g) a h)

has-made : (xs : List CellMark) (a : CellId) (n : NodeId) (b : Bool) → Has xs (Make a n b) → Has (cells_made xs) a
has-made xs a n b h = flat_map-has Rattle.st_marks.specs.Listings.cell_made xs (Make a n b) a h (inl refl)

-- the marks of a row that is listed, or none
marks-told : (rows : List RowMarks) (n : NodeId) (cells : List CellMark) (a : CellId) → item_of node_cmp (λ (r : RowMarks). r.node) rows n ≡ row_marks n cells → Has (cells_in (marks_of rows n)) a → Has (cells_in cells) a
marks-told rows n cells a e h = go (list_any tells cells) (subst (λ o. Has (cells_in (option_map_or (λ (r : RowMarks). spread r.marks) o [])) a) e h)
  where
    go : (b : Bool) → Has (cells_in (option_map_or (λ (r : RowMarks). spread r.marks) (cond b (Some (record { node = n; marks = merge cells })) None) [])) a → Has (cells_in cells) a
    go true i = subst (λ l. Has (cells_in l) a) (spread-merge cells) i
    go false i = absurd i

-- ## One step

module _ (D E : Document) (S : Step) (x : IsExtendedBy D E) (s : IsStep D E S) where
  -- a cell that it names is in the later document's row
  cell-there : (q : NodeId) (a : CellId) → IsTrue ((names_of_step S).names_cell q a) → E.row_of a ≡ Some q
  cell-there q a e = in_document E x.after q a (in-row-after s.mentioned (s.grows q) a (marks-told S.rows q (step_row s.mentioned (s.grows q)) a (s.rows.at_each q) (cell-has (cells_in (marks_of S.rows q)) a e)))

  -- one that it makes isn't in the earlier one's
  cell-made : (a : CellId) → IsTrue ((names_of_step S).makes_cell a) → (r : NodeId) × (Has (cells_of (content D r)) a → ⊥) × (E.row_of a ≡ Some r)
  cell-made a e =
      let r = has-flat_map (λ (r : RowMarks). cells_made (spread r.marks)) S.rows a (cell-has (flat_map (λ (r : RowMarks). cells_made (spread r.marks)) S.rows) a e) in
      let w = row-told r.0 r.0.node (step_row s.mentioned (s.grows r.0.node)) (sym (s.rows.at_each r.0.node) ∙ has-item_of node_cmp node_cmp_total node_cmp_exact (λ (r : RowMarks). r.node) S.rows r.0 s.rows.rising r.1) in
      let t = made-gained s.mentioned (λ t. (Has (cells_of (content D r.0.node)) t.cell → ⊥) × Has (content E r.0.node) t) (s.grows r.0.node) a
      (gained_new (s.grows r.0.node) (distinct_content E (E.rows r.0.node) (x.after.once r.0.node))) (subst (λ l. Has (cells_made l) a) w.0 r.2) in
      (r.0.node, (λ h. t.1.0 (subst (Has (cells_of (content D r.0.node))) (sym t.2) h)), in_document E x.after r.0.node a (subst (Has (cells_of (content E r.0.node))) t.2 (map-has (λ (s : Slot). s.cell) (content E r.0.node) t.0 t.1.1)))

  -- a cell of a node that it makes is one that it makes
  owner-makes : (q : NodeId) (t : Slot) → Has (content E q) t → D.nodes t.node ≡ None → IsTrue ((names_of_step S).makes_cell t.cell)
  owner-makes q t h new = elim (after-mark s.mentioned (s.grows q) t h) [
    | inl k ↦ absurd (None-IsSome (D.nodes t.node) new (subst (λ n. IsSome (D.nodes n)) k.same.1 (slot-known D x.before q k.slot k.there).1))
    | inr i ↦ (let r = told-listed D E S x s q (Make t.cell t.node t.full) i refl in
        has-cell (flat_map (λ (r : RowMarks). cells_made (spread r.marks)) S.rows) t.cell (flat_map-has (λ (r : RowMarks). cells_made (spread r.marks)) S.rows r.0 t.cell r.1 (has-made (spread r.0.marks) t.cell t.node t.full r.3)))
  ]

described-at : (c : List Slot) (xs : List CellView) (k : ℕ) (v : CellView) → DescribeAll c xs → slice_get xs k ≡ Some v → (s : Slot) × Has c s × Describes s v
described-at [] [] k v p e = cc
described-at [] (y ∷ xs) k v p e = absurd p
described-at (s ∷ c) [] k v p e = absurd p
described-at (s ∷ c) (y ∷ xs) zero v p e = (s, inl refl, subst (Describes s) (some e) p.0)
  where
    some : {a b : CellView} → ◌≡◌ {A = Option CellView} (Some a) (Some b) → a ≡ b
    some {a = a} q = ap at q
      where
        at : Option CellView → CellView
        at None = a
        at (Some z) = z
described-at (s ∷ c) (y ∷ xs) (suc k) v p e = let r = described-at c xs k v p.1 e in (r.0, inr r.1, r.2)

-- ## Two steps in turn

module _ (D E F : Document) (S T : Step) (x : IsExtendedBy D E) (y : IsExtendedBy E F) (s : IsStep D E S) (t : IsStep E F T) where
  one-row : (c : CellId) (q r : NodeId) → E.row_of c ≡ Some q → F.row_of c ≡ Some r → q ≡ r
  one-row c q r e f = some (sym later ∙ f)
    where
      later : F.row_of c ≡ Some q
      later = let o = (y.before.one_row c q).0 e in (y.after.one_row c q).1 (o.0, has_later (y.rows q) (owned_cell c o.0) o.1)

      some : {a b : NodeId} → ◌≡◌ {A = Option NodeId} (Some a) (Some b) → a ≡ b
      some {a = a} p = ap at p
        where
          at : Option NodeId → NodeId
          at None = a
          at (Some z) = z

  none-again : (k : FieldId) → MadeAgain (listing_after_step S) (listing_before_step T) k → ⊥
  none-again k (node_again n made named) = None-IsSome (E.nodes n) (step_makes_new E F T y t n made).0 (step_names_known D E S x s n named)
  none-again k (cell_again c q r made named w) =
      let m = cell-made E F T y t c made in
      let there = cell-there D E S x s q c named in
      let o = (y.before.one_row c q).0 there in
      m.1 (subst (λ n. Has (cells_of (content E n)) c) (one-row c q m.0 there m.2)
      (map-has (λ (s : Slot). s.cell) (content E q) (slot E (owned_cell c o.0)) (map-has (slot E) (E.rows q) (owned_cell c o.0) o.1)))

  none-early : (k : FieldId) → OwnedTooEarly (listing_after_step S) (listing_before_step T) k → ⊥
  none-early k (owned_early c n q r i w made unmade named) =
      let d = described-at (content E q) w.cells i (record { cell = Some c; node = Some n; full = w.full }) ((step_true E F T t).rows q w.cells w.listed) w.at_place in
      let new = subst (λ z. D.nodes z ≡ None) d.2.2 (step_makes_new D E S x s n made).0 in
      not-both ((names_of_step S).makes_cell c) (subst (λ z. IsTrue ((names_of_step S).makes_cell z)) (sym d.2.1) (owner-makes D E S x s q d.0 d.1 new)) unmade
    where
      not-both : (b : Bool) → b ≡ true → b ≡ false → ⊥
      not-both true p q = cc
      not-both false p q = cc

  pub agree_in_turn : Agrees (ComposeClash S T)
  agree_in_turn k (inl w) = no_difference_shown E x.after (listing_after_step S) (listing_before_step T) k (left_true D E S x s) (step_true E F T t) w
  agree_in_turn k (inr (inl w)) = none-again k w
  agree_in_turn k (inr (inr (inl w))) = none-early k w
  agree_in_turn k (inr (inr (inr (broken bad)))) = bad (
    D.schemas,
    E.schemas,
    F.schemas,
    record { before_in_effect = x.before.in_effect; after_in_effect = x.after.in_effect; step = s.schema },
    record { before_in_effect = y.before.in_effect; after_in_effect = y.after.in_effect; step = t.schema },
  )
