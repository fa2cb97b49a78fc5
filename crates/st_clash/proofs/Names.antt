-- The cells in marks, and those that they make.
use Rattle.std.proofs.Common.{◌≡◌, ◌↔◌, ◌<◌, ◌≤◌, ◌+◌, ◌||◌, ℕ, zero, suc, Bool, true, false, cond, List, [], ◌∷◌, ◌++◌, Option, Some, None, length, take, get_or, refl, sym, ap, ◌∙◌, subst, inl, inr}
use Rattle.std.specs.List.{flat_map, list_any}
use Rattle.std.specs.Option.{option_map_or}
use Rattle.std.specs.Prelude.{IsTrue}
use Rattle.st_ids.specs.Listing.{Has, IsRising, item_of}
use Rattle.st_ids.specs.Order.{node_cmp, same_cell}
use Rattle.st_ids.specs.declared.names.CellId.{CellId}
use Rattle.st_ids.specs.declared.names.FieldId.{FieldId}
use Rattle.st_ids.specs.declared.names.NodeId.{NodeId}
use Rattle.st_ids.proofs.Listings.{has-item_of, item_of-has}
use Rattle.st_ids.proofs.Orders.{node_cmp_exact, node_cmp_total, same_cell-itself, same_cell-true}
use Rattle.st_lemmas.proofs.Bools.{or-cases, or-left, or-right}
use Rattle.st_marks.specs.declared.marks.Mark.{Mark}
use Rattle.st_marks.specs.declared.marks.RowMarks.{RowMarks}
use Rattle.st_marks.specs.Agree.{row_field}
use Rattle.st_marks.specs.Listings.{cells_in, cells_made, is_among_cells, marks_of}
use Rattle.st_marks.specs.Row.{CellMark, counted_cells, spread}
use Rattle.st_marks.proofs.Members.{any-has, flat_map-has, has-any, has-flat_map}
use Rattle.st_clash.specs.inside.Bad.{row_naming}
use Rattle.st_clash.specs.inside.Made.{cell_made_by, cell_of_mark, made_in_rows, named_in_rows, only_if}
use Rattle.std.proofs.lemmas.List.{take_all}
use Rattle.st_clash.proofs.LeastFields.{flat_more, there}

-- ## Mark by mark

counted_name : (k : ℕ) (xs : List CellMark) → cells_in (counted_cells k xs) ≡ cells_in xs
counted_name zero xs = refl
counted_name (suc k) xs = counted_name k xs

pub marks_name : (ms : List Mark) → cells_in (spread ms) ≡ flat_map cell_of_mark ms
marks_name [] = refl
marks_name (Mark.Skip k ∷ ms) = counted_name k (spread ms) ∙ marks_name ms
marks_name (Mark.Gap c ∷ ms) = ap (λ l. c ∷ l) (marks_name ms)
marks_name (Mark.Touch c n h ∷ ms) = ap (λ l. c ∷ l) (marks_name ms)
marks_name (Mark.Make c n b ∷ ms) = ap (λ l. c ∷ l) (marks_name ms)
marks_name (Mark.Fill c n ∷ ms) = ap (λ l. c ∷ l) (marks_name ms)

counted_make : (k : ℕ) (xs : List CellMark) → cells_made (counted_cells k xs) ≡ cells_made xs
counted_make zero xs = refl
counted_make (suc k) xs = counted_make k xs

pub marks_make : (ms : List Mark) → cells_made (spread ms) ≡ flat_map cell_made_by ms
marks_make [] = refl
marks_make (Mark.Skip k ∷ ms) = counted_make k (spread ms) ∙ marks_make ms
marks_make (Mark.Gap c ∷ ms) = marks_make ms
marks_make (Mark.Touch c n h ∷ ms) = marks_make ms
marks_make (Mark.Make c n b ∷ ms) = ap (λ l. c ∷ l) (marks_make ms)
marks_make (Mark.Fill c n ∷ ms) = marks_make ms

-- what marks tell, with one mark more
pub marks_more : (F : List CellMark → List CellId) (f : Mark → List CellId) → ((ms : List Mark) → F (spread ms) ≡ flat_map f ms)
    → (old before now : List CellId) (ms : List Mark) (i : ℕ) (d m : Mark) → i < length ms → get_or ms i d ≡ m
    → before ≡ old ++ F (spread (take i ms)) → now ≡ before ++ f m → now ≡ old ++ F (spread (take (i + 1) ms))
marks_more F f same old before now ms i d m inside at so_far h =
    flat_more f old before now ms i d m inside at (so_far ∙ ap (λ l. old ++ l) (same (take i ms))) h
    ∙ ap (λ l. old ++ l) (sym (same (take (i + 1) ms)))

-- ## A test of the cells in marks

pub any-append : (p : CellId → Bool) (xs ys : List CellId) → list_any p (xs ++ ys) ≡ (list_any p xs || list_any p ys)
any-append p [] ys = refl
any-append p (x ∷ xs) ys = elim (p x) as (λ b. (b || list_any p (xs ++ ys)) ≡ ((b || list_any p xs) || list_any p ys)) [ true ↦ refl | false ↦ any-append p xs ys ]

pub any-here : (p : CellId → Bool) (ms : List Mark) (i : ℕ) (d m : Mark) → i < length ms → get_or ms i d ≡ m → list_any p (cell_of_mark m) ≡ true → list_any p (cells_in (spread ms)) ≡ true
any-here p ms i d m l e t =
    let w = there ms i l in
    let c = any-has p (cell_of_mark m) t in
    ap (list_any p) (marks_name ms) ∙ has-any p (flat_map cell_of_mark ms) c.0 (flat_map-has cell_of_mark ms m c.0 (subst (Has ms) (sym (w.3 d) ∙ e) w.2) c.1) c.2

pub none-yet : (p : CellId → Bool) (ms : List Mark) (i : ℕ) (d m : Mark) → i < length ms → get_or ms i d ≡ m → list_any p (cell_of_mark m) ≡ false → list_any p (flat_map cell_of_mark (take i ms)) ≡ false
    → list_any p (flat_map cell_of_mark (take (i + 1) ms)) ≡ false
none-yet p ms i d m l e t so_far =
    ap (list_any p) (sym (flat_more cell_of_mark [] (flat_map cell_of_mark (take i ms)) (flat_map cell_of_mark (take i ms) ++ cell_of_mark m) ms i d m l e refl refl))
    ∙ any-append p (flat_map cell_of_mark (take i ms)) (cell_of_mark m) ∙ (λ k. so_far k || t k)

pub none-at-all : (p : CellId → Bool) (ms : List Mark) (i : ℕ) → length ms ≤ i → list_any p (flat_map cell_of_mark (take i ms)) ≡ false → list_any p (cells_in (spread ms)) ≡ false
none-at-all p ms i l h = ap (list_any p) (marks_name ms ∙ ap (flat_map cell_of_mark) (sym (take_all i ms l))) ∙ h

-- ## Among cells

pub among-has : (cs : List CellId) (c : CellId) → is_among_cells cs c ≡ true → Has cs c
among-has [] c e = cc
among-has (d ∷ cs) c e = elim (or-cases (same_cell d c) (is_among_cells cs c) e) [ inl p ↦ inl (same_cell-true d c p) | inr p ↦ inr (among-has cs c p) ]

pub has-among : (cs : List CellId) (c : CellId) → Has cs c → is_among_cells cs c ≡ true
has-among [] c h = absurd h
has-among (d ∷ cs) c (inl e) = or-left (same_cell d c) (is_among_cells cs c) (subst (λ k. same_cell d k ≡ true) e (same_cell-itself d))
has-among (d ∷ cs) c (inr h) = or-right (same_cell d c) (is_among_cells cs c) (has-among cs c h)

pub picked : {A : Type 0} (b : Bool) (x y : A) → Has (cond b (x ∷ []) []) y → (b ≡ true) × (x ≡ y)
picked true x y (inl e) = (refl, e)
picked true x y (inr h) = absurd h
picked false x y h = absurd h

pub pick : {A : Type 0} (b : Bool) (x y : A) → b ≡ true → x ≡ y → Has (cond b (x ∷ []) []) y
pick true x y e f = inl f
pick false x y e f = cc

-- ## In the rows of a listing

-- the cell is named in the row of a node
abbrev pub IsNamedIn : List RowMarks → NodeId → CellId → Type 0
IsNamedIn rows q c = IsTrue (is_among_cells (cells_in (marks_of rows q)) c)

module _ (rows : List RowMarks) (rise : IsRising node_cmp (λ (r : RowMarks). r.node) rows) where
  pub row_names : (r : RowMarks) (c : CellId) → Has rows r → Has (cells_in (spread r.marks)) c → IsNamedIn rows r.node c
  row_names r c h k =
      let listed = has-item_of node_cmp node_cmp_total node_cmp_exact (λ (q : RowMarks). q.node) rows r rise h in
      subst (λ o. is_among_cells (cells_in (option_map_or (λ (q : RowMarks). spread q.marks) o [])) c ≡ true) (sym listed) (has-among (cells_in (spread r.marks)) c k)

  pub named_row : (q : NodeId) (c : CellId) → IsNamedIn rows q c → (r : RowMarks) × Has rows r × (r.node ≡ q) × Has (cells_in (spread r.marks)) c
  named_row q c e = go (item_of node_cmp (λ (r : RowMarks). r.node) rows q) refl e
    where
      go : (o : Option RowMarks) → item_of node_cmp (λ (r : RowMarks). r.node) rows q ≡ o → is_among_cells (cells_in (option_map_or (λ (r : RowMarks). spread r.marks) o [])) c ≡ true
          → (r : RowMarks) × Has rows r × (r.node ≡ q) × Has (cells_in (spread r.marks)) c
      go None f e = cc
      go (Some r) f e = let h = item_of-has node_cmp node_cmp_total node_cmp_exact (λ (r : RowMarks). r.node) rows q r f in (r, h.0, h.1, among-has (cells_in (spread r.marks)) c e)

  pub named_told : (c : CellId) → Has (named_in_rows rows) c ↔ ((q : NodeId) × IsNamedIn rows q c)
  named_told c = (
    λ h. let r = has-flat_map (λ (r : RowMarks). cells_in (spread r.marks)) rows c h in (r.0.node, row_names r.0 c r.1 r.2),
    λ d. let r = named_row d.0 c d.1 in flat_map-has (λ (r : RowMarks). cells_in (spread r.marks)) rows r.0 c r.1 r.3,
  )

  -- those that others make
  pub again_told : (makers : List RowMarks) (c : CellId) → Has (flat_map (only_if (is_among_cells (made_in_rows makers))) (named_in_rows rows)) c ↔ ((q : NodeId) × IsTrue (is_among_cells (made_in_rows makers) c) × IsNamedIn rows q c)
  again_told makers c = (
    λ h.
        let r = has-flat_map (only_if (is_among_cells (made_in_rows makers))) (named_in_rows rows) c h in
        let p = picked (is_among_cells (made_in_rows makers) r.0) r.0 c r.2 in
        let n = (named_told c).0 (subst (Has (named_in_rows rows)) p.1 r.1) in
        (n.0, subst (λ z. is_among_cells (made_in_rows makers) z ≡ true) p.1 p.0, n.1),
    λ d. flat_map-has (only_if (is_among_cells (made_in_rows makers))) (named_in_rows rows) c c ((named_told c).1 (d.0, d.2)) (pick (is_among_cells (made_in_rows makers) c) c c d.1 refl),
  )

  -- the rows that name a cell which passes a test
  pub naming_told : (p : CellId → Bool) (f : FieldId) → Has (flat_map (row_naming p) rows) f ↔ ((c : CellId) × (p c ≡ true) × (q : NodeId) × IsNamedIn rows q c × (row_field q ≡ f))
  naming_told p f = (
    λ h.
        let r = has-flat_map (row_naming p) rows f h in
        let k = picked (list_any p (cells_in (spread r.0.marks))) (row_field r.0.node) f r.2 in
        let c = any-has p (cells_in (spread r.0.marks)) k.0 in
        (c.0, c.2, r.0.node, row_names r.0 c.0 r.1 c.1, k.1),
    λ d.
        let r = named_row d.2 d.0 d.3 in
        flat_map-has (row_naming p) rows r.0 f r.1 (pick (list_any p (cells_in (spread r.0.marks))) (row_field r.0.node) f (has-any p (cells_in (spread r.0.marks)) d.0 r.3 d.1) (ap row_field r.2 ∙ d.4)),
  )
