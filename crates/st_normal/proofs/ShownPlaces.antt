-- What changes and steps show of the places of nodes, before and after.
use Rattle.std.proofs.Common.{◌++◌, ◌≡◌, ℕ, zero, suc, Bool, true, false, not, List, [], ◌∷◌, slice_get, Option, Some, None, option_map, refl, sym, ap, ◌∙◌, inl, inr, if◌then◌else◌}
use Rattle.std.specs.Option.{option_or}
use Rattle.st_ids.specs.Listing.{Has, IsRising, item_of}
use Rattle.st_ids.specs.Order.{node_cmp, field_cmp}
use Rattle.st_ids.specs.declared.names.CellId.{CellId}
use Rattle.st_ids.specs.declared.names.FieldId.{FieldId}
use Rattle.st_ids.specs.declared.names.NodeId.{NodeId}
use Rattle.st_ids.proofs.Orders.{node_cmp_total, node_cmp_exact, field_cmp_total, field_cmp_exact}
use Rattle.st_marks.specs.declared.changes.NewNode.{NewNode}
use Rattle.st_marks.specs.declared.marks.RowMarks.{RowMarks}
use Rattle.st_marks.specs.Embedding.{is_among}
use Rattle.st_normal.specs.inside.Links.{stands_after, stands_before}
use Rattle.st_marks.specs.Row.{CellMark, Counted, Gap, Touch, Make, Fill, spread}
use Rattle.st_marks.specs.Listings.{Listing, CellView, cell_view, cells_before, cells_after, rows_before, rows_after, registers_after, nodes_new}
use Rattle.st_marks.specs.How.{is_leave}
use Rattle.st_normal.proofs.Linked.{ShowsListed}
use Rattle.st_ids.proofs.Listings.{has-item_of, item_of-has}

-- ## In one row

not_full : {A : Type 0} {x y : CellView} → Some x ≡ Some y → x.full ≡ false → y.full ≡ true → A
not_full {x = x} {y = y} e f g = let q : x ≡ y = cc in let bad : ◌≡◌ {A = Bool} false true = sym f ∙ ap (λ (s : CellView). s.full) q ∙ g in cc

not_named : {A : Type 0} {x y : CellView} (n : NodeId) → Some x ≡ Some y → x.node ≡ None → y.node ≡ Some n → A
not_named {x = x} {y = y} n e f g = let q : x ≡ y = cc in let bad : None ≡ Some n = sym f ∙ ap (λ (s : CellView). s.node) q ∙ g in cc

same_owner : (x y : CellView) (n m : NodeId) → Some x ≡ Some y → x.node ≡ Some n → y.node ≡ Some m → n ≡ m
same_owner x y n m e f g = let q : x ≡ y = cc in let r : Some n ≡ Some m = sym f ∙ ap (λ (s : CellView). s.node) q ∙ g in cc

pub before_stands : (ms : List CellMark) (k : ℕ) (c : CellId) (m : NodeId) → slice_get (cells_before ms) k ≡ Some (cell_view c m true) → Has (stands_before ms) m
before_stands [] k c m e = cc
before_stands (Counted ∷ ms) zero c m e = not_named m e refl refl
before_stands (Counted ∷ ms) (suc k) c m e = before_stands ms k c m e
before_stands (Gap d ∷ ms) zero c m e = not_named m e refl refl
before_stands (Gap d ∷ ms) (suc k) c m e = before_stands ms k c m e
before_stands (Touch d n h ∷ ms) zero c m e = inl (same_owner (cell_view d n true) (cell_view c m true) n m e refl refl)
before_stands (Touch d n h ∷ ms) (suc k) c m e = inr (before_stands ms k c m e)
before_stands (Make d n b ∷ ms) k c m e = before_stands ms k c m e
before_stands (Fill d n ∷ ms) zero c m e = not_full e refl refl
before_stands (Fill d n ∷ ms) (suc k) c m e = before_stands ms k c m e

abbrev pub Stands : List CellView → NodeId → Type 0
Stands cells m = (k : ℕ) × (c : CellId) × (slice_get cells k ≡ Some (cell_view c m true))

further : (s : CellView) (cells : List CellView) (m : NodeId) → Stands cells m → Stands (s ∷ cells) m
further s cells m (k, c, e) = (suc k, c, e)

pub stands-before : (ms : List CellMark) (m : NodeId) → Has (stands_before ms) m → Stands (cells_before ms) m
stands-before [] m h = absurd h
stands-before (Counted ∷ ms) m h = further _ (cells_before ms) m (stands-before ms m h)
stands-before (Gap d ∷ ms) m h = further _ (cells_before ms) m (stands-before ms m h)
stands-before (Touch d n h ∷ ms) m (inl e) = (zero, d, ap (λ x. Some (cell_view d x true)) e)
stands-before (Touch d n h ∷ ms) m (inr i) = further _ (cells_before ms) m (stands-before ms m i)
stands-before (Make d n b ∷ ms) m h = stands-before ms m h
stands-before (Fill d n ∷ ms) m h = further _ (cells_before ms) m (stands-before ms m h)

pub after_stands : (ms : List CellMark) (k : ℕ) (c : CellId) (m : NodeId) → slice_get (cells_after ms) k ≡ Some (cell_view c m true) → Has (stands_after ms) m
after_stands [] k c m e = cc
after_stands (Counted ∷ ms) zero c m e = not_named m e refl refl
after_stands (Counted ∷ ms) (suc k) c m e = after_stands ms k c m e
after_stands (Gap d ∷ ms) zero c m e = not_named m e refl refl
after_stands (Gap d ∷ ms) (suc k) c m e = after_stands ms k c m e
after_stands (Touch d n h ∷ ms) zero c m e = go (is_leave h) refl
  where
    go : (b : Bool) → is_leave h ≡ b → Has ((if b then [] else n ∷ []) ++ stands_after ms) m
    go true f = not_full e (ap not f) refl
    go false f = inl (same_owner (cell_view d n (not (is_leave h))) (cell_view c m true) n m e refl refl)
after_stands (Touch d n h ∷ ms) (suc k) c m e = elim (is_leave h) as (λ b. Has ((if b then [] else n ∷ []) ++ stands_after ms) m) [ true ↦ after_stands ms k c m e | false ↦ inr (after_stands ms k c m e) ]
after_stands (Make d n true ∷ ms) zero c m e = inl (same_owner (cell_view d n true) (cell_view c m true) n m e refl refl)
after_stands (Make d n true ∷ ms) (suc k) c m e = inr (after_stands ms k c m e)
after_stands (Make d n false ∷ ms) zero c m e = not_full e refl refl
after_stands (Make d n false ∷ ms) (suc k) c m e = after_stands ms k c m e
after_stands (Fill d n ∷ ms) zero c m e = inl (same_owner (cell_view d n true) (cell_view c m true) n m e refl refl)
after_stands (Fill d n ∷ ms) (suc k) c m e = inr (after_stands ms k c m e)

pub stands-after : (ms : List CellMark) (m : NodeId) → Has (stands_after ms) m → Stands (cells_after ms) m
stands-after [] m h = absurd h
stands-after (Counted ∷ ms) m h = further _ (cells_after ms) m (stands-after ms m h)
stands-after (Gap d ∷ ms) m h = further _ (cells_after ms) m (stands-after ms m h)
stands-after (Touch d n h ∷ ms) m i = go (is_leave h) refl (λ j. stands-after ms m j) i
  where
    go : (b : Bool) → is_leave h ≡ b → (Has (stands_after ms) m → Stands (cells_after ms) m) → Has ((if b then [] else n ∷ []) ++ stands_after ms) m → Stands (cell_view d n (not (is_leave h)) ∷ cells_after ms) m
    go true f rest j = further _ (cells_after ms) m (rest j)
    go false f rest (inl e) = (zero, d, ap (λ b. Some (cell_view d n (not b))) f ∙ ap (λ x. Some (cell_view d x true)) e)
    go false f rest (inr j) = further _ (cells_after ms) m (rest j)
stands-after (Make d n true ∷ ms) m (inl e) = (zero, d, ap (λ x. Some (cell_view d x true)) e)
stands-after (Make d n true ∷ ms) m (inr i) = further _ (cells_after ms) m (stands-after ms m i)
stands-after (Make d n false ∷ ms) m h = further _ (cells_after ms) m (stands-after ms m h)
stands-after (Fill d n ∷ ms) m (inl e) = (zero, d, ap (λ x. Some (cell_view d x true)) e)
stands-after (Fill d n ∷ ms) m (inr i) = further _ (cells_after ms) m (stands-after ms m i)

-- ## In all rows and registers

module _ {R : Type 0} (L : Listing) (rows : List RowMarks) (regs : List R) (field : R → FieldId) (held : R → Option NodeId)
    (rows_rise : IsRising node_cmp (λ (r : RowMarks). r.node) rows) (regs_rise : IsRising field_cmp field regs) where
  pub before_shows : ((n : NodeId) → L.row n ≡ rows_before rows n) → ((f : FieldId) → L.register f ≡ option_map held (item_of field_cmp field regs f)) → ShowsListed L rows regs field held stands_before cells_before
  before_shows row register = record {
    row_shown = λ r h. row r.node ∙ ap (option_map (λ (r : RowMarks). cells_before (spread r.marks))) (has-item_of node_cmp node_cmp_total node_cmp_exact (λ (r : RowMarks). r.node) rows r rows_rise h);
    row_listed = λ n m c cs k e f. listed n (item_of node_cmp (λ (r : RowMarks). r.node) rows n) refl cs (sym (row n) ∙ e);
    register_shown = λ r h. register (field r) ∙ ap (option_map held) (has-item_of field_cmp field_cmp_total field_cmp_exact field regs r regs_rise h);
    register_listed = λ f m e. listed_register f (item_of field_cmp field regs f) refl m (sym (register f) ∙ e);
    cell_stands = before_stands;
    stands_cell = stands-before;
  }
    where
      listed : (n : NodeId) (o : Option RowMarks) → item_of node_cmp (λ (r : RowMarks). r.node) rows n ≡ o → (cs : List CellView) → option_map (λ (r : RowMarks). cells_before (spread r.marks)) o ≡ Some cs → (r : RowMarks) × Has rows r × (r.node ≡ n) × (cells_before (spread r.marks) ≡ cs)
      listed n None q cs e = cc
      listed n (Some r) q cs e = let i = item_of-has node_cmp node_cmp_total node_cmp_exact (λ (r : RowMarks). r.node) rows n r q in (r, i.0, i.1, (let s : cells_before (spread r.marks) ≡ cs = cc in s))

      listed_register : (f : FieldId) (o : Option R) → item_of field_cmp field regs f ≡ o → (m : NodeId) → option_map held o ≡ Some (Some m) → (r : R) × Has regs r × (field r ≡ f) × (held r ≡ Some m)
      listed_register f None q m e = cc
      listed_register f (Some r) q m e = let i = item_of-has field_cmp field_cmp_total field_cmp_exact field regs f r q in (r, i.0, i.1, (let s : held r ≡ Some m = cc in s))

  pub after_shows : (new : List NewNode) → ((n : NodeId) → L.row n ≡ rows_after rows new n) → ((f : FieldId) → L.register f ≡ registers_after (option_map held (item_of field_cmp field regs f)) new f) → ShowsListed L rows regs field held stands_after cells_after
  after_shows new row register = record {
    row_shown = λ r h. row r.node ∙ ap (λ o. option_or (option_map (λ (r : RowMarks). cells_after (spread r.marks)) o) (if is_among (nodes_new new) r.node then Some [] else None)) (has-item_of node_cmp node_cmp_total node_cmp_exact (λ (r : RowMarks). r.node) rows r rows_rise h);
    row_listed = λ n m c cs k e f. listed n (item_of node_cmp (λ (r : RowMarks). r.node) rows n) refl (is_among (nodes_new new) n) m c cs k (sym (row n) ∙ e) f;
    register_shown = λ r h. register (field r) ∙ ap (λ o. registers_after (option_map held o) new (field r)) (has-item_of field_cmp field_cmp_total field_cmp_exact field regs r regs_rise h);
    register_listed = λ f m e. listed_register f (item_of field_cmp field regs f) refl (is_among (nodes_new new) f.node) m (sym (register f) ∙ e);
    cell_stands = after_stands;
    stands_cell = stands-after;
  }
    where
      listed : (n : NodeId) (o : Option RowMarks) → item_of node_cmp (λ (r : RowMarks). r.node) rows n ≡ o → (b : Bool) (m : NodeId) (c : CellId) (cs : List CellView) (k : ℕ) → option_or (option_map (λ (r : RowMarks). cells_after (spread r.marks)) o) (if b then Some [] else None) ≡ Some cs → slice_get cs k ≡ Some (cell_view c m true) → (r : RowMarks) × Has rows r × (r.node ≡ n) × (cells_after (spread r.marks) ≡ cs)
      listed n None q true m c cs k e f = let s : cs ≡ [] = cc in let bad : None ≡ Some (cell_view c m true) = ap (λ xs. slice_get xs k) (sym s) ∙ f in cc
      listed n None q false m c cs k e f = cc
      listed n (Some r) q b m c cs k e f = let i = item_of-has node_cmp node_cmp_total node_cmp_exact (λ (r : RowMarks). r.node) rows n r q in (r, i.0, i.1, (let s : cells_after (spread r.marks) ≡ cs = cc in s))

      listed_register : (f : FieldId) (o : Option R) → item_of field_cmp field regs f ≡ o → (b : Bool) (m : NodeId) → option_or (option_map held o) (if b then Some None else None) ≡ Some (Some m) → (r : R) × Has regs r × (field r ≡ f) × (held r ≡ Some m)
      listed_register f None q true m e = cc
      listed_register f None q false m e = cc
      listed_register f (Some r) q b m e = let i = item_of-has field_cmp field_cmp_total field_cmp_exact field regs f r q in (r, i.0, i.1, (let s : held r ≡ Some m = cc in s))
