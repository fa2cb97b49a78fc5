-- What a change and a step show of a document is so there, and so they don't differ.
use Rattle.std.proofs.Common.{◌≡◌, ◌≢◌, ℕ, zero, suc, Bool, true, false, ◌&&◌, not, List, [], ◌∷◌, slice_get, Option, Some, None, option_map, cond, refl, sym, ap, ◌∙◌, subst, inl, inr}
use Rattle.std.specs.List.{AllZip, list_any}
use Rattle.st_ids.specs.Listing.{AreDistinct, Has, item_of}
use Rattle.st_ids.specs.Order.{field_cmp, node_cmp, same_node}
use Rattle.st_ids.proofs.Orders.{node_cmp_exact, node_cmp_total, same_node-true}
use Rattle.st_ids.specs.declared.names.CellId.{CellId}
use Rattle.st_ids.specs.declared.names.FieldId.{FieldId}
use Rattle.st_ids.specs.declared.names.NodeId.{NodeId}
use Rattle.st_marks.specs.declared.changes.Change.{Change}
use Rattle.st_marks.specs.declared.intents.Intent.{Intent}
use Rattle.st_marks.specs.declared.marks.Loose.{Loose}
use Rattle.st_marks.specs.declared.marks.RegMark.{RegMark}
use Rattle.st_marks.specs.declared.marks.RegStep.{RegStep}
use Rattle.st_marks.specs.declared.marks.RowMarks.{RowMarks}
use Rattle.st_marks.specs.declared.places.Slot.{Slot}
use Rattle.st_marks.specs.declared.places.Spot.{Spot}
use Rattle.st_marks.specs.declared.steps.Step.{Step}
use Rattle.st_marks.specs.Agree.{Differs, rows_differ, cell_twice, registers_differ, node_twice, IsSameView, SameIfBoth}
use Rattle.st_marks.specs.Document.{Document, IsSoundInForm, content, owned_cell, slot}
use Rattle.st_marks.specs.Embedding.{IsEmbedding, embed_loose, is_among, is_loose, is_nowhere, row_marks, row_part, tells}
use Rattle.st_marks.specs.Row.{CellMark, embed_row, merge, spread, step_row}
use Rattle.st_marks.specs.Listings.{Listing, CellView, Places, placed_in_row, placed_in_register, placed_nowhere, ListsCell, cells_before, nodes_loose, cell_view, listing_before_change, listing_before_step}
use Rattle.st_marks.specs.Step.{IsStep, step_loose}
use Rattle.st_marks.proofs.Climb.{stands}
use Rattle.st_marks.proofs.Members.{all-has, any-has, has-map}
use Rattle.st_ids.proofs.Listings.{has-item_of}
use Rattle.st_rows.proofs.KindLaws.{spread-merge}
use Rattle.st_rows.proofs.ViewsOfRows.{DescribeAll, Describes, IfTold, change_finds, step_finds}
use Rattle.st_marks.proofs.Unique.{distinct_content}

-- each row, register and node that is shown is as it is shown
pub record IsTrueOf (D : Document) (L : Listing) : Type 0 where
  pub rows : (n : NodeId) (cells : List CellView) → L.row n ≡ Some cells → DescribeAll (content D n) cells
  pub registers : (f : FieldId) (o : Option NodeId) → L.register f ≡ Some o → D.held f ≡ o
  pub nowhere : (n : NodeId) → L.nowhere n ≡ true → D.place n ≡ Spot.Nowhere

-- ## Two that are true of one document

same_if_both : {A : Type 0} (a : A) (x y : Option A) → IfTold x a → IfTold y a → SameIfBoth x y
same_if_both a None y p q = tt
same_if_both a (Some x) None p q = tt
same_if_both a (Some x) (Some y) p q = p ∙ sym q

same_seen : (s : Slot) (x y : CellView) → Describes s x → Describes s y → IsSameView x y
same_seen s x y p q = record { full = p.0 ∙ sym q.0; cell = same_if_both s.cell x.cell y.cell p.1 q.1; node = same_if_both s.node x.node y.node p.2 q.2 }

both_described : (c : List Slot) (xs ys : List CellView) → DescribeAll c xs → DescribeAll c ys → AllZip IsSameView xs ys
both_described [] [] [] p q = tt
both_described [] [] (y ∷ ys) p q = absurd q
both_described [] (x ∷ xs) ys p q = absurd p
both_described (s ∷ c) [] ys p q = absurd p
both_described (s ∷ c) (x ∷ xs) [] p q = absurd q
both_described (s ∷ c) (x ∷ xs) (y ∷ ys) p q = (same_seen s x y p.0 q.0, both_described c xs ys p.1 q.1)

described_at : (c : List Slot) (xs : List CellView) (k : ℕ) (x : CellView) → DescribeAll c xs → slice_get xs k ≡ Some x → (s : Slot) × (slice_get c k ≡ Some s) × Has c s × Describes s x
described_at [] [] k x p e = cc
described_at [] (y ∷ xs) k x p e = absurd p
described_at (s ∷ c) [] k x p e = absurd p
described_at (s ∷ c) (y ∷ xs) zero x p e = (s, refl, inl refl, subst (Describes s) (some e) p.0)
  where
    some : {a b : CellView} → ◌≡◌ {A = Option CellView} (Some a) (Some b) → a ≡ b
    some {a = a} q = ap at q
      where
        at : Option CellView → CellView
        at None = a
        at (Some z) = z
described_at (s ∷ c) (y ∷ xs) (suc k) x p e = let r = described_at c xs k x p.1 e in (r.0, r.1, inr r.2, r.3)

get-has : (c : List Slot) (k : ℕ) (s : Slot) → slice_get c k ≡ Some s → Has c s
get-has [] k s e = cc
get-has (t ∷ c) zero s e = let q : t ≡ s = cc in inl q
get-has (t ∷ c) (suc k) s e = inr (get-has c k s e)

one_index : (c : List Slot) (k l : ℕ) (s t : Slot) → AreDistinct (λ (u : Slot). u.cell) c → slice_get c k ≡ Some s → slice_get c l ≡ Some t → s.cell ≡ t.cell → k ≡ l
one_index [] k l s t o e f same = cc
one_index (u ∷ c) zero zero s t o e f same = refl
one_index (u ∷ c) zero (suc l) s t o e f same = let q : u ≡ s = cc in absurd (all-has (λ (v : Slot). v.cell ≢ u.cell) c t o.0 (get-has c l t f) (sym same ∙ ap (λ (v : Slot). v.cell) (sym q)))
one_index (u ∷ c) (suc k) zero s t o e f same = let q : u ≡ t = cc in absurd (all-has (λ (v : Slot). v.cell ≢ u.cell) c s o.0 (get-has c k s e) (same ∙ ap (λ (v : Slot). v.cell) (sym q)))
one_index (u ∷ c) (suc k) (suc l) s t o e f same = ap suc (one_index c k l s t o.1 e f same)

module _ (D : Document) (x : IsSoundInForm D) where
  node_in : {y z : NodeId} → ◌≡◌ {A = Option NodeId} (Some y) (Some z) → y ≡ z
  node_in {y} e = ap at e
    where
      at : Option NodeId → NodeId
      at None = y
      at (Some d) = d

  row_of_slot : (n : NodeId) (s : Slot) → Has (content D n) s → D.row_of s.cell ≡ Some n
  row_of_slot n s h =
      let o = has-map (slot D) (D.rows n) s h in
      (x.one_row s.cell n).1 (o.0.node, subst (λ a. Has (D.rows n) (owned_cell a o.0.node)) (ap (λ (t : Slot). t.cell) o.2) o.1)

  -- where a shown cell is
  cell_at : (L : Listing) → IsTrueOf D L → (c : CellId) (n : NodeId) (k : ℕ) (o : Option NodeId) → ListsCell L c n k o → (s : Slot) × (slice_get (content D n) k ≡ Some s) × Has (content D n) s × (c ≡ s.cell) × IfTold o s.node
  cell_at L t c n k o w =
      let r = described_at (content D n) w.cells k (record { cell = Some c; node = o; full = w.full }) (t.rows n w.cells w.listed) w.at_place in
      (r.0, r.1, r.2, r.3.1, r.3.2)

  says_place : (L : Listing) → IsTrueOf D L → (n : NodeId) (s : Spot) → Places L n s → D.place n ≡ s
  says_place L t n s (placed_in_row r m c cells k e f) =
      let q = described_at (content D r) cells k (cell_view c m true) (t.rows r cells e) f in
      stands D x m r c (subst (Has (content D r)) (λ i. record { cell = sym q.3.1 i; node = sym q.3.2 i; full = sym q.3.0 i }) q.2)
  says_place L t n s (placed_in_register f m e) = (x.one_held m f).0 (t.registers f (Some m) e)
  says_place L t n s (placed_nowhere m e) = t.nowhere m e

  -- they don't differ
  pub no_difference_shown : (L M : Listing) (f : FieldId) → IsTrueOf D L → IsTrueOf D M → Differs L M f → ⊥
  no_difference_shown L M f t u (rows_differ n a b e g apart) = apart (both_described (content D n) a b (t.rows n a e) (u.rows n b g))
  no_difference_shown L M f t u (cell_twice c n m k l o p v w apart r named) =
      let i = cell_at L t c n k o v in
      let j = cell_at M u c m l p w in
      let row : n ≡ m = node_in (sym (row_of_slot n i.0 i.2) ∙ ap D.row_of (sym i.3 ∙ j.3) ∙ row_of_slot m j.0 j.2) in
      let there : slice_get (content D n) l ≡ Some j.0 = ap (λ y. slice_get (content D y) l) row ∙ j.1 in
      let place : k ≡ l = one_index (content D n) k l i.0 j.0 (distinct_content D (D.rows n) (x.once n)) i.1 there (sym i.3 ∙ j.3) in
      let slot_same : i.0 ≡ j.0 = some (sym i.1 ∙ ap (slice_get (content D n)) place ∙ there) in
      apart (row, place, same_if_both i.0.node o p i.4 (subst (λ (s : Slot). IfTold p s.node) (sym slot_same) j.4))
    where
      some : {a b : Slot} → ◌≡◌ {A = Option Slot} (Some a) (Some b) → a ≡ b
      some {a = a} q = ap at q
        where
          at : Option Slot → Slot
          at None = a
          at (Some z) = z
  no_difference_shown L M f t u (registers_differ g a b e h apart) = apart (sym (t.registers g a e) ∙ u.registers g b h)
  no_difference_shown L M f t u (node_twice n a b v w apart g h) = apart (sym (says_place L t n a v) ∙ says_place M u n b w)

-- ## A change and a step are true of the document where they stand

row_shown : (c : List Slot) (n : NodeId) (marks : List CellMark) (o : Option RowMarks) (cells : List CellView) → o ≡ row_marks n marks → option_map (λ (r : RowMarks). cells_before (spread r.marks)) o ≡ Some cells → DescribeAll c (cells_before marks) → DescribeAll c cells
row_shown c n marks o cells e f h = go (list_any tells marks) (sym (ap (option_map (λ (r : RowMarks). cells_before (spread r.marks))) e) ∙ f)
  where
    go : (b : Bool) → option_map (λ (r : RowMarks). cells_before (spread r.marks)) (cond b (Some (record { node = n; marks = merge marks })) None) ≡ Some cells → DescribeAll c cells
    go true q = let z : cells_before (spread (merge marks)) ≡ cells = cc in subst (DescribeAll c) (sym (ap cells_before (spread-merge marks)) ∙ z) h
    go false q = cc

loose_nowhere : (D : Document) (m : NodeId → Bool) (n : NodeId) (l : Loose) (o : Loose) → cond (is_loose m D n) (Some o) None ≡ Some l → D.place n ≡ Spot.Nowhere
loose_nowhere D m n l o e = go (m n) (D.place n) (not (same_node n Rattle.st_ids.specs.Root.root)) refl e
  where
    go : (a : Bool) (s : Spot) (b : Bool) → D.place n ≡ s → cond (a && is_nowhere s && b) (Some o) None ≡ Some l → D.place n ≡ Spot.Nowhere
    go true Spot.Nowhere b p q = p
    go true (Spot.Row r c) b p q = cc
    go true (Spot.Register f) b p q = cc
    go false s b p q = cc

is_listed_loose : (ls : List Loose) (n : NodeId) → is_among (nodes_loose ls) n ≡ true → (l : Loose) × Has ls l × (l.node ≡ n)
is_listed_loose ls n e =
    let r = any-has (λ k. same_node k n) (nodes_loose ls) e in
    let o = has-map (λ (l : Loose). l.node) ls r.0 r.1 in
    (o.0, o.1, o.2 ∙ same_node-true r.0 n r.2)

reg_shown : {R : Type 0} (look : R → Option NodeId) (h : Option NodeId) (b : Bool) (r : R) (i : Option R) (o : Option NodeId) → look r ≡ h → i ≡ cond b (Some r) None → option_map look i ≡ Some o → h ≡ o
reg_shown look h true r i o e f g = let z : look r ≡ o = some (sym (ap (option_map look) f) ∙ g) in sym e ∙ z
  where
    some : {a b : Option NodeId} → ◌≡◌ {A = Option (Option NodeId)} (Some a) (Some b) → a ≡ b
    some {a = a} q = ap at q
      where
        at : Option (Option NodeId) → Option NodeId
        at None = a
        at (Some z) = z
reg_shown look h false r i o e f g = let q : None ≡ Some o = sym (ap (option_map look) f) ∙ g in cc

pub change_true : (D : Document) (N : Intent) (C : Change) → IsEmbedding D N C → IsTrueOf D (listing_before_change C)
change_true D N C emb = record {
  rows = λ n cells e. row_shown (content D n) n (embed_row (row_part emb.mentioned N n) (content D n)) (item_of node_cmp (λ (r : RowMarks). r.node) C.rows n) cells (emb.rows.at_each n) e (change_finds (row_part emb.mentioned N n) (content D n));
  registers = λ f o e. reg_shown (λ (r : RegMark). r.held) (D.held f) _ _ (item_of field_cmp (λ (r : RegMark). r.field) C.regs f) o refl (emb.regs.at_each f) e;
  nowhere = λ n e.
      let l = is_listed_loose C.loose n e in
      let found = has-item_of node_cmp node_cmp_total node_cmp_exact (λ (l : Loose). l.node) C.loose l.0 emb.loose.rising l.1 in
      loose_nowhere D emb.mentioned n l.0 _ (sym (ap (embed_loose emb.mentioned D N) l.2) ∙ sym (emb.loose.at_each l.0.node) ∙ found);
}

pub step_true : (D E : Document) (S : Step) → IsStep D E S → IsTrueOf D (listing_before_step S)
step_true D E S step = record {
  rows = λ n cells e. row_shown (content D n) n (step_row step.mentioned (step.grows n)) (item_of node_cmp (λ (r : RowMarks). r.node) S.rows n) cells (step.rows.at_each n) e (step_finds step.mentioned (step.grows n));
  registers = λ f o e. reg_shown (λ (r : RegStep). r.before) (D.held f) _ _ (item_of field_cmp (λ (r : RegStep). r.field) S.regs f) o refl (step.regs.at_each f) e;
  nowhere = λ n e.
      let l = is_listed_loose S.loose n e in
      let found = has-item_of node_cmp node_cmp_total node_cmp_exact (λ (l : Loose). l.node) S.loose l.0 step.loose.rising l.1 in
      loose_nowhere D step.mentioned n l.0 _ (sym (ap (step_loose step.mentioned D E) l.2) ∙ sym (step.loose.at_each l.0.node) ∙ found);
}

-- a change and a step that stand over one document don't differ in what they show of it
pub beside_agree : (D E : Document) (N : Intent) (C : Change) (S : Step) → IsSoundInForm D → IsEmbedding D N C → IsStep D E S → (f : FieldId) → Differs (listing_before_change C) (listing_before_step S) f → ⊥
beside_agree D E N C S x emb step f = no_difference_shown D x (listing_before_change C) (listing_before_step S) f (change_true D N C emb) (step_true D E S step)
