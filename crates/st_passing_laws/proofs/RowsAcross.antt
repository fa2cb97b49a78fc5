-- A row over a step, in two documents and in the two after an intent: cells that the intent makes are counted, and of all others the
-- step says the same. So its row after the intent is its row with counts raised.
use Rattle.std.proofs.Common.{◌≡◌, ◌≢◌, ◌≤◌, ◌||◌, Bool, true, false, List, [], ◌∷◌, ◌++◌, map, length, Option, Some, None, is_some, cond, refl, sym, ap, ◌∙◌, subst, inl, inr, ◌⊎◌, arith}
use Rattle.std.proofs.lemmas.List.{map-append}
use Rattle.std.specs.List.{list_any}
use Rattle.st_ids.specs.Listing.{Has}
use Rattle.st_ids.specs.declared.names.CellId.{CellId}
use Rattle.st_ids.specs.declared.names.NodeId.{NodeId}
use Rattle.st_marks.specs.declared.intents.Intent.{Intent}
use Rattle.st_marks.specs.declared.intents.Owned.{Owned}
use Rattle.st_marks.specs.declared.intents.To.{To}
use Rattle.st_marks.specs.declared.marks.How.TheVariants.{Stay}
use Rattle.st_marks.specs.declared.places.Slot.{Slot}
use Rattle.st_marks.specs.declared.places.Spot.{Spot}
use Rattle.st_marks.specs.CarryOut.{with_groups, with_names}
use Rattle.st_marks.specs.Document.{Document, IsSoundInForm, content, is_cell, owned_cell, slot}
use Rattle.st_marks.specs.Embedding.{row_part, tells}
use Rattle.st_marks.specs.Extends.{GainsItems, IsExtendedBy, no_more, item_gained, item_kept}
use Rattle.st_marks.specs.Intent.{Fits, Owns, group_at, group_cells, put_of}
use Rattle.st_marks.specs.Row.{CellMark, Counted, Touch, Make, RowPart, SameCell, embed_cells, embed_made, embed_row, step_cell, step_row}
use Rattle.st_marks.proofs.Climb.{is_cell-true, same_spot}
use Rattle.st_marks.proofs.Full.{known_put}
use Rattle.st_marks.proofs.Later.{has_later}
use Rattle.st_marks.proofs.Lookups.{made_there}
use Rattle.st_marks.proofs.Members.{has-map}
use Rattle.st_marks.proofs.NewRows.{made_listed}
use Rattle.st_over.proofs.Listed.{tells_read}
use Rattle.st_rows.specs.Changes.{NoGroupAtGained}
use Rattle.st_rows.specs.Sequence.{cells_of}
use Rattle.st_rows.specs.Walks.{CellPiece, beside}
use Rattle.st_rows.proofs.GainedCells.{AllGained, cell_there, gained_new}
use Rattle.st_rows.proofs.PiecesBeside.{beside-gained, beside-kept}
use Rattle.st_read_laws.specs.Reading.{read}
use Rattle.st_reading.proofs.DocumentRowsOver.{groups_are_old, slots_once}
use Rattle.st_passing.specs.Passing.{then_kept}

pub not_true : (a : Bool) → (a ≡ true → ⊥) → a ≡ false
not_true true h = absurd (h refl)
not_true false h = refl

pub none_some : {A : Type 0} {o : Option A} {a : A} → o ≡ None → o ≡ Some a → ⊥
none_some e f = let b : ◌≡◌ {A = Bool} false true = ap is_some (sym e ∙ f) in cc

-- what stays of a piece for the step, read so
abbrev pub kept : CellPiece → CellMark
kept q = read false (then_kept q)

no_shrink : {A : Type 0} {R : A → A → Type 0} {xs ys : List A} → GainsItems R xs ys → length xs ≤ length ys
no_shrink no_more = omega arith
no_shrink (item_gained g) = omega (arith, no_shrink g)
no_shrink (item_kept e g) = omega (arith, no_shrink g)

longer : {A : Type 0} (xs ys : List A) → length ys ≤ length (xs ++ ys)
longer [] ys = omega arith
longer (x ∷ xs) ys = omega (arith, longer xs ys)

-- a slot shows whether its node stands there
shown_full : (F : Document) (n : NodeId) (t : Slot) → Has (content F n) t → is_cell t.cell (F.place t.node) ≡ t.full
shown_full F n t h =
    let o = has-map (slot F) (F.rows n) t h in
    ap (λ (t : Slot). is_cell t.cell (F.place t.node)) (sym o.2) ∙ ap (λ (t : Slot). t.full) o.2

row_of_slot : (F : Document) → IsSoundInForm F → (n : NodeId) (t : Slot) → Has (content F n) t → F.row_of t.cell ≡ Some n
row_of_slot F s n t h =
    let o = has-map (slot F) (F.rows n) t h in
    subst (λ (u : Slot). F.row_of u.cell ≡ Some n) o.2 ((s.one_row o.0.cell n).1 (o.0.node, o.1))

-- no node stands in a cell that isn't there
not_at : (F : Document) → IsSoundInForm F → (c : CellId) (k : NodeId) → F.row_of c ≡ None → is_cell c (F.place k) ≡ false
not_at F s c k none = not_true (is_cell c (F.place k)) (λ h.
    let r = is_cell-true c (F.place k) h in
    none_some none ((s.one_row c r.0).1 (k, s.own_cell k r.0 c r.1)))

module _ (D E A B : Document) (N : Intent) (m mentioned : NodeId → Bool) (x : IsExtendedBy D E) (f : Fits D N) (e : Fits E N)
    (alike : (k : NodeId) → D.place k ≡ E.place k → A.place k ≡ B.place k)
    (apart : (k : NodeId) → D.place k ≢ E.place k → (A.place k ≡ D.place k) × (B.place k ≡ E.place k))
    (named : (k : NodeId) → m k ≡ true → A.place k ≡ D.place k)
    (comes : (k r : NodeId) (c : CellId) → A.place k ≡ Spot.Row r c → (D.place k ≡ Spot.Row r c) ⊎ (put_of N k ≡ Some (To.Cell c))) where
  -- ## One cell

  -- what the step says of a cell from one document to the other, read so
  abbrev said : Document → Document → CellId → NodeId → CellMark
  said F G c k = read false (step_cell m c k (is_cell c (F.place k)) (is_cell c (G.place k)))

  unnamed : (c : CellId) (k : NodeId) (a b : Bool) → m k ≡ false → a ≡ b → read false (step_cell m c k a b) ≡ Counted
  unnamed c k true true h e = ap (λ w. read false (cond w (Touch c k Stay) Counted)) h
  unnamed c k true false h e = cc
  unnamed c k false true h e = cc
  unnamed c k false false h e = refl

  said_same : (c : CellId) (k : NodeId) → said A B c k ≡ said D E c k
  said_same c k = elim (same_spot (D.place k) (E.place k)) [
    | inl q ↦ go q (m k) refl
    | inr a ↦ (λ i. read false (step_cell m c k (is_cell c ((apart k a).0 i)) (is_cell c ((apart k a).1 i))))
  ]
    where
      go : D.place k ≡ E.place k → (w : Bool) → m k ≡ w → said A B c k ≡ said D E c k
      go q true h =
          let later : B.place k ≡ E.place k = sym (alike k q) ∙ named k h ∙ q in
          λ i. read false (step_cell m c k (is_cell c (named k h i)) (is_cell c (later i)))
      go q false h = unnamed c k (is_cell c (A.place k)) (is_cell c (B.place k)) h (ap (is_cell c) (alike k q)) ∙ sym (unnamed c k (is_cell c (D.place k)) (is_cell c (E.place k)) h (ap (is_cell c) q))

  full_on : (c : CellId) (k : NodeId) → is_cell c (D.place k) ≡ is_cell c (E.place k) → is_cell c (A.place k) ≡ is_cell c (B.place k)
  full_on c k h = elim (same_spot (D.place k) (E.place k)) [
    | inl q ↦ ap (is_cell c) (alike k q)
    | inr a ↦ ap (is_cell c) (apart k a).0 ∙ h ∙ sym (ap (is_cell c) (apart k a).1)
  ]

  full_back : (c : CellId) (k : NodeId) → is_cell c (A.place k) ≡ is_cell c (B.place k) → is_cell c (D.place k) ≡ is_cell c (E.place k)
  full_back c k h = elim (same_spot (D.place k) (E.place k)) [
    | inl q ↦ ap (is_cell c) q
    | inr a ↦ sym (ap (is_cell c) (apart k a).0) ∙ h ∙ ap (is_cell c) (apart k a).1
  ]

  -- of a cell that the intent makes
  made_nowhere : (o : Owned) → Has (group_cells N) o → (is_cell o.cell (D.place o.node) ≡ false) × (is_cell o.cell (E.place o.node) ≡ false)
  made_nowhere o h = (not_at D x.before o.cell o.node (f.fresh_cells o.cell (made_there N o h)), not_at E x.after o.cell o.node (e.fresh_cells o.cell (made_there N o h)))

  made_counts : (o : Owned) → Has (group_cells N) o → said A B o.cell o.node ≡ Counted
  made_counts o h = let n = made_nowhere o h in said_same o.cell o.node ∙ (λ i. read false (step_cell m o.cell o.node (n.0 i) (n.1 i)))

  -- of a cell that the step makes
  module _ (n : NodeId) where
    gained_full : (t : Slot) → (Has (cells_of (content D n)) t.cell → ⊥) → Has (content E n) t → is_cell t.cell (B.place t.node) ≡ t.full
    gained_full t free there = elim (same_spot (D.place t.node) (E.place t.node)) [
      | inl q ↦ ap (is_cell t.cell) (sym (alike t.node q)) ∙ after ∙ sym before ∙ ap (is_cell t.cell) q ∙ shown_full E n t there
      | inr a ↦ ap (is_cell t.cell) (apart t.node a).1 ∙ shown_full E n t there
    ]
      where
        at : E.row_of t.cell ≡ Some n
        at = row_of_slot E x.after n t there

        absent : (r : NodeId) → Has (D.rows r) (owned_cell t.cell t.node) → ⊥
        absent r h =
            let late : E.row_of t.cell ≡ Some r = (x.after.one_row t.cell r).1 (t.node, has_later (x.rows r) (owned_cell t.cell t.node) h) in
            let same : r ≡ n = let both : Some r ≡ Some n = sym late ∙ at in cc in
            free (subst (λ k. Has (cells_of (content D k)) t.cell) same (cell_there D r (owned_cell t.cell t.node) h))

        before : is_cell t.cell (D.place t.node) ≡ false
        before = not_true (is_cell t.cell (D.place t.node)) (λ h. let r = is_cell-true t.cell (D.place t.node) h in absent r.0 (x.before.own_cell t.node r.0 t.cell r.1))

        owned : Owns D N t.node t.cell → ⊥
        owned (inl h) = absent h.0 h.1
        owned (inr h) = none_some (e.fresh_cells t.cell (made_there N (owned_cell t.cell t.node) h)) at

        after : is_cell t.cell (A.place t.node) ≡ false
        after = not_true (is_cell t.cell (A.place t.node)) (λ h.
            let r = is_cell-true t.cell (A.place t.node) h in
            elim (comes t.node r.0 t.cell r.1) [
              | inl d ↦ absent r.0 (x.before.own_cell t.node r.0 t.cell d)
              | inr p ↦ owned (known_put D N f t.node (To.Cell t.cell) p).1
            ])

    -- ## A row

    abbrev p : RowPart
    p = row_part mentioned N n

    -- the cells of a row, each with those that the intent makes behind it, in a document
    abbrev pub over : Document → List Slot → List Slot
    over F [] = []
    over F (s ∷ c) = slot F (owned_cell s.cell s.node) ∷ (map (slot F) (group_at N n (Some s.cell)) ++ over F c)

    over_row : (F G : Document) (os : List Owned) → map (slot G) (with_groups N n os) ≡ over G (map (slot F) os)
    over_row F G [] = refl
    over_row F G (o ∷ os) = λ i. slot G o ∷ (map-append (slot G) (group_at N n (Some o.cell)) (with_groups N n os) ∙ ap (λ l. map (slot G) (group_at N n (Some o.cell)) ++ l) (over_row F G os)) i

    pub content_over : (F G : Document) → G.rows n ≡ (with_names F N).rows n → content G n ≡ map (slot G) (group_at N n None) ++ over G (content F n)
    content_over F G h =
        ap (map (slot G)) h ∙ map-append (slot G) (group_at N n None) (with_groups N n (F.rows n)) ∙ ap (λ l. map (slot G) (group_at N n None) ++ l) (over_row F G (F.rows n))

    -- the row after the intent grows so, and the step says this of it
    abbrev pub Grown : List Slot → List Slot → List CellMark → Type 0
    Grown c d zs = (h : GainsItems SameCell c d) × (map (read false) (step_row m h) ≡ zs)

    made_grown : (os : List Owned) → ((o : Owned) → Has os o → Has (group_cells N) o) → (c d : List Slot) (xs ys : List CellMark) → Grown c d (map kept (beside xs ys))
        → Grown (map (slot A) os ++ c) (map (slot B) os ++ d) (map kept (beside (embed_made p os ++ xs) ys))
    made_grown [] h c d xs ys g = g
    made_grown (o ∷ os) h c d xs ys g =
        let r = made_grown os (λ q w. h q (inr w)) c d xs ys g in
        (item_kept (refl, refl) r.0, λ i. made_counts o (h o (inl refl)) i ∷ r.1 i)

    abbrev IsFree : Slot → Type 0
    IsFree t = (Has (cells_of (content D n)) t.cell → ⊥) × Has (content E n) t

    grown : {c d : List Slot} (g : GainsItems SameCell c d) → ((s : Slot) → Has c s → Has (content D n) s) → ((t : Slot) → Has d t → Has (content E n) t) → AllGained IsFree g → NoGroupAtGained p g
        → Grown (over A c) (over B d) (map kept (beside (embed_cells p c) (step_row m g)))
    grown no_more a b o k = (no_more, refl)
    grown (item_gained {y} {xs = c} {ys = d} g) a b o k =
        let r = grown g a (λ t w. b t (inr w)) o.1 k.1 in
        let full = gained_full y o.0.0 o.0.1 in
        subst (λ os. Grown (over A c) (slot B (owned_cell y.cell y.node) ∷ (map (slot B) os ++ over B d)) (map kept (beside (embed_cells p c) (Make y.cell y.node y.full ∷ step_row m g)))) (sym k.0)
        (item_gained r.0, (λ i. Make y.cell y.node (full i) ∷ r.1 i) ∙ sym (beside-gained kept p c y.cell y.node y.full (step_row m g)))
    grown (item_kept {x = s} {y = t} {xs = c} {ys = d} same g) a b o k =
        let r = grown g (λ q w. a q (inr w)) (λ q w. b q (inr w)) o k in
        let group = group_at N n (Some s.cell) in
        let q = made_grown group (λ u w. made_listed N n (Some s.cell) u w) (over A c) (over B d) (embed_cells p c) (step_row m g) r in
        let after : is_cell t.cell (B.place t.node) ≡ is_cell s.cell (B.place s.node) = sym (λ i. is_cell (same.0 i) (B.place (same.1 i))) in
        let later : is_cell s.cell (E.place s.node) ≡ t.full = (λ i. is_cell (same.0 i) (E.place (same.1 i))) ∙ shown_full E n t (b t (inl refl)) in
        let says : read false (step_cell m s.cell s.node (is_cell s.cell (A.place s.node)) (is_cell t.cell (B.place t.node))) ≡ read false (step_cell m s.cell s.node s.full t.full)
        = (λ i. read false (step_cell m s.cell s.node (is_cell s.cell (A.place s.node)) (after i))) ∙ said_same s.cell s.node
        ∙ (λ i. read false (step_cell m s.cell s.node (shown_full D n s (a s (inl refl)) i) (later i))) in
        subst (λ w. Grown (slot A (owned_cell s.cell s.node) ∷ (map (slot A) group ++ over A c)) (slot B (owned_cell t.cell t.node) ∷ (map (slot B) (group_at N n (Some w)) ++ over B d))
        (map kept (beside (embed_cells p (s ∷ c)) (step_cell m s.cell s.node s.full t.full ∷ step_row m g)))) same.0
        (item_kept same q.0, (λ i. says i ∷ q.1 i) ∙ sym (beside-kept kept p m s.cell s.node s.full t.full (embed_made p group ++ embed_cells p c) (step_row m g)))

    module _ (g : GainsItems SameCell (content D n) (content E n)) where
      free : AllGained IsFree g
      free = gained_new g (slots_once E (E.rows n) (x.after.once n))

      silent : NoGroupAtGained p g
      silent = groups_are_old D E N x f e mentioned n g

      pub row_grown : A.rows n ≡ (with_names D N).rows n → B.rows n ≡ (with_names E N).rows n
          → Grown (content A n) (content B n) (map kept (beside (embed_row p (content D n)) (step_row m g)))
      row_grown a b =
          let zs = map kept (beside (embed_row p (content D n)) (step_row m g)) in
          subst (λ c. Grown c (content B n) zs) (sym (content_over D A a))
          (subst (λ d. Grown (map (slot A) (group_at N n None) ++ over A (content D n)) d zs) (sym (content_over E B b))
          (made_grown (group_at N n None) (λ u w. made_listed N n None u w) (over A (content D n)) (over B (content E n)) (embed_cells p (content D n)) (step_row m g) (grown g (λ s w. w) (λ t w. w) free silent)))

    -- ## Rows that are the same

    groups_same : (os : List Owned) → ((o : Owned) → Has os o → Has (group_cells N) o) → map (slot A) os ≡ map (slot B) os
    groups_same [] h = refl
    groups_same (o ∷ os) h =
        let n = made_nowhere o (h o (inl refl)) in
        λ i. record { cell = o.cell; node = o.node; full = full_on o.cell o.node (n.0 ∙ sym n.1) i } ∷ groups_same os (λ q w. h q (inr w)) i

    over_same : (c : List Slot) → ((s : Slot) → Has c s → is_cell s.cell (D.place s.node) ≡ is_cell s.cell (E.place s.node)) → over A c ≡ over B c
    over_same [] h = refl
    over_same (s ∷ c) h =
        λ i. record { cell = s.cell; node = s.node; full = full_on s.cell s.node (h s (inl refl)) i }
        ∷ (groups_same (group_at N n (Some s.cell)) (λ u w. made_listed N n (Some s.cell) u w) i ++ over_same c (λ q w. h q (inr w)) i)

    pub content_on : A.rows n ≡ (with_names D N).rows n → B.rows n ≡ (with_names E N).rows n → content D n ≡ content E n → content A n ≡ content B n
    content_on a b h =
        content_over D A a
        ∙ (λ i. groups_same (group_at N n None) (λ u w. made_listed N n None u w) i ++ over_same (content D n) (λ s w. shown_full D n s w ∙ sym (shown_full E n s (subst (λ c. Has c s) h w))) i)
        ∙ ap (λ c. map (slot B) (group_at N n None) ++ over B c) h
        ∙ sym (content_over E B b)

    behind : (os : List Owned) (c d : List Slot) → map (slot A) os ++ c ≡ map (slot B) os ++ d → c ≡ d
    behind [] c d h = h
    behind (o ∷ os) c d h = let rest : map (slot A) os ++ c ≡ map (slot B) os ++ d = cc in behind os c d rest

    over_back : {c d : List Slot} (g : GainsItems SameCell c d) → ((s : Slot) → Has c s → Has (content D n) s) → ((t : Slot) → Has d t → Has (content E n) t) → AllGained IsFree g → NoGroupAtGained p g
        → over A c ≡ over B d → c ≡ d
    over_back no_more a b o k h = refl
    over_back (item_gained {y} {xs = c} {ys = d} g) a b o k h =
        absurd (omega (arith, ap length h, longer (map (slot B) (group_at N n (Some y.cell))) (over B d), no_shrink (grown g a (λ t w. b t (inr w)) o.1 k.1).0))
    over_back (item_kept {x = s} {y = t} {xs = c} {ys = d} same g) a b o k h =
        let group : CellId → List Owned = λ u. group_at N n (Some u) in
        let head : slot A (owned_cell s.cell s.node) ≡ slot B (owned_cell t.cell t.node) = cc in
        let tail : map (slot A) (group s.cell) ++ over A c ≡ map (slot B) (group t.cell) ++ over B d = cc in
        let rest = over_back g (λ q w. a q (inr w)) (λ q w. b q (inr w)) o k (behind (group s.cell) (over A c) (over B d) (subst (λ u. map (slot A) (group s.cell) ++ over A c ≡ map (slot B) (group u) ++ over B d) (sym same.0) tail)) in
        let full : s.full ≡ t.full = sym (shown_full D n s (a s (inl refl)))
        ∙ full_back s.cell s.node (ap (λ (u : Slot). u.full) head ∙ sym (λ i. is_cell (same.0 i) (B.place (same.1 i))))
        ∙ (λ i. is_cell (same.0 i) (E.place (same.1 i))) ∙ shown_full E n t (b t (inl refl)) in
        λ i. record { cell = same.0 i; node = same.1 i; full = full i } ∷ rest i

    pub content_back : GainsItems SameCell (content D n) (content E n) → A.rows n ≡ (with_names D N).rows n → B.rows n ≡ (with_names E N).rows n → content A n ≡ content B n → content D n ≡ content E n
    content_back g a b h =
        over_back g (λ s w. w) (λ t w. w) (free g) (silent g)
        (behind (group_at N n None) (over A (content D n)) (over B (content E n)) (sym (content_over D A a) ∙ h ∙ content_over E B b))

-- ## The row tells where the step's does

module _ (p : RowPart) (m : NodeId → Bool) where
  made_silent : (os : List Owned) (xs ys : List CellMark) → list_any tells (map kept (beside (embed_made p os ++ xs) ys)) ≡ list_any tells (map kept (beside xs ys))
  made_silent [] xs ys = refl
  made_silent (o ∷ os) xs ys = made_silent os xs ys

  cells_tell : {c d : List Slot} (g : GainsItems SameCell c d) → list_any tells (map kept (beside (embed_cells p c) (step_row m g))) ≡ list_any tells (step_row m g)
  cells_tell no_more = refl
  cells_tell (item_gained {y} {xs = c} g) = ap (list_any tells) (beside-gained kept p c y.cell y.node y.full (step_row m g))
  cells_tell (item_kept {x = s} {y = t} {xs = c} same g) =
      let made = embed_made p (p.new_cells (Some s.cell)) in
      ap (list_any tells) (beside-kept kept p m s.cell s.node s.full t.full (made ++ embed_cells p c) (step_row m g))
      ∙ (λ i. tells_read false (step_cell m s.cell s.node s.full t.full) i || (made_silent (p.new_cells (Some s.cell)) (embed_cells p c) (step_row m g) ∙ cells_tell g) i)

  pub row_tells : {c d : List Slot} (g : GainsItems SameCell c d) → list_any tells (map kept (beside (embed_row p c) (step_row m g))) ≡ list_any tells (step_row m g)
  row_tells {c} g = made_silent (p.new_cells None) (embed_cells p c) (step_row m g) ∙ cells_tell g
