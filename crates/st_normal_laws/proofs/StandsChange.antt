-- A change that obeys the rules stands over each sound document in which it finds what is so.
use Rattle.std.proofs.Common.{◌^◌, ◌≡◌, ◌≢◌, ◌<◌, ◌++◌, Bool, true, false, not, ◌||◌, ◌&&◌, List, [], ◌∷◌, map, length, Option, Some, None, IsSome, IsTrue, cond, refl, sym, ap, ◌∙◌, subst, inl, inr, ◌⊎◌}
use Rattle.std.specs.List.{find, flat_map, list_any}
use Rattle.st_ids.specs.Listing.{Has, item_of}
use Rattle.st_ids.specs.Order.{node_cmp, field_cmp, same_node}
use Rattle.st_ids.proofs.Orders.{node_cmp_exact, node_cmp_total, field_cmp_exact, field_cmp_total, same_node-true, same_node-itself}
use Rattle.st_ids.specs.declared.names.CellId.{CellId}
use Rattle.st_ids.specs.declared.names.FieldId.{FieldId}
use Rattle.st_ids.specs.declared.names.NodeId.{NodeId}
use Rattle.st_marks.specs.declared.changes.Change.{Change}
use Rattle.st_marks.specs.declared.changes.NewNode.{NewNode}
use Rattle.st_marks.specs.declared.intents.Intent.{Intent}
use Rattle.st_marks.specs.declared.intents.Owned.{Owned}
use Rattle.st_marks.specs.declared.intents.Put.{Put}
use Rattle.st_marks.specs.declared.intents.To.{To}
use Rattle.st_normal.specs.declared.entries.Found.{Found}
use Rattle.st_marks.specs.declared.marks.How.{How}
use Rattle.st_marks.specs.declared.marks.How.TheVariants.{Stay, Here, Leave}
use Rattle.st_marks.specs.declared.marks.Loose.{Loose}
use Rattle.st_marks.specs.declared.marks.RegMark.{RegMark}
use Rattle.st_marks.specs.declared.marks.RowMarks.{RowMarks}
use Rattle.st_marks.specs.declared.places.Slot.{Slot}
use Rattle.st_marks.specs.declared.places.Spot.{Spot}
use Rattle.st_marks.specs.Document.{Document, IsSoundInForm, content, owned_cell, slot, HasShortRows}
use Rattle.st_ids.specs.Root.{root}
use Rattle.st_marks.specs.Intent.{clears, new_node, put_of, put_in, same_option}
use Rattle.st_marks.specs.Row.{CellMark, Counted, Gap, Touch, Make, Fill, spread, RowPart, embed_cell, embed_cells, embed_made, embed_row, how, merge, same_to}
use Rattle.st_marks.specs.How.{is_here, is_stay}
use Rattle.st_normal.specs.Rules.{IsFound, Entries, ObeysDataRules, found_held, found_in, found_loose, in_rows, entries_of_change, HasListedField, kept_at, staying_nodes}
use Rattle.st_marks.specs.Listings.{cells_after, cells_before, one_or_none}
use Rattle.st_ids.proofs.Listings.{has-item_of, item_of-has}
use Rattle.st_marks.proofs.Lookups.{put-has, has-put_in, put_in-has}
use Rattle.st_marks.proofs.Members.{all-has, append_left, append_right, has-append, map-has, has-map, flat_map-has, first-has, distinct-has, first-distinct}
use Rattle.st_puts.specs.Meant.{Along, IsOver, along, leaving_nodes, meant_intent, put_to}
use Rattle.st_puts.proofs.FoundPlaces.{touched, filled, found_there, PlacedAs, as_row, as_held, as_loose, found_placed, is-found_held, has-found_in}
use Rattle.st_puts.specs.ChangeMentions.{moving_nodes, mentions}
use Rattle.st_puts.proofs.MentionsOfIntents.{moving-has, row_put-has, here-put, fill-put, has-moving, has-staying}
use Rattle.st_puts.proofs.MentionsListed.{put-cases, put-moved, moved-put, mentions-exact, mentions-found, listed-field, listed-moved, stay-leave, found-row, found-reg, found-loose, is-found, put-reg, put-loose}
use Rattle.st_puts.proofs.PutsOfIntents.{put-is, cell-put, one_mark, is_here-put, put-is_here}
use Rattle.st_marks.proofs.Shared.{same_to-true}
use Rattle.st_puts.proofs.Groups.{along-has, IsMarkOf, AreMade, row_along, has-along, ts_once, at-start, at-cell, no-row, same_row}
use Rattle.st_puts.proofs.MeaningFits.{rows_once, regs_once, new_once, found-old, make-put, put-row, made-new}
use Rattle.st_marks.specs.CarryOut.{full, with_groups}
use Rattle.st_marks.specs.Embedding.{IsEmbedding, embed_loose, is_among, is_loose, is_nowhere, row_marks, row_part, register_part, tells}
use Rattle.st_marks.specs.Register.{comes_in, embed_register, holds_mentioned, how_held}
use Rattle.st_normal.proofs.NoRings.{among_has}
use Rattle.st_marks.proofs.Climb.{stands}
use Rattle.st_normal_laws.proofs.MeantIntent.{reg-put, clear-is, is-clear, meant_is_intent}
use Rattle.st_puts.proofs.Basics.{is-one, not-false, not-true, register-not-nowhere, row-not-nowhere}
use Rattle.st_normal_laws.proofs.Lengths.{row-length}
use Rattle.st_rows.proofs.ShortRows.{all_after}
use Rattle.st_lemmas.proofs.Bools.{true-false, and-both, and-true, or-left, or-right}
use Rattle.st_ids.proofs.Shared.{filtered}

-- ## Rows that aren't listed

silent : (p : RowPart) (c : List Slot) → ((s : Slot) → Has c s → (tells (embed_cell p s.cell s.node s.full) ≡ false) × (p.new_cells (Some s.cell) ≡ [])) → list_any tells (embed_cells p c) ≡ false
silent p [] f = refl
silent p (s ∷ c) f = let q = f s (inl refl) in
    go (tells (embed_cell p s.cell s.node s.full)) q.0 (ap (λ os. list_any tells (embed_made p os ++ embed_cells p c)) q.1 ∙ silent p c (λ t h. f t (inr h)))
  where
    go : (b : Bool) → b ≡ false → list_any tells (embed_made p (p.new_cells (Some s.cell)) ++ embed_cells p c) ≡ false → (b || list_any tells (embed_made p (p.new_cells (Some s.cell)) ++ embed_cells p c)) ≡ false
    go true e f = cc
    go false e f = f

module _ (D : Document) (C : Change) (x : IsSoundInForm D) (w : ObeysDataRules C) (o : IsOver D C) (plain : C.schema ≡ None) where
  abbrev L : Entries
  L = entries_of_change C

  abbrev N : Intent
  N = meant_intent D C

  abbrev m : NodeId → Bool
  m = mentions C

  known-there : (n : NodeId) → IsFound L n → m n ≡ true → m n ≡ true
  known-there n f e = e

  -- ## Who is mentioned

  by-staying : (f : Found) → Has L.found f → Has (in_rows found_in C.rows ++ (flat_map kept_at C.regs ++ found_loose C.loose)) f → m f.node ≡ true
  by-staying f i j = elim (stay-leave f.how) [
    | inl s ↦ elim (all-has (λ (n : NodeId). Has C.need n ⊎ HasListedField L n) (staying_nodes (in_rows found_in C.rows ++ (flat_map kept_at C.regs ++ found_loose C.loose))) f.node w.mentioned (has-staying (in_rows found_in C.rows ++ (flat_map kept_at C.regs ++ found_loose C.loose)) f j s)) [
      | inl a ↦ or-right (is_among (moving_nodes L.found) f.node) _ (or-left (is_among C.need f.node) _ ((among_has C.need f.node).1 a))
      | inr a ↦ listed-field D C x w o f.node a (found_there D C x o f.node (map-has (λ (f : Found). f.node) L.found f i))
    ]
    | inr b ↦ listed-moved D C x w o f.node (has-moving L.found f i (elim b [ inl q ↦ ap is_stay q | inr q ↦ ap is_stay q ]))
  ]

  touch-mentioned : (r : RowMarks) (c : CellId) (n : NodeId) (h : How) → Has C.rows r → Has (spread r.marks) (Touch c n h) → m n ≡ true
  touch-mentioned r c n h i j = by-staying (record { node = n; how = h }) (found-row D C x w o r c n h i j) (append_left (in_rows found_in C.rows) (flat_map kept_at C.regs ++ found_loose C.loose) (record { node = n; how = h })
      (flat_map-has (λ (r : RowMarks). found_in (spread r.marks)) C.rows r (record { node = n; how = h }) i (has-found_in (spread r.marks) c n h j)))

  kept-mentioned : (r : RegMark) (n : NodeId) → Has C.regs r → r.held ≡ Some n → r.clear ≡ false → m n ≡ true
  kept-mentioned r n i e f = by-staying (record { node = n; how = r.how }) (found-reg D C x w o r n i e) (append_right (in_rows found_in C.rows) (flat_map kept_at C.regs ++ found_loose C.loose) (record { node = n; how = r.how })
      (append_left (flat_map kept_at C.regs) (found_loose C.loose) (record { node = n; how = r.how }) (flat_map-has kept_at C.regs r (record { node = n; how = r.how }) i
      (subst (λ b. Has (cond b [] (found_held r.held r.how)) (record { node = n; how = r.how })) (sym f) (is-found_held r.held n r.how e)))))

  loose-mentioned : (l : Loose) → Has C.loose l → m l.node ≡ true
  loose-mentioned l i = by-staying (record { node = l.node; how = l.how }) (found-loose D C x w o l i) (append_right (in_rows found_in C.rows) (flat_map kept_at C.regs ++ found_loose C.loose) (record { node = l.node; how = l.how })
      (append_right (flat_map kept_at C.regs) (found_loose C.loose) (record { node = l.node; how = l.how }) (map-has (λ (l : Loose). let f : Found = record { node = l.node; how = l.how } in f) C.loose l i)))

  -- where one that is mentioned stands
  placed : (n : NodeId) → m n ≡ true → (n ≡ root) ⊎ ((h : How) × PlacedAs D C n h)
  placed n e = elim (mentions-found D C x w o n e) [
    | inl q ↦ inl q
    | inr i ↦ (let f = has-map (λ (f : Found). f.node) L.found n i in inr (f.0.how, subst (λ k. PlacedAs D C k f.0.how) f.2 (found_placed D C x o f.0 f.1)))
  ]

  unless : (b : Bool) → (b ≡ true → ⊥) → b ≡ false
  unless true h = absurd (h refl)
  unless false h = refl

  row-not-register : (n : NodeId) (c : CellId) (f : FieldId) → Spot.Row n c ≡ Spot.Register f → ⊥
  row-not-register n c f e = cc

  -- one that is mentioned and stands in a row is touched there
  row-touched : (n r : NodeId) (c : CellId) → m n ≡ true → D.place n ≡ Spot.Row r c → (q : RowMarks) × (h : How) × Has C.rows q × (q.node ≡ r) × Has (spread q.marks) (Touch c n h)
  row-touched n r c e p = elim (placed n e) [
    | inl q ↦ absurd (row-not-nowhere r c (sym p ∙ ap D.place q ∙ x.root_nowhere))
    | inr a ↦ at a.0 a.1
  ]
    where
      at : (h : How) → PlacedAs D C n h → (q : RowMarks) × (h : How) × Has C.rows q × (q.node ≡ r) × Has (spread q.marks) (Touch c n h)
      at h (as_row q d i j f) = let s : Spot.Row q.node d ≡ Spot.Row r c = sym f ∙ p in let a : q.node ≡ r = cc in let b : d ≡ c = cc in (q, h, i, a, subst (λ d. Has (spread q.marks) (Touch d n h)) b j)
      at h (as_held q i f g k) = absurd (row-not-register r c q.field (sym p ∙ k))
      at h (as_loose l i f g k t) = absurd (row-not-nowhere r c (sym p ∙ k))

  register-held : (n : NodeId) (f : FieldId) → m n ≡ true → D.place n ≡ Spot.Register f → (r : RegMark) × Has C.regs r × (r.field ≡ f)
  register-held n f e p = elim (placed n e) [
    | inl q ↦ absurd (register-not-nowhere f (sym p ∙ ap D.place q ∙ x.root_nowhere))
    | inr a ↦ at a.0 a.1
  ]
    where
      at : (h : How) → PlacedAs D C n h → (r : RegMark) × Has C.regs r × (r.field ≡ f)
      at h (as_row q d i j g) = absurd (row-not-register q.node d f (sym g ∙ p))
      at h (as_held q i g k l) = let s : Spot.Register q.field ≡ Spot.Register f = sym l ∙ p in let a : q.field ≡ f = cc in (q, i, a)
      at h (as_loose l i g k t u) = absurd (register-not-nowhere f (sym p ∙ t))

  -- ## What becomes of who is found

  stay-none : (n : NodeId) → Has L.found (record { node = n; how = Stay }) → put_of N n ≡ None
  stay-none n i = go (put_of N n) refl
    where
      go : (q : Option To) → put_of N n ≡ q → q ≡ None
      go None e = refl
      go (Some t) e = absurd (elim (put-moved D C x w o (put_to n t) (put-has N n t e)) [
        | inl j ↦ found-old D C x w o plain n (is-found D C x w o n Stay i) j
        | inr j ↦ (let f = moving-has L.found n j in let s = distinct-has (λ (f : Found). f.node) L.found f.0 (record { node = n; how = Stay }) w.common.found_once f.1 i f.2 in
            true-false (ap (λ (f : Found). is_stay f.how) s) f.3)
      ])

  leave-is : (n : NodeId) (t : To) → Has L.found (record { node = n; how = Leave }) → (put_of N n ≡ Some t → ⊥) → how (put_of N n) t ≡ Leave
  leave-is n t i never = let p = moved-put D C x w o (record { node = n; how = Leave }) i refl in let e = put-is D C x w o n p.0 p.1 in go p.0 e (same_to p.0 t) refl
    where
      go : (u : To) → put_of N n ≡ Some u → (b : Bool) → same_to u t ≡ b → how (put_of N n) t ≡ Leave
      go u e true f = absurd (never (e ∙ ap (λ u. Some u) (same_to-true u t f)))
      go u e false f = rw e (ap (λ b. cond b Here Leave) f)

  stay-is : (n : NodeId) (t : To) → Has L.found (record { node = n; how = Stay }) → how (put_of N n) t ≡ Stay
  stay-is n t i = ap (λ q. how q t) (stay-none n i)

  -- ## A listed row

  abbrev part : NodeId → RowPart
  part n = row_part m N n

  touch-how : (r : RowMarks) (c : CellId) (n : NodeId) (h : How) → Has C.rows r → Has (spread r.marks) (Touch c n h) → how (put_of N n) (To.Cell c) ≡ h
  touch-how r c n Stay i j = stay-is n (To.Cell c) (found-row D C x w o r c n Stay i j)
  touch-how r c n Here i j = put-is_here (put_of N n) (To.Cell c) (put-is D C x w o n (To.Cell c) (put-row D C x w o plain r c n i (here-put (spread r.marks) c n j)))
  touch-how r c n Leave i j = leave-is n (To.Cell c) (found-row D C x w o r c n Leave i j) (λ e. let q = cell-put D C x w o n c e in not-put q.0 q.1 q.2)
    where
      not-put : (q : RowMarks) → Has C.rows q → (Has (spread q.marks) (Touch c n Here) ⊎ Has (spread q.marks) (Make c n true) ⊎ Has (spread q.marks) (Fill c n)) → ⊥
      not-put q k (inl a) = let e = (one_mark D C x w o q r (Touch c n Here) (Touch c n Leave) c k i a j refl refl).1 in cc
      not-put q k (inr (inl a)) = let e = (one_mark D C x w o q r (Make c n true) (Touch c n Leave) c k i a j refl refl).1 in cc
      not-put q k (inr (inr a)) = let e = (one_mark D C x w o q r (Fill c n) (Touch c n Leave) c k i a j refl refl).1 in cc

  make-is : (r : RowMarks) → Has C.rows r → AreMade (part r.node) (spread r.marks)
  make-is r i c n true j = ap is_here (put-is_here (put_of N n) (To.Cell c) (put-is D C x w o n (To.Cell c) (put-row D C x w o plain r c n i (make-put (spread r.marks) c n j))))
  make-is r i c n false j = unless (is_here (how (put_of N n) (To.Cell c))) (λ e. let q = cell-put D C x w o n c (is_here-put (put_of N n) (To.Cell c) e) in not-put q.0 q.1 q.2)
    where
      not-put : (q : RowMarks) → Has C.rows q → (Has (spread q.marks) (Touch c n Here) ⊎ Has (spread q.marks) (Make c n true) ⊎ Has (spread q.marks) (Fill c n)) → ⊥
      not-put q k (inl a) = let e = (one_mark D C x w o q r (Touch c n Here) (Make c n false) c k i a j refl refl).1 in cc
      not-put q k (inr (inl a)) = let e = (one_mark D C x w o q r (Make c n true) (Make c n false) c k i a j refl refl).1 in cc
      not-put q k (inr (inr a)) = let e = (one_mark D C x w o q r (Fill c n) (Make c n false) c k i a j refl refl).1 in cc

  cell-mark : (r : RowMarks) (t : Along) → Has C.rows r → Has (along (content D r.node) (spread r.marks)) t → (y : CellMark) → t.mark ≡ y → Has (content D r.node) t.slot → Has (spread r.marks) y → IsMarkOf t.slot y → embed_cell (part r.node) t.slot.cell t.slot.node t.slot.full ≡ y
  cell-mark r t i j Counted e k l f =
      ap (embed_cell (part r.node) t.slot.cell t.slot.node) (sym f) ∙ ap (λ b. cond b (Touch t.slot.cell t.slot.node (how (put_of N t.slot.node) (To.Cell t.slot.cell))) Counted) (unless (m t.slot.node) (λ g.
      let at = stands D x t.slot.node r.node t.slot.cell (subst (λ b. Has (content D r.node) (record { cell = t.slot.cell; node = t.slot.node; full = b })) (sym f) k) in
      let q = row-touched t.slot.node r.node t.slot.cell g at in
      let s = same_row D C x w o (rows_once D C x w o plain) q.0 r q.2 i q.3 in
      let u = has-along (content D r.node) (spread r.marks) (o.rows r i) t.slot.cell t.slot.node q.1 (subst (λ (z : RowMarks). Has (spread z.marks) (Touch t.slot.cell t.slot.node q.1)) s q.4) in
      let a = along-has (content D r.node) (spread r.marks) (o.rows r i) u.0 u.1 in
      touched-not u.0 u.1 (cell-of u.0.slot u.0.mark t.slot.cell t.slot.node q.1 u.2 a.2) t.slot.cell t.slot.node q.1 u.2))
    where
      cell-of : (s : Slot) (y : CellMark) (c : CellId) (n : NodeId) (h : How) → y ≡ Touch c n h → IsMarkOf s y → s.cell ≡ c
      cell-of s y c n h g a = sym (subst (IsMarkOf s) g a).1

      not-touch : (c : CellId) (n : NodeId) (h : How) → Counted ≡ Touch c n h → ⊥
      not-touch c n h e = cc

      touched-not : (u : Along) → Has (along (content D r.node) (spread r.marks)) u → u.slot.cell ≡ t.slot.cell → (c : CellId) (n : NodeId) (h : How) → u.mark ≡ Touch c n h → ⊥
      touched-not u v s c n h g = let same = distinct-has (λ (t : Along). t.slot.cell) (along (content D r.node) (spread r.marks)) u t (ts_once D C x w o (rows_once D C x w o plain) r i) v j s in
          not-touch c n h (sym e ∙ ap (λ (t : Along). t.mark) (sym same) ∙ g)
  cell-mark r t i j (Gap c) e k l f =
      ap (embed_cell (part r.node) t.slot.cell t.slot.node) (sym f.0) ∙ ap (λ b. cond b (Fill t.slot.cell t.slot.node) (Gap t.slot.cell)) (unless (is_here (how (put_of N t.slot.node) (To.Cell t.slot.cell))) (λ g.
      let q = cell-put D C x w o t.slot.node t.slot.cell (is_here-put (put_of N t.slot.node) (To.Cell t.slot.cell) g) in not-put q.0 q.1 q.2))
      ∙ ap (λ c. Gap c) (sym f.1)
    where
      not-put : (q : RowMarks) → Has C.rows q → (Has (spread q.marks) (Touch t.slot.cell t.slot.node Here) ⊎ Has (spread q.marks) (Make t.slot.cell t.slot.node true) ⊎ Has (spread q.marks) (Fill t.slot.cell t.slot.node)) → ⊥
      not-put q h (inl a) = let e = (one_mark D C x w o q r (Touch t.slot.cell t.slot.node Here) (Gap c) t.slot.cell h i a l refl (ap (λ c. Some c) f.1)).1 in cc
      not-put q h (inr (inl a)) = let e = (one_mark D C x w o q r (Make t.slot.cell t.slot.node true) (Gap c) t.slot.cell h i a l refl (ap (λ c. Some c) f.1)).1 in cc
      not-put q h (inr (inr a)) = let e = (one_mark D C x w o q r (Fill t.slot.cell t.slot.node) (Gap c) t.slot.cell h i a l refl (ap (λ c. Some c) f.1)).1 in cc
  cell-mark r t i j (Touch c n h) e k l f =
      (λ z. embed_cell (part r.node) (sym f.1 z) (sym f.2 z) (sym f.0 z)) ∙ ap (λ b. cond b (Touch c n (how (put_of N n) (To.Cell c))) Counted) (touch-mentioned r c n h i l) ∙ ap (λ h. Touch c n h) (touch-how r c n h i l)
  cell-mark r t i j (Make c n b) e k l f = absurd f
  cell-mark r t i j (Fill c n) e k l f =
      (λ z. embed_cell (part r.node) (sym f.1 z) (sym f.2 z) (sym f.0 z)) ∙ ap (λ b. cond b (Fill c n) (Gap c)) (ap is_here (put-is_here (put_of N n) (To.Cell c) (put-is D C x w o n (To.Cell c) (put-row D C x w o plain r c n i (fill-put (spread r.marks) c n l)))))

  pub row_is : (r : RowMarks) → Has C.rows r → embed_row (part r.node) (content D r.node) ≡ spread r.marks
  row_is r i = ap (λ os. embed_made (part r.node) os ++ embed_cells (part r.node) (content D r.node)) (at-start D C x w o (rows_once D C x w o plain) r i)
      ∙ row_along (part r.node) (content D r.node) (spread r.marks) (o.rows r i)
      (λ t j. let a = along-has (content D r.node) (spread r.marks) (o.rows r i) t j in (cell-mark r t i j t.mark refl a.0 a.1 a.2, at-cell D C x w o (rows_once D C x w o plain) r t i j))
      (make-is r i)

  -- ## A row that isn't listed

  cells-row : (n : NodeId) (s : Slot) → Has (content D n) s → D.row_of s.cell ≡ Some n
  cells-row n s h = let q = has-map (slot D) (D.rows n) s h in (x.one_row s.cell n).1 (q.0.node, subst (λ c. Has (D.rows n) (owned_cell c q.0.node)) (ap (λ (s : Slot). s.cell) q.2) q.1)

  some-node : {a b : NodeId} → ◌≡◌ {A = Option NodeId} (Some a) (Some b) → a ≡ b
  some-node q = cc

  -- a put into a cell that is there is into a listed row
  put-row-listed : (n k : NodeId) (c : CellId) → D.row_of c ≡ Some k → put_of N n ≡ Some (To.Cell c) → (r : RowMarks) × Has C.rows r × (r.node ≡ k)
  put-row-listed n k c e f = let q = cell-put D C x w o n c f in by q.0 q.1 q.2
    where
      in-row : (r : RowMarks) (d : CellId) (b : Bool) → Has (content D r.node) (record { cell = d; node = n; full = b }) → d ≡ c → r.node ≡ k
      in-row r d b h s = some-node (sym (cells-row r.node (record { cell = d; node = n; full = b }) h) ∙ ap D.row_of s ∙ e)

      by : (q : RowMarks) → Has C.rows q → (Has (spread q.marks) (Touch c n Here) ⊎ Has (spread q.marks) (Make c n true) ⊎ Has (spread q.marks) (Fill c n)) → (r : RowMarks) × Has C.rows r × (r.node ≡ k)
      by q i (inl a) = (q, i, in-row q c true (touched (content D q.node) (spread q.marks) c n Here (o.rows q i) a) refl)
      by q i (inr (inl a)) = let bad : None ≡ Some k = sym (made-new D C x w o plain q c n true i a) ∙ e in cc
      by q i (inr (inr a)) = (q, i, in-row q c false (filled (content D q.node) (spread q.marks) c n (o.rows q i) a) refl)

  cell-silent : (n : NodeId) → ((r : RowMarks) → Has C.rows r → r.node ≡ n → ⊥) → (s : Slot) → Has (content D n) s → (b : Bool) → s.full ≡ b → tells (embed_cell (part n) s.cell s.node b) ≡ false
  cell-silent n none s h true e = ap (λ b. tells (cond b (Touch s.cell s.node (how (put_of N s.node) (To.Cell s.cell))) Counted)) (unless (m s.node) (λ g.
      let at = stands D x s.node n s.cell (subst (λ b. Has (content D n) (record { cell = s.cell; node = s.node; full = b })) e h) in
      let q = row-touched s.node n s.cell g at in none q.0 q.2 q.3))
  cell-silent n none s h false e = ap (λ b. tells (cond b (Fill s.cell s.node) (Gap s.cell))) (unless (is_here (how (put_of N s.node) (To.Cell s.cell))) (λ g.
      let q = put-row-listed s.node n s.cell (cells-row n s h) (is_here-put (put_of N s.node) (To.Cell s.cell) g) in none q.0 q.1 q.2))

  row_silent : (n : NodeId) → ((r : RowMarks) → Has C.rows r → r.node ≡ n → ⊥) → list_any tells (embed_row (part n) (content D n)) ≡ false
  row_silent n none = ap (λ os. list_any tells (embed_made (part n) os ++ embed_cells (part n) (content D n))) (no-row D C x w o (rows_once D C x w o plain) n None none)
      ∙ silent (part n) (content D n) (λ s h. (cell-silent n none s h s.full refl, no-row D C x w o (rows_once D C x w o plain) n (Some s.cell) none))

  -- ## The listings

  abbrev row_key : RowMarks → NodeId
  row_key r = r.node

  abbrev reg_key : RegMark → FieldId
  reg_key r = r.field

  rows_at : (n : NodeId) → item_of node_cmp row_key C.rows n ≡ row_marks n (embed_row (part n) (content D n))
  rows_at n = go (item_of node_cmp row_key C.rows n) refl
    where
      go : (q : Option RowMarks) → item_of node_cmp row_key C.rows n ≡ q → q ≡ row_marks n (embed_row (part n) (content D n))
      go None e = ap (λ b. cond b (Some (record { node = n; marks = merge (embed_row (part n) (content D n)) })) None) (sym (row_silent n (λ r i f.
          not-none (sym e ∙ ap (item_of node_cmp row_key C.rows) (sym f) ∙ has-item_of node_cmp node_cmp_total node_cmp_exact row_key C.rows r w.rising.rows i))))
        where
          not-none : {r : RowMarks} → ◌≡◌ {A = Option RowMarks} None (Some r) → ⊥
          not-none q = cc
      go (Some r) e =
          let i = item_of-has node_cmp node_cmp_total node_cmp_exact row_key C.rows n r e in
          subst (λ k. Some r ≡ row_marks k (embed_row (part k) (content D k))) i.1
          (ap (λ ms. Some (record { node = r.node; marks = ms })) (all-has (λ (r : RowMarks). r.marks ≡ merge (spread r.marks)) C.rows r w.common.merged i.0)
          ∙ ap (λ b. cond b (Some (record { node = r.node; marks = merge (spread r.marks) })) None) (sym (all-has (λ (r : RowMarks). IsTrue (list_any tells (spread r.marks))) C.rows r w.common.tells i.0))
          ∙ ap (row_marks r.node) (sym (row_is r i.0)))

  need_at : (n : NodeId) → item_of node_cmp (λ (n : NodeId). n) C.need n ≡ cond (is_among C.need n) (Some n) None
  need_at n = go (item_of node_cmp (λ (n : NodeId). n) C.need n) refl
    where
      not-none : ◌≡◌ {A = Option NodeId} None (Some n) → ⊥
      not-none q = cc

      go : (q : Option NodeId) → item_of node_cmp (λ (n : NodeId). n) C.need n ≡ q → q ≡ cond (is_among C.need n) (Some n) None
      go None e = ap (λ b. cond b (Some n) None) (sym (unless (is_among C.need n) (λ f. not-none (sym e ∙ has-item_of node_cmp node_cmp_total node_cmp_exact (λ (n : NodeId). n) C.need n w.rising.need ((among_has C.need n).0 f)))))
      go (Some k) e = let i = item_of-has node_cmp node_cmp_total node_cmp_exact (λ (n : NodeId). n) C.need n k e in
          ap (λ n. Some n) i.1 ∙ ap (λ b. cond b (Some n) None) (sym ((among_has C.need n).1 (subst (Has C.need) i.1 i.0)))

  new_at : (n : NodeId) → item_of node_cmp (λ (k : NewNode). k.node) C.new n ≡ new_node N n
  new_at n = go (item_of node_cmp (λ (k : NewNode). k.node) C.new n) refl
    where
      not-none : {k : NewNode} → ◌≡◌ {A = Option NewNode} None (Some k) → ⊥
      not-none q = cc

      go : (q : Option NewNode) → item_of node_cmp (λ (k : NewNode). k.node) C.new n ≡ q → q ≡ new_node N n
      go (Some k) e = let i = item_of-has node_cmp node_cmp_total node_cmp_exact (λ (k : NewNode). k.node) C.new n k e in
          sym (first-distinct (λ (k : NewNode). k.node) C.new (λ (k : NewNode). same_node k.node n) k (new_once D C x w o plain) i.0 (ap (λ y. same_node y n) i.1 ∙ same_node-itself n) (λ y f. same_node-true y.node n f ∙ sym i.1))
      go None e = none (find (λ (k : NewNode). same_node k.node n) C.new) refl
        where
          none : (q : Option NewNode) → find (λ (k : NewNode). same_node k.node n) C.new ≡ q → None ≡ q
          none None f = refl
          none (Some k) f = let r = first-has (λ (k : NewNode). same_node k.node n) C.new k f in
              absurd (not-none (sym e ∙ ap (item_of node_cmp (λ (k : NewNode). k.node) C.new) (sym (same_node-true k.node n r.1)) ∙ has-item_of node_cmp node_cmp_total node_cmp_exact (λ (k : NewNode). k.node) C.new k w.rising.new r.0))

  -- ## Registers

  abbrev fits-marks : RegMark → Type 0
  fits-marks r = (r.held ≡ None → r.how ≡ Stay) × (IsSome r.fill → r.fill ≢ r.held) × (r.how ≡ Here → r.fill ≡ None)

  fits_at : (r : RegMark) → Has C.regs r → fits-marks r
  fits_at r i = all-has (λ (r : RegMark). (r.held ≡ None → r.how ≡ Stay) × (IsSome r.fill → r.fill ≢ r.held) × (r.how ≡ Here → r.fill ≡ None)) C.regs r w.registers_fit i

  same_reg : (r q : RegMark) → Has C.regs r → Has C.regs q → r.field ≡ q.field → r ≡ q
  same_reg r q i j e = distinct-has reg_key C.regs r q (regs_once D C x w o plain) i j e

  clear_at : (r : RegMark) → Has C.regs r → clears N r.field ≡ r.clear
  clear_at r i = go r.clear refl
    where
      go : (b : Bool) → r.clear ≡ b → clears N r.field ≡ b
      go true e = clear-is D C x w o plain r i e
      go false e = unless (clears N r.field) (λ f. let q = is-clear D C x w o plain r.field f in true-false q.2 (ap (λ (r : RegMark). r.clear) (same_reg q.0 r q.1 i q.3) ∙ e))

  reg-how : (r : RegMark) (n : NodeId) → Has C.regs r → r.held ≡ Some n → (h : How) → r.how ≡ h → how (put_of N n) (To.Register r.field) ≡ h
  reg-how r n i e Stay f = stay-is n (To.Register r.field) (subst (λ h. Has L.found (record { node = n; how = h })) f (found-reg D C x w o r n i e))
  reg-how r n i e Here f = put-is_here (put_of N n) (To.Register r.field) (put-is D C x w o n (To.Register r.field) (put-reg D C x w o r (put_to n (To.Register r.field)) i
      (append_right (map (λ n. put_to n (To.Register r.field)) (one_or_none r.fill)) _ (put_to n (To.Register r.field))
      (subst (λ b. Has (cond b (map (λ n. put_to n (To.Register r.field)) (one_or_none r.held)) []) (put_to n (To.Register r.field))) (sym (ap is_here f)) (map-has (λ n. put_to n (To.Register r.field)) (one_or_none r.held) n (is-one r.held n e))))))
  reg-how r n i e Leave f = leave-is n (To.Register r.field) (subst (λ h. Has L.found (record { node = n; how = h })) f (found-reg D C x w o r n i e)) (λ g.
      let q = reg-put D C x w o plain n r.field (put-has N n (To.Register r.field) g) in
      never (subst (λ (r : RegMark). (r.fill ≡ Some n) ⊎ ((r.how ≡ Here) × (r.held ≡ Some n))) (same_reg q.0 r q.1 i q.2) q.3))
    where
      never : (r.fill ≡ Some n) ⊎ ((r.how ≡ Here) × (r.held ≡ Some n)) → ⊥
      never (inl g) = (fits_at r i).1 (rw g refl) (g ∙ sym e)
      never (inr g) = let bad : Leave ≡ Here = sym f ∙ g.0 in cc

  held-how : (r : RegMark) → Has C.regs r → (q : Option NodeId) → r.held ≡ q → how_held r.field (register_part m N r.field) q ≡ r.how
  held-how r i None e = sym ((fits_at r i).0 e)
  held-how r i (Some n) e = reg-how r n i e r.how refl

  same-option : (n : NodeId) → same_option same_node (Some n) (Some n) ≡ true
  same-option n = same_node-itself n

  comes : (r : RegMark) → Has C.regs r → comes_in r.held (put_in N r.field) ≡ r.fill
  comes r i = go (put_in N r.field) refl
    where
      comes-none : (q : Option NodeId) → comes_in q None ≡ None
      comes-none None = refl
      comes-none (Some n) = refl

      apart : (q : Option NodeId) (k : NodeId) → (Some k ≢ q) → comes_in q (Some k) ≡ Some k
      apart None k h = refl
      apart (Some n) k h = ap (λ b. cond b None (Some k)) (unless (same_node n k) (λ e. h (ap (λ n. Some n) (sym (same_node-true n k e)))))

      filled-none : r.fill ≡ None ⊎ ((k : NodeId) × (r.fill ≡ Some k)) → put_in N r.field ≡ None → comes_in r.held None ≡ r.fill
      filled-none (inl e) f = comes-none r.held ∙ sym e
      filled-none (inr (k, e)) f = absurd (let h = has-put_in N (meant_is_intent D C x w o plain) k r.field (put-reg D C x w o r (put_to k (To.Register r.field)) i
          (append_left (map (λ n. put_to n (To.Register r.field)) (one_or_none r.fill)) _ (put_to k (To.Register r.field)) (map-has (λ n. put_to n (To.Register r.field)) (one_or_none r.fill) k (is-one r.fill k e)))) in
          let bad : None ≡ Some k = sym f ∙ h in cc)

      cases : (q : Option NodeId) → r.fill ≡ q → r.fill ≡ None ⊎ ((k : NodeId) × (r.fill ≡ Some k))
      cases None e = inl e
      cases (Some k) e = inr (k, e)

      put : (k : NodeId) → (r.fill ≡ Some k) ⊎ ((r.how ≡ Here) × (r.held ≡ Some k)) → comes_in r.held (Some k) ≡ r.fill
      put k (inl e) = apart r.held k (λ f. (fits_at r i).1 (rw e refl) (e ∙ f)) ∙ sym e
      put k (inr e) = ap (λ q. comes_in q (Some k)) e.1 ∙ ap (λ b. cond b None (Some k)) (same-option k) ∙ sym ((fits_at r i).2 e.0)

      go : (q : Option NodeId) → put_in N r.field ≡ q → comes_in r.held q ≡ r.fill
      go None e = filled-none (cases r.fill refl) e
      go (Some k) e = let p = reg-put D C x w o plain k r.field (put_in-has N r.field k e) in
          put k (subst (λ (r : RegMark). (r.fill ≡ Some k) ⊎ ((r.how ≡ Here) × (r.held ≡ Some k))) (same_reg p.0 r p.1 i p.2) p.3)

  reg-tells : (r : RegMark) → Has C.regs r → (r.clear || holds_mentioned m r.held) ≡ true
  reg-tells r i = go r.clear refl (all-has (λ (r : RegMark). IsTrue r.clear ⊎ IsSome r.held) C.regs r w.registers_tell i)
    where
      held : (q : Option NodeId) → r.held ≡ q → r.clear ≡ false → IsSome r.held → holds_mentioned m q ≡ true
      held None e f h = let bad = rw e at h in let z : ◌≡◌ {A = Bool} false true = bad in cc
      held (Some n) e f h = kept-mentioned r n i e f

      go : (b : Bool) → r.clear ≡ b → IsTrue r.clear ⊎ IsSome r.held → (b || holds_mentioned m r.held) ≡ true
      go true e h = refl
      go false e (inl h) = absurd (true-false h e)
      go false e (inr h) = held r.held refl e h

  reg_is : (r : RegMark) → Has C.regs r → embed_register r.field (register_part m N r.field) r.held ≡ Some r
  reg_is r i =
      ap (λ c. cond (c || holds_mentioned m r.held) (Some (record { field = r.field; held = r.held; how = how_held r.field (register_part m N r.field) r.held; clear = c; fill = comes_in r.held (put_in N r.field) })) None) (clear_at r i)
      ∙ ap (λ b. cond b (Some (record { field = r.field; held = r.held; how = how_held r.field (register_part m N r.field) r.held; clear = r.clear; fill = comes_in r.held (put_in N r.field) })) None) (reg-tells r i)
      ∙ (λ z. Some (record { field = r.field; held = r.held; how = held-how r i r.held refl z; clear = r.clear; fill = comes r i z }))

  regs_at : (f : FieldId) → item_of field_cmp reg_key C.regs f ≡ embed_register f (register_part m N f) (D.held f)
  regs_at f = go (item_of field_cmp reg_key C.regs f) refl
    where
      not-none : {r : RegMark} → ◌≡◌ {A = Option RegMark} None (Some r) → ⊥
      not-none q = cc

      unlisted : item_of field_cmp reg_key C.regs f ≡ None → (r : RegMark) → Has C.regs r → r.field ≡ f → ⊥
      unlisted e r i g = not-none (sym e ∙ ap (item_of field_cmp reg_key C.regs) (sym g) ∙ has-item_of field_cmp field_cmp_total field_cmp_exact reg_key C.regs r w.rising.regs i)

      nobody : item_of field_cmp reg_key C.regs f ≡ None → (q : Option NodeId) → D.held f ≡ q → holds_mentioned m q ≡ false
      nobody e None g = refl
      nobody e (Some n) g = unless (m n) (λ h. let r = register-held n f h ((x.one_held n f).0 g) in unlisted e r.0 r.1 r.2)

      go : (q : Option RegMark) → item_of field_cmp reg_key C.regs f ≡ q → q ≡ embed_register f (register_part m N f) (D.held f)
      go None e = ap (λ b. cond b (Some (record { field = f; held = D.held f; how = how_held f (register_part m N f) (D.held f); clear = clears N f; fill = comes_in (D.held f) (put_in N f) })) None)
          (sym ((λ z. (unless (clears N f) (λ g. let r = is-clear D C x w o plain f g in unlisted e r.0 r.1 r.3) z) || holds_mentioned m (D.held f)) ∙ nobody e (D.held f) refl))
      go (Some r) e = let i = item_of-has field_cmp field_cmp_total field_cmp_exact reg_key C.regs f r e in
          subst (λ f. Some r ≡ embed_register f (register_part m N f) (D.held f)) i.1
          (sym (ap (embed_register r.field (register_part m N r.field)) (o.held r i.0) ∙ reg_is r i.0))

  -- ## Nodes that are nowhere

  loose-how : (l : Loose) → Has C.loose l → (h : How) → l.how ≡ h → how (put_of N l.node) To.Nowhere ≡ h
  loose-how l i Stay e = stay-is l.node To.Nowhere (subst (λ h. Has L.found (record { node = l.node; how = h })) e (found-loose D C x w o l i))
  loose-how l i Here e = put-is_here (put_of N l.node) To.Nowhere (put-is D C x w o l.node To.Nowhere (put-loose D C x w o l (put_to l.node To.Nowhere) i (subst (λ b. Has (cond b (put_to l.node To.Nowhere ∷ []) []) (put_to l.node To.Nowhere)) (sym (ap is_here e)) (inl refl))))
  loose-how l i Leave e = leave-is l.node To.Nowhere found (λ g. never (put-has N l.node To.Nowhere g))
    where
      found : Has L.found (record { node = l.node; how = Leave })
      found = subst (λ h. Has L.found (record { node = l.node; how = h })) e (found-loose D C x w o l i)

      put : Has L.put l.node
      put = all-has (λ (l : Loose). l.how ≡ Leave → Has L.put l.node) C.loose l w.loose_put i e

      not-cell : (c : CellId) → To.Nowhere ≡ To.Cell c → ⊥
      not-cell c q = cc

      not-register : (f : FieldId) → To.Register f ≡ To.Nowhere → ⊥
      not-register f q = cc

      here-only : (h : How) → is_here h ≡ true → h ≡ Leave → ⊥
      here-only Stay e f = cc
      here-only Here e f = cc
      here-only Leave e f = cc

      loose-at : (k : Loose) → Has C.loose k → (b : Bool) → is_here k.how ≡ b → Has (cond b (put_to k.node To.Nowhere ∷ []) []) (put_to l.node To.Nowhere) → ⊥
      loose-at k j false g h = h
      loose-at k j true g (inl q) =
          let s = distinct-has (λ (f : Found). f.node) L.found (record { node = k.node; how = k.how }) (record { node = l.node; how = Leave }) w.common.found_once (found-loose D C x w o k j) found (ap (λ (p : Put). p.node) q) in
          here-only k.how g (ap (λ (f : Found). f.how) s)
      loose-at k j true g (inr h) = h

      set : (r : RegMark) (b : Bool) → Has (cond b (map (λ n. put_to n (To.Register r.field)) (one_or_none r.held)) []) (put_to l.node To.Nowhere) → ⊥
      set r false k = k
      set r true k = let q = has-map (λ n. put_to n (To.Register r.field)) (one_or_none r.held) (put_to l.node To.Nowhere) k in not-register r.field (ap (λ (p : Put). p.to) q.2)

      never : Has N.put (put_to l.node To.Nowhere) → ⊥
      never h = elim (put-cases D C x w o (put_to l.node To.Nowhere) h) [
        | inl (r, j, k) ↦ (let q = row_put-has (spread r.marks) (put_to l.node To.Nowhere) k in not-cell q.0 q.1)
        | inr a ↦ elim a [
          | inl (r, j, k) ↦ elim (has-append (map (λ n. put_to n (To.Register r.field)) (one_or_none r.fill)) (cond (is_here r.how) (map (λ n. put_to n (To.Register r.field)) (one_or_none r.held)) []) (put_to l.node To.Nowhere) k) [
            | inl g ↦ (let q = has-map (λ n. put_to n (To.Register r.field)) (one_or_none r.fill) (put_to l.node To.Nowhere) g in not-register r.field (ap (λ (p : Put). p.to) q.2))
            | inr g ↦ set r (is_here r.how) g
          ]
          | inr b ↦ elim b [
            | inl (k, j, g) ↦ loose-at k j (is_here k.how) refl g
            | inr (n, j, q) ↦ (let f = filtered (λ n. not (is_among L.put n)) (leaving_nodes L.found) n j in not-true (is_among L.put n) f.1 ((among_has L.put n).1 (subst (Has L.put) (ap (λ (p : Put). p.node) q) put)))
          ]
        ]
      ]

  loose_at : (n : NodeId) → item_of node_cmp (λ (l : Loose). l.node) C.loose n ≡ embed_loose m D N n
  loose_at n = go (item_of node_cmp (λ (l : Loose). l.node) C.loose n) refl
    where
      not-none : {l : Loose} → ◌≡◌ {A = Option Loose} None (Some l) → ⊥
      not-none q = cc

      nowhere-is : (s : Spot) → is_nowhere s ≡ true → s ≡ Spot.Nowhere
      nowhere-is Spot.Nowhere e = refl
      nowhere-is (Spot.Row a c) e = cc
      nowhere-is (Spot.Register f) e = cc

      is-nowhere : (s : Spot) → s ≡ Spot.Nowhere → is_nowhere s ≡ true
      is-nowhere s e = ap is_nowhere e

      at : (h : How) → PlacedAs D C n h → D.place n ≡ Spot.Nowhere → (l : Loose) × Has C.loose l × (l.node ≡ n)
      at h (as_row q d i j f) p = absurd (row-not-nowhere q.node d (sym f ∙ p))
      at h (as_held q i f g k) p = absurd (register-not-nowhere q.field (sym k ∙ p))
      at h (as_loose l i f g k t) p = (l, i, f)

      listed : is_loose m D n ≡ true → (l : Loose) × Has C.loose l × (l.node ≡ n)
      listed e = let a = and-true (m n && is_nowhere (D.place n)) (not (same_node n root)) e in let b = and-true (m n) (is_nowhere (D.place n)) a.0 in
          elim (placed n b.0) [
            | inl q ↦ absurd (not-true (same_node n root) a.1 (ap (λ k. same_node k root) q ∙ same_node-itself root))
            | inr q ↦ at q.0 q.1 (nowhere-is (D.place n) b.1)
          ]

      go : (q : Option Loose) → item_of node_cmp (λ (l : Loose). l.node) C.loose n ≡ q → q ≡ embed_loose m D N n
      go None e = ap (λ b. cond b (Some (record { node = n; how = how (put_of N n) To.Nowhere })) None) (sym (unless (is_loose m D n) (λ f.
          let l = listed f in not-none (sym e ∙ ap (item_of node_cmp (λ (l : Loose). l.node) C.loose) (sym l.2) ∙ has-item_of node_cmp node_cmp_total node_cmp_exact (λ (l : Loose). l.node) C.loose l.0 w.rising.loose l.1))))
      go (Some l) e = let i = item_of-has node_cmp node_cmp_total node_cmp_exact (λ (l : Loose). l.node) C.loose n l e in
          subst (λ n. Some l ≡ embed_loose m D N n) i.1
          (sym (ap (λ b. cond b (Some (record { node = l.node; how = how (put_of N l.node) To.Nowhere })) None)
          (and-both (m l.node && is_nowhere (D.place l.node)) (not (same_node l.node root)) (and-both (m l.node) (is_nowhere (D.place l.node)) (loose-mentioned l i.0) (is-nowhere (D.place l.node) (o.loose l i.0).0))
          (not-false (same_node l.node root) (λ f. w.common.root_stays.0 (subst (IsFound L) (same_node-true l.node root f) (is-found D C x w o l.node l.how (found-loose D C x w o l i.0))))))
          ∙ (λ z. Some (record { node = l.node; how = loose-how l i.0 l.how refl z }))))

  -- ## Lengths

  no-groups : (n : NodeId) → ((r : RowMarks) → Has C.rows r → r.node ≡ n → ⊥) → (os : List Owned) → with_groups N n os ≡ os
  no-groups n none [] = refl
  no-groups n none (p ∷ os) = λ z. p ∷ (ap (λ l. l ++ with_groups N n os) (no-row D C x w o (rows_once D C x w o plain) n (Some p.cell) none) ∙ no-groups n none os) z

  pub short_after : HasShortRows (full D N)
  short_after n = go (item_of node_cmp row_key C.rows n) refl
    where
      not-none : {r : RowMarks} → ◌≡◌ {A = Option RowMarks} None (Some r) → ⊥
      not-none q = cc

      go : (q : Option RowMarks) → item_of node_cmp row_key C.rows n ≡ q → length ((full D N).rows n) < 2 ^ 32
      go None e =
          let none = λ (r : RowMarks) (i : Has C.rows r) (f : r.node ≡ n). not-none (sym e ∙ ap (item_of node_cmp row_key C.rows) (sym f) ∙ has-item_of node_cmp node_cmp_total node_cmp_exact row_key C.rows r w.rising.rows i) in
          subst (λ l. length l < 2 ^ 32) (sym (ap (λ l. l ++ with_groups N n (D.rows n)) (no-row D C x w o (rows_once D C x w o plain) n None none) ∙ no-groups n none (D.rows n))) (x.short n)
      go (Some r) e =
          let i = item_of-has node_cmp node_cmp_total node_cmp_exact row_key C.rows n r e in
          let s = (all-has (λ (r : RowMarks). (length (cells_before (spread r.marks)) < 2 ^ 32) × (length (cells_after (spread r.marks)) < 2 ^ 32)) C.rows r w.common.short i.0).1 in
          subst (λ k. k < 2 ^ 32) (all_after (spread r.marks) ∙ ap length (sym (row_is r i.0)) ∙ row-length D N m r.node ∙ ap (λ n. length ((full D N).rows n)) i.1) s

  pub stands_over : IsEmbedding D N C
  stands_over = record {
    mentioned = m;
    which = mentions-exact D C x w o;
    rev = refl;
    under = refl;
    base = o.base;
    schema = refl;
    need = record { rising = w.rising.need; at_each = need_at };
    new = record { rising = w.rising.new; at_each = new_at };
    rows = record { rising = w.rising.rows; at_each = rows_at };
    regs = record { rising = w.rising.regs; at_each = regs_at };
    loose = record { rising = w.rising.loose; at_each = loose_at };
  }
