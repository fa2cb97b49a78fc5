-- The step from a document to one that extends it obeys the rules of normal form of steps.
use Rattle.std.proofs.Common.{◌≡◌, ◌≢◌, ◌++◌, ◌<◌, ◌^◌, ◌||◌, ℕ, zero, suc, Bool, true, false, not, List, [], ◌∷◌, length, map, Option, Some, None, IsSome, IsTrue, IfSome, cond, refl, sym, ap, ◌∙◌, subst, inl, inr, ◌⊎◌, is_some, option_and_then, option_map, slice_get}
use Rattle.std.specs.List.{flat_map, list_any}
use Rattle.std.specs.Option.{option_or}
use Rattle.std.proofs.lemmas.Slice.Zip.{AllZip-long}
use Rattle.st_ids.specs.Listing.{AreDistinct, Has, item_of}
use Rattle.st_ids.specs.Order.{field_cmp, node_cmp, same_node}
use Rattle.st_ids.proofs.Orders.{field_cmp_exact, field_cmp_total, node_cmp_exact, node_cmp_total}
use Rattle.st_ids.specs.declared.names.CellId.{CellId}
use Rattle.st_ids.specs.declared.names.FieldId.{FieldId}
use Rattle.st_ids.specs.declared.names.NodeId.{NodeId}
use Rattle.st_ids.specs.declared.names.Rev.{Rev}
use Rattle.st_marks.specs.declared.changes.NewNode.{NewNode}
use Rattle.st_marks.specs.declared.intents.Owned.{Owned}
use Rattle.st_marks.specs.declared.marks.How.{How}
use Rattle.st_marks.specs.declared.marks.How.TheVariants.{Stay, Here, Leave}
use Rattle.st_marks.specs.declared.marks.Loose.{Loose}
use Rattle.st_marks.specs.declared.marks.RegStep.{RegStep}
use Rattle.st_marks.specs.declared.marks.RowMarks.{RowMarks}
use Rattle.st_marks.specs.declared.places.Slot.{Slot}
use Rattle.st_marks.specs.declared.places.Spot.{Spot}
use Rattle.st_marks.specs.declared.schemas.SchemaEntry.{SchemaEntry}
use Rattle.st_marks.specs.declared.schemas.SchemaStep.{SchemaStep}
use Rattle.st_marks.specs.declared.steps.Step.{Step}
use Rattle.st_marks.specs.Agree.{LeadsUp}
use Rattle.st_marks.specs.Agree.LeadsUp.{one_up, further_up}
use Rattle.st_marks.specs.Document.{Document, IsSoundInForm, NodeType, above, climb, content, first_of, last_of, node_of, revs, slot, Reaches}
use Rattle.st_ids.specs.Root.{opening, root}
use Rattle.st_marks.specs.Embedding.{is_among, tells}
use Rattle.st_marks.specs.Extends.{GainsItems, IsExtendedBy, no_more, item_gained, item_kept}
use Rattle.st_marks.specs.Intent.{same_option}
use Rattle.st_marks.specs.Register.{holds_mentioned}
use Rattle.st_marks.specs.Row.{CellMark, Counted, Gap, Touch, Make, Fill, SameCell, merge, spread, step_cell, step_row}
use Rattle.st_marks.specs.Listings.{Places, CellView, Listing, cells_after, cells_before, cells_in, nodes_new, one_or_none, placed_in_register, placed_in_row, placed_nowhere, cell_view, listing_after_step, listing_before_step}
use Rattle.st_marks.specs.Step.{IsChanged, IsSchemaStep, IsStep, gained_node}
use Rattle.st_marks.proofs.Members.{append_left, append_right, distinct-append, distinct-between, distinct-right, has-all, has-any, has-append, has-flat_map, has-map, map-has}
use Rattle.st_marks.proofs.Climb.{placed_known, stands}
use Rattle.st_marks.proofs.Later.{node_later}
use Rattle.st_normal.specs.declared.entries.Found.{Found}
use Rattle.st_normal.specs.Rules.{AreEntriesBehind, CellsAreOnce, FieldsAreFound, FilledCellsAreOld, HasListedField, IsFound, IsFoundAs, KeysAreThere, Entries, LooseNodesArePut, MarksAreMerged, NewNodesAreNotFound, NewRegistersAreEmptyBefore, NewRowsAreMade, NoRingOverStep, NodesAreFoundOnce, NodesArePutOnce, NothingIsSetHere, ObeysStepRules, PutNodesLeave, RegistersTellOver, RootStays, RowsAreShort, RowsTell, SchemaStepFits, StayingNodesLeadOn, StepIsRising, fields_of, fill_owners, found_in, found_loose, found_over, in_rows, incoming_nodes, entries_of_step, put_over, staying_nodes}
use Rattle.st_marks.specs.How.{is_stay}
use Rattle.st_normal.proofs.AboveItself.{never_ends, one_step, step_before}
use Rattle.st_ids.proofs.Listings.{has-item_of, item_of-has}
use Rattle.st_puts.specs.Seen.{AreAsSeen, IsAsSeen}
use Rattle.st_puts.proofs.Basics.{register-not-nowhere, row-not-nowhere}
use Rattle.st_puts.proofs.FoundOnce.{held-alone, loose-once, touched-once}
use Rattle.st_normal_laws.proofs.EasyNames.{fill-owner}
use Rattle.st_normal_laws.proofs.EasyRules.{merged-told}
use Rattle.st_puts.proofs.FoundPlaces.{found_held-is, found_in-has}
use Rattle.st_puts.proofs.Groups.{distinct-flat}
use Rattle.st_puts.proofs.MeaningFits.{rising_distinct}
use Rattle.st_normal_laws.proofs.SchemaRules.{last-entry}
use Rattle.st_puts.proofs.StepPlaces.{cells-once, comes-put, empty-not, fill-place, found-at, found-named, has-reg, known as named-known, leaves, loose-place, make-place, moved, named-up, one-or-other, put-at, put-place, reg-is, root-or-found, row-listed, row-look, row-register, same-register, same-row, slot-known, stands-once, told-listed, touch-place, touched-as}
use Rattle.st_puts.proofs.StepRows.{cell_with, fill-step, in-row-after, incoming-mark, incoming-once, make-step, step-cells-once}
use Rattle.st_puts.proofs.RowsAsSeen.{step_sees_after, step_sees_before}
use Rattle.st_rows.proofs.Documents.{can_hold, in_document}
use Rattle.st_lemmas.proofs.Bools.{or-left, or-right}

-- ## In one row

-- what is seen with its names is there
seen-there : (c : List Slot) (xs : List CellView) (j : ℕ) (a : CellId) (n : NodeId) (b : Bool) → AreAsSeen c xs → slice_get xs j ≡ Some (cell_view a n b) → Has c (cell_with a n b)
seen-there [] [] j a n b p e = cc
seen-there [] (y ∷ xs) j a n b p e = absurd p
seen-there (s ∷ c) [] j a n b p e = cc
seen-there (s ∷ c) (y ∷ xs) zero a n b p e = inl (go y p.0 (first e))
  where
    first : ◌≡◌ {A = Option CellView} (Some y) (Some (cell_view a n b)) → y ≡ cell_view a n b
    first e = cc

    go : (y : CellView) → IsAsSeen s y → y ≡ cell_view a n b → s ≡ cell_with a n b
    go y w q = let v : IsAsSeen s (cell_view a n b) = subst (IsAsSeen s) q w in λ i. record { cell = sym v.1 i; node = sym v.2 i; full = sym v.0 i }
seen-there (s ∷ c) (y ∷ xs) (suc j) a n b p e = inr (seen-there c xs j a n b p.1 e)

-- a step that tells nothing of a row changes nothing of it
quiet-row : (m : NodeId → Bool) {c d : List Slot} (g : GainsItems SameCell c d) → list_any tells (step_row m g) ≡ false → c ≡ d
quiet-row m no_more e = refl
quiet-row m (item_gained g) e = cc
quiet-row m (item_kept {x = s} {y = t} {xs = c} {ys = d} same g) e = go s.full t.full refl refl e (λ f. quiet-row m g f)
  where
    joined : (b : Bool) → s.full ≡ b → t.full ≡ b → c ≡ d → ◌≡◌ {A = List Slot} (s ∷ c) (t ∷ d)
    joined b f h r = λ i. record { cell = same.0 i; node = same.1 i; full = (f ∙ sym h) i } ∷ r i

    go : (a b : Bool) → s.full ≡ a → t.full ≡ b → (tells (step_cell m s.cell s.node a b) || list_any tells (step_row m g)) ≡ false → (list_any tells (step_row m g) ≡ false → c ≡ d) → ◌≡◌ {A = List Slot} (s ∷ c) (t ∷ d)
    go true true f h q rest = stays (m s.node) q
      where
        stays : (z : Bool) → (tells (cond z (Touch s.cell s.node Stay) Counted) || list_any tells (step_row m g)) ≡ false → ◌≡◌ {A = List Slot} (s ∷ c) (t ∷ d)
        stays true q = cc
        stays false q = joined true f h (rest q)
    go true false f h q rest = cc
    go false true f h q rest = cc
    go false false f h q rest = joined false f h (rest q)

-- a mark that tells is of a cell that is made, filled or touched
data WhyTold (ms : List CellMark) : Type 0 where
  by_touch : (a : CellId) (n : NodeId) (h : How) → Has ms (Touch a n h) → WhyTold ms
  by_make : (a : CellId) (n : NodeId) (b : Bool) → Has ms (Make a n b) → WhyTold ms
  by_fill : (a : CellId) (n : NodeId) → Has ms (Fill a n) → WhyTold ms

behind : (y : CellMark) (ms : List CellMark) → WhyTold ms → WhyTold (y ∷ ms)
behind y ms (by_touch a n h i) = by_touch a n h (inr i)
behind y ms (by_make a n b i) = by_make a n b (inr i)
behind y ms (by_fill a n i) = by_fill a n (inr i)

why-told : (ms : List CellMark) → list_any tells ms ≡ true → WhyTold ms
why-told [] e = cc
why-told (Counted ∷ ms) e = behind Counted ms (why-told ms e)
why-told (Gap c ∷ ms) e = behind (Gap c) ms (why-told ms e)
why-told (Touch c n h ∷ ms) e = by_touch c n h (inl refl)
why-told (Make c n b ∷ ms) e = by_make c n b (inl refl)
why-told (Fill c n ∷ ms) e = by_fill c n (inl refl)

unknown : {A : Type 0} {o : Option A} → o ≡ None → IsSome o → ⊥
unknown {A} {o} e k = let bad : ◌≡◌ {A = Bool} false true = ap is_some (sym e) ∙ k in cc

known-or-not : {A : Type 0} (o : Option A) → IsSome o ⊎ (o ≡ None)
known-or-not None = inr refl
known-or-not (Some y) = inl refl

module _ (D E : Document) (S : Step) (x : IsExtendedBy D E) (s : IsStep D E S) where
  abbrev L : Entries
  L = entries_of_step S

  abbrev m : NodeId → Bool
  m = s.mentioned

  -- ## What is new

  new-is : (n : NodeId) → Has L.new n → D.nodes n ≡ None
  new-is n h =
      let k = has-map (λ (k : NewNode). k.node) S.new n h in
      subst (λ n. D.nodes n ≡ None) k.2 (go k.0.node k.0 (D.nodes k.0.node) (E.nodes k.0.node) (sym (s.new.at_each k.0.node) ∙ has-item_of node_cmp node_cmp_total node_cmp_exact (λ (k : NewNode). k.node) S.new k.0 s.new.rising k.1))
    where
      go : (n : NodeId) (k : NewNode) (a b : Option NodeType) → gained_node n a b ≡ Some k → a ≡ None
      go n k None b e = refl
      go n k (Some t) b e = cc

  has-new : (n : NodeId) → D.nodes n ≡ None → IsSome (E.nodes n) → Has L.new n
  has-new n e k = go (E.nodes n) refl k
    where
      go : (o : Option NodeType) → E.nodes n ≡ o → IsSome o → Has L.new n
      go None f k = cc
      go (Some t) f k =
          let y : NewNode = record { node = n; ty = t.ty; leaf = t.leaf } in
          let i = item_of-has node_cmp node_cmp_total node_cmp_exact (λ (k : NewNode). k.node) S.new n y (s.new.at_each n ∙ (λ i. gained_node n (e i) (f i))) in
          map-has (λ (k : NewNode). k.node) S.new y i.0

  new-or-known : (n : NodeId) → IsSome (E.nodes n) → IsSome (D.nodes n) ⊎ Has L.new n
  new-or-known n k = elim (known-or-not (D.nodes n)) [ inl h ↦ inl h | inr e ↦ inr (has-new n e k) ]

  -- ## Rows

  rows-once : AreDistinct (λ (r : RowMarks). r.node) S.rows
  rows-once = rising_distinct node_cmp node_cmp_total (λ (r : RowMarks). r.node) S.rows s.rows.rising

  regs-once : AreDistinct (λ (r : RegStep). r.field) S.regs
  regs-once = rising_distinct field_cmp field_cmp_total (λ (r : RegStep). r.field) S.regs s.regs.rising

  merged : MarksAreMerged L
  merged = has-all (λ (r : RowMarks). r.marks ≡ merge (spread r.marks)) S.rows (λ r i.
      merged-told r r.node (step_row m (s.grows r.node)) (sym (s.rows.at_each r.node) ∙ has-item_of node_cmp node_cmp_total node_cmp_exact (λ (r : RowMarks). r.node) S.rows r s.rows.rising i)
      ∙ ap merge (sym (row-look D E S x s r i).0))

  told : RowsTell L
  told = has-all (λ (r : RowMarks). IsTrue (list_any tells (spread r.marks))) S.rows (λ r i. let w = row-look D E S x s r i in ap (list_any tells) w.0 ∙ w.1)

  sees-before : (r : RowMarks) → Has S.rows r → AreAsSeen (content D r.node) (cells_before (spread r.marks))
  sees-before r i = subst (λ ms. AreAsSeen (content D r.node) (cells_before ms)) (sym (row-look D E S x s r i).0) (step_sees_before m (s.grows r.node))

  sees-after : (r : RowMarks) → Has S.rows r → AreAsSeen (content E r.node) (cells_after (spread r.marks))
  sees-after r i = subst (λ ms. AreAsSeen (content E r.node) (cells_after ms)) (sym (row-look D E S x s r i).0) (step_sees_after m (s.grows r.node))

  short : RowsAreShort L
  short = has-all (λ (r : RowMarks). (length (cells_before (spread r.marks)) < 2 ^ 32) × (length (cells_after (spread r.marks)) < 2 ^ 32)) S.rows (λ r i. (
    subst (λ k. k < 2 ^ 32) (sym (AllZip-long IsAsSeen (content D r.node) (cells_before (spread r.marks)) (sees-before r i))) (can_hold D x.before r.node).short,
    subst (λ k. k < 2 ^ 32) (sym (AllZip-long IsAsSeen (content E r.node) (cells_after (spread r.marks)) (sees-after r i))) (can_hold E x.after r.node).short,
  ))

  cell-row : (r : RowMarks) (a : CellId) → Has S.rows r → Has (cells_in (spread r.marks)) a → E.row_of a ≡ Some r.node
  cell-row r a i h = in_document E x.after r.node a (in-row-after m (s.grows r.node) a (subst (λ ms. Has (cells_in ms) a) (row-look D E S x s r i).0 h))

  some-node : {a b : NodeId} → ◌≡◌ {A = Option NodeId} (Some a) (Some b) → a ≡ b
  some-node e = cc

  cells : CellsAreOnce L
  cells = distinct-flat (λ (c : CellId). c) (λ (r : RowMarks). cells_in (spread r.marks)) (λ (r : RowMarks). r.node) S.rows rows-once
      (λ r i. subst (λ ms. AreDistinct (λ (c : CellId). c) (cells_in ms)) (sym (row-look D E S x s r i).0) (step-cells-once m (s.grows r.node) (cells-once D E S x s r.node)))
      (λ r q a b i j h k e. some-node (sym (cell-row q b j k) ∙ ap E.row_of e ∙ cell-row r a i h))

  new_rows : NewRowsAreMade L
  new_rows = has-all (λ (r : RowMarks). Has L.new r.node → cells_before (spread r.marks) ≡ []) S.rows (λ r i h. none (content D r.node) (cells_before (spread r.marks)) (sees-before r i) (empty r.node (D.rows r.node) refl (new-is r.node h)))
    where
      empty : (n : NodeId) (os : List Owned) → D.rows n ≡ os → D.nodes n ≡ None → content D n ≡ []
      empty n [] f e = ap (map (slot D)) f
      empty n (o ∷ os) f e = absurd (unknown e (x.before.cells_known n o (subst (λ l. Has l o) (sym f) (inl refl))).0)

      none : (c : List Slot) (xs : List CellView) → AreAsSeen c xs → c ≡ [] → xs ≡ []
      none [] [] p e = refl
      none [] (y ∷ xs) p e = absurd p
      none (t ∷ c) xs p e = cc

  -- ## Nodes that are found

  row-place : (r : RowMarks) (g : Found) → Has S.rows r → Has (found_in (spread r.marks)) g → (a : CellId) × (D.place g.node ≡ Spot.Row r.node a)
  row-place r g i h = let t = found_in-has (spread r.marks) g h in (t.0, (touch-place D E S x s r t.0 g.node g.how i t.1).0)

  reg-place : (r : RegStep) (g : Found) → Has S.regs r → Has (found_over r) g → D.place g.node ≡ Spot.Register r.field
  reg-place r g i h = (x.before.one_held g.node r.field).0 (sym (reg-is D E S x s r i).0 ∙ (found_held-is r.before _ g h).0)

  nowhere-place : (g : Found) → Has (found_loose S.loose) g → D.place g.node ≡ Spot.Nowhere
  nowhere-place g h = let l = has-map (λ (l : Loose). let g : Found = record { node = l.node; how = l.how } in g) S.loose g h in ap D.place (sym (ap (λ (g : Found). g.node) l.2)) ∙ (loose-place D E S x s l.0 l.1).0

  found_once : NodesAreFoundOnce L
  found_once =
      distinct-append (λ (g : Found). g.node) (in_rows found_in S.rows) (flat_map found_over S.regs ++ found_loose S.loose)
      (distinct-flat (λ (g : Found). g.node) (λ (r : RowMarks). found_in (spread r.marks)) (λ (r : RowMarks). r.node) S.rows rows-once
      (λ r i. touched-once (content D r.node) (spread r.marks) (sees-before r i) (can_hold D x.before r.node).once (λ d e k h j. stands-once D x.before r.node d e k h j))
      (λ r q a b i j h k e. let u = row-place r a i h in let v = row-place q b j k in (same-row (sym v.1 ∙ ap D.place e ∙ u.1)).0))
      (distinct-append (λ (g : Found). g.node) (flat_map found_over S.regs) (found_loose S.loose)
      (distinct-flat (λ (g : Found). g.node) found_over (λ (r : RegStep). r.field) S.regs regs-once
      (λ r i. held-alone r.before _)
      (λ r q a b i j h k e. same-register (sym (reg-place q b j k) ∙ ap D.place e ∙ reg-place r a i h)))
      (loose-once S.loose (rising_distinct node_cmp node_cmp_total (λ (l : Loose). l.node) S.loose s.loose.rising))
      (λ a b h i e. let r = has-flat_map found_over S.regs a h in register-not-nowhere r.0.field (sym (reg-place r.0 a r.1 r.2) ∙ ap D.place (sym e) ∙ nowhere-place b i)))
      (λ a b h i e. let r = has-flat_map (λ (r : RowMarks). found_in (spread r.marks)) S.rows a h in let u = row-place r.0 a r.1 r.2 in
      elim (has-append (flat_map found_over S.regs) (found_loose S.loose) b i) [
        | inl j ↦ (let q = has-flat_map found_over S.regs b j in row-register (sym u.1 ∙ ap D.place (sym e) ∙ reg-place q.0 b q.1 q.2))
        | inr j ↦ row-not-nowhere r.0.node u.0 (sym u.1 ∙ ap D.place (sym e) ∙ nowhere-place b j)
      ])

  known : (n : NodeId) → IsFound L n → IsSome (D.nodes n)
  known n i = named-known D E S x s n (found-named D E S x s n i).0

  new_not_found : NewNodesAreNotFound L
  new_not_found = has-all (λ n. (n ≢ root) × (IsFound L n → ⊥)) L.new (λ n h. let e = new-is n h in (
    λ q. unknown e (subst (λ k. IsSome (D.nodes k)) (sym q) x.before.root_known),
    λ i. unknown e (known n i),
  ))

  -- ## Nodes that are put

  put-row : (r : RowMarks) (n : NodeId) → Has S.rows r → Has (incoming_nodes (spread r.marks)) n → (a : CellId) × (E.place n ≡ Spot.Row r.node a)
  put-row r n i h =
      let w = incoming-mark (spread r.marks) n h in (
        w.0,
        elim w.1 [
          | inl j ↦ (make-place D E S x s r w.0 n i j).0
          | inr j ↦ (fill-place D E S x s r w.0 n i j).0
        ],
      )

  put-alone : (r : RegStep) → AreDistinct (λ (n : NodeId). n) (put_over r)
  put-alone r = go (same_option same_node r.before r.after) r.after
    where
      go : (b : Bool) (o : Option NodeId) → AreDistinct (λ (n : NodeId). n) (cond b [] (one_or_none o))
      go true o = tt
      go false None = tt
      go false (Some n) = (tt, tt)

  put_once : NodesArePutOnce L
  put_once =
      distinct-append (λ (n : NodeId). n) (in_rows incoming_nodes S.rows) (flat_map put_over S.regs)
      (distinct-flat (λ (n : NodeId). n) (λ (r : RowMarks). incoming_nodes (spread r.marks)) (λ (r : RowMarks). r.node) S.rows rows-once
      (λ r i. subst (λ ms. AreDistinct (λ (n : NodeId). n) (incoming_nodes ms)) (sym (row-look D E S x s r i).0) (incoming-once m (s.grows r.node) (cells-once D E S x s r.node) (λ a b k h j. stands-once E x.after r.node a b k h j)))
      (λ r q a b i j h k e. let u = put-row r a i h in let v = put-row q b j k in (same-row (sym v.1 ∙ ap E.place e ∙ u.1)).0))
      (distinct-flat (λ (n : NodeId). n) put_over (λ (r : RegStep). r.field) S.regs regs-once
      (λ r i. put-alone r)
      (λ r q a b i j h k e. same-register (sym (put-place D E S x s q b j k).0 ∙ ap E.place e ∙ (put-place D E S x s r a i h).0)))
      (λ a b h i e.
      let r = has-flat_map (λ (r : RowMarks). incoming_nodes (spread r.marks)) S.rows a h in
      let u = put-row r.0 a r.1 r.2 in
      let q = has-flat_map put_over S.regs b i in
      row-register (sym u.1 ∙ ap E.place (sym e) ∙ (put-place D E S x s q.0 b q.1 q.2).0))

  put-known : (n : NodeId) (p : Spot) → E.place n ≡ p → p ≢ Spot.Nowhere → IsSome (E.nodes n)
  put-known n p e h = placed_known E x.after n (λ q. h (sym e ∙ q))

  put-somewhere : (n : NodeId) → Has L.put n → (E.place n ≢ Spot.Nowhere) × (D.place n ≢ E.place n)
  put-somewhere n h =
      let w = put-at D E S x s n h in (
        elim w.2 [
          | inl r ↦ λ q. row-not-nowhere r.0.node r.2 (sym r.4 ∙ sym w.1.0 ∙ q)
          | inr r ↦ λ q. register-not-nowhere r.0.field (sym r.2 ∙ sym w.1.0 ∙ q)
        ],
        λ q. w.1.1 (q ∙ w.1.0),
      )

  put_leave : PutNodesLeave L
  put_leave = has-all (λ n. Has L.new n ⊎ IsFoundAs L n Leave) L.put (λ n h.
      let w = put-somewhere n h in
      elim (new-or-known n (placed_known E x.after n w.0)) [
        | inl k ↦ inr (leaves D E S x s n k w.1)
        | inr i ↦ inl i
      ])

  root_stays : RootStays L
  root_stays = (λ i. (found-named D E S x s root i).1 refl, λ h. (put-somewhere root h).0 x.after.root_nowhere)

  filled_old : FilledCellsAreOld L
  filled_old = has-all (λ n. Has L.new n → ⊥) (in_rows fill_owners S.rows) (λ n h i.
      let r = has-flat_map (λ (r : RowMarks). fill_owners (spread r.marks)) S.rows n h in
      let w = fill-owner (spread r.0.marks) n r.2 in
      let t = fill-step m (s.grows r.0.node) (cells-once D E S x s r.0.node) w.0 n (subst (λ ms. Has ms (Fill w.0 n)) (row-look D E S x s r.0 r.1).0 w.1) in
      unknown (new-is n i) (slot-known D x.before r.0.node (cell_with w.0 n false) t.0).1)

  -- ## Fields

  abbrev IsField : NodeId → Type 0
  IsField n = (n ≡ root) ⊎ Has L.new n ⊎ IsFound L n

  by-name : (n : NodeId) → m n ≡ true → IsField n
  by-name n e = elim (root-or-found D E S x s n e) [ inl q ↦ inl q | inr i ↦ inr (inr i) ]

  -- a node whose row or register differs is new, or named
  row-differs : (n : NodeId) → IsSome (E.nodes n) → content D n ≢ content E n → IsField n
  row-differs n k h = elim (new-or-known n k) [ inl j ↦ by-name n ((s.which n).1 (n, (j, inr (inl h)), zero, refl)) | inr i ↦ inr (inl i) ]

  register-differs : (f : FieldId) → IsSome (E.nodes f.node) → D.held f ≢ E.held f → IsField f.node
  register-differs f k h = elim (new-or-known f.node k) [ inl j ↦ by-name f.node ((s.which f.node).1 (f.node, (j, inr (inr (f, refl, h))), zero, refl)) | inr i ↦ inr (inl i) ]

  row-field : (n : NodeId) → WhyTold (step_row m (s.grows n)) → IsField n
  row-field n (by_touch a k h i) = elim (touch-cases a k h i) [ inl e ↦ by-name n (up k a e) | inr w ↦ by-name n (up k a w) ]
    where
      touch-cases : (a : CellId) (k : NodeId) (h : How) → Has (step_row m (s.grows n)) (Touch a k h) → ((D.place k ≡ Spot.Row n a) × (m k ≡ true)) ⊎ ((D.place k ≡ Spot.Row n a) × (m k ≡ true))
      touch-cases a k h i =
          let r = told-listed D E S x s n (Touch a k h) i refl in
          let w = touch-place D E S x s r.0 a k h r.1 r.3 in
          let p = w.0 ∙ ap (λ n. Spot.Row n a) r.2 in
          elim w.1 [
            | inl v ↦ inl (p, v.2)
            | inr v ↦ inr (p, moved D E S x s k (placed_known D x.before k (λ q. row-not-nowhere n a (sym p ∙ q))) v.1)
          ]

      up : (k : NodeId) (a : CellId) → (D.place k ≡ Spot.Row n a) × (m k ≡ true) → m n ≡ true
      up k a w = named-up D E S x s k n w.1 (ap node_of w.0)
  row-field n (by_make a k b i) =
      let t = make-step m (s.grows n) (cells-once D E S x s n) a k b i in
      row-differs n (slot-known E x.after n (cell_with a k b) t.0).0 (λ e. t.1 (map-has (λ (c : Slot). c.cell) (content D n) (cell_with a k b) (subst (λ c. Has c (cell_with a k b)) (sym e) t.0)))
  row-field n (by_fill a k i) =
      let t = fill-step m (s.grows n) (cells-once D E S x s n) a k i in
      row-differs n (slot-known E x.after n (cell_with a k true) t.1).0 (λ e. empty-not D k n a t.0 (stands D x.before k n a (subst (λ c. Has c (cell_with a k true)) (sym e) t.1)))

  -- a register that is listed has an occupant, before or after, and is known there
  listed-holds : (r : RegStep) → Has S.regs r → ((n : NodeId) × (D.held r.field ≡ Some n)) ⊎ ((n : NodeId) × (E.held r.field ≡ Some n))
  listed-holds r i = go (D.held r.field) refl (E.held r.field) refl (reg-is D E S x s r i).2
    where
      go : (a : Option NodeId) → D.held r.field ≡ a → (b : Option NodeId) → E.held r.field ≡ b → (not (same_option same_node (D.held r.field) (E.held r.field)) || holds_mentioned m (D.held r.field)) ≡ true
          → ((n : NodeId) × (D.held r.field ≡ Some n)) ⊎ ((n : NodeId) × (E.held r.field ≡ Some n))
      go (Some n) e b f t = inl (n, e)
      go None e (Some n) f t = inr (n, f)
      go None e None f t = let bad : ◌≡◌ {A = Bool} false true = sym (λ i. not (same_option same_node (e i) (f i)) || holds_mentioned m (e i)) ∙ t in cc

  reg-field : (r : RegStep) → Has S.regs r → IsField r.field.node
  reg-field r i = elim (one-or-other (D.held r.field) (E.held r.field)) [
    | inl q ↦ same-held (D.held r.field) refl (ap (λ b. not b || holds_mentioned m (D.held r.field)) (sym q.1) ∙ (reg-is D E S x s r i).2)
    | inr q ↦ register-differs r.field there q.0
  ]
    where
      same-held : (o : Option NodeId) → D.held r.field ≡ o → holds_mentioned m (D.held r.field) ≡ true → IsField r.field.node
      same-held None e t = let bad : ◌≡◌ {A = Bool} false true = sym (ap (holds_mentioned m) e) ∙ t in cc
      same-held (Some n) e t = by-name r.field.node (named-up D E S x s n r.field.node (sym (ap (holds_mentioned m) e) ∙ t) (ap node_of ((x.before.one_held n r.field).0 e)))

      there : IsSome (E.nodes r.field.node)
      there = elim (listed-holds r i) [
        | inl w ↦ node_later D E x r.field.node (x.before.held_known w.0 r.field w.1).1
        | inr w ↦ (x.after.held_known w.0 r.field w.1).1
      ]

  fields_found : FieldsAreFound L
  fields_found = has-all IsField (fields_of L) (λ n h. elim (has-append (map (λ (r : RowMarks). r.node) S.rows) (map (λ (k : FieldId). k.node) L.registers) n h) [
    | inl i ↦ (let r = has-map (λ (r : RowMarks). r.node) S.rows n i in subst IsField r.2 (row-field r.0.node (why-told (step_row m (s.grows r.0.node)) (row-look D E S x s r.0 r.1).1)))
    | inr i ↦ (let k = has-map (λ (k : FieldId). k.node) L.registers n i in let r = has-map (λ (r : RegStep). r.field) S.regs k.0 k.1 in subst IsField (ap (λ (k : FieldId). k.node) r.2 ∙ k.2) (reg-field r.0 r.1))
  ])

  keys : KeysAreThere L
  keys = has-all (λ (f : FieldId). f.key.0 ≢ []) L.registers (λ f h. let r = has-map (λ (r : RegStep). r.field) S.regs f h in
      subst (λ (f : FieldId). f.key.0 ≢ []) r.2 (elim (listed-holds r.0 r.1) [
        | inl w ↦ x.before.register_key w.0 r.0.field w.1
        | inr w ↦ x.after.register_key w.0 r.0.field w.1
      ]))

  -- ## What steps alone obey

  rising : StepIsRising S
  rising = record { new = s.new.rising; rows = s.rows.rising; regs = s.regs.rising; loose = s.loose.rising }

  set_nowhere : NothingIsSetHere S
  set_nowhere = has-all (λ (f : Found). f.how ≢ Here) L.found (λ f i. elim (found-at D E S x s f i).1 [ inl w ↦ (λ q. let bad : Stay ≡ Here = sym w.0 ∙ q in cc) | inr w ↦ (λ q. let bad : Leave ≡ Here = sym w.0 ∙ q in cc) ])

  registers_tell : RegistersTellOver S
  registers_tell = has-all (λ (r : RegStep). IsSome r.before ⊎ IsSome r.after) S.regs (λ r i. let w = reg-is D E S x s r i in elim (listed-holds r i) [
    | inl k ↦ inl (ap is_some (w.0 ∙ k.1))
    | inr k ↦ inr (ap is_some (w.1 ∙ k.1))
  ])

  new_registers : NewRegistersAreEmptyBefore S
  new_registers = has-all (λ (r : RegStep). Has (nodes_new S.new) r.field.node → r.before ≡ None) S.regs (λ r i h. go r (reg-is D E S x s r i).0 (new-is r.field.node h) (D.held r.field) refl)
    where
      go : (r : RegStep) → r.before ≡ D.held r.field → D.nodes r.field.node ≡ None → (o : Option NodeId) → D.held r.field ≡ o → r.before ≡ None
      go r e f None g = e ∙ g
      go r e f (Some n) g = absurd (unknown f (x.before.held_known n r.field g).1)

  loose_put : LooseNodesArePut L S.loose
  loose_put = has-all (λ (l : Loose). l.how ≡ Leave → Has L.put l.node) S.loose (λ l i e.
      let w = loose-place D E S x s l i in
      elim w.2 [
        | inl v ↦ (let bad : Stay ≡ Leave = sym v.0 ∙ e in cc)
        | inr v ↦ comes-put D E S x s l.node (E.place l.node) (refl, v.1) (λ q. v.1 (w.0 ∙ sym q))
      ])

  -- ## Nodes that stay

  row-leads : (n : NodeId) → list_any tells (step_row m (s.grows n)) ≡ true → HasListedField L n
  row-leads n e = let r = row-listed D E S x s n e in subst (HasListedField L) r.2 (append_left (map (λ (r : RowMarks). r.node) S.rows) (map (λ (f : FieldId). f.node) L.registers) r.0.node (map-has (λ (r : RowMarks). r.node) S.rows r.0 r.1))

  register-leads : (f : FieldId) → (not (same_option same_node (D.held f) (E.held f)) || holds_mentioned m (D.held f)) ≡ true → HasListedField L f.node
  register-leads f e = append_right (map (λ (r : RowMarks). r.node) S.rows) (map (λ (f : FieldId). f.node) L.registers) f.node (map-has (λ (f : FieldId). f.node) L.registers f (map-has (λ (r : RegStep). r.field) S.regs (record { field = f; before = D.held f; after = E.held f }) (has-reg D E S x s f e)))

  differs-leads : (n : NodeId) → content D n ≢ content E n → HasListedField L n
  differs-leads n h = go (list_any tells (step_row m (s.grows n))) refl
    where
      go : (b : Bool) → list_any tells (step_row m (s.grows n)) ≡ b → HasListedField L n
      go true e = row-leads n e
      go false e = absurd (h (quiet-row m (s.grows n) e))

  changed-leads : (f : FieldId) → D.held f ≢ E.held f → HasListedField L f.node
  changed-leads f h = elim (one-or-other (D.held f) (E.held f)) [
    | inl q ↦ absurd (h q.0)
    | inr q ↦ register-leads f (or-left (not (same_option same_node (D.held f) (E.held f))) (holds_mentioned m (D.held f)) (ap not q.1))
  ]

  -- the node above one that is named has a field that is listed
  above-leads : (k n : NodeId) → m k ≡ true → above D k ≡ Some n → HasListedField L n
  above-leads k n e a = go (D.place k) refl a
    where
      go : (p : Spot) → D.place k ≡ p → node_of p ≡ Some n → HasListedField L n
      go Spot.Nowhere p a = cc
      go (Spot.Row r c) p a = let q : r ≡ n = some-node a in subst (HasListedField L) q (in-row r c p)
        where
          in-row : (r : NodeId) (c : CellId) → D.place k ≡ Spot.Row r c → HasListedField L r
          in-row r c p = elim (touched-as D E S x s k r c e p) [
            | inl w ↦ row-leads r (has-any tells (step_row m (s.grows r)) (Touch c k Stay) w.1 refl)
            | inr w ↦ row-leads r (has-any tells (step_row m (s.grows r)) (Touch c k Leave) w.1 refl)
          ]
      go (Spot.Register f) p a =
          subst (HasListedField L) (some-node a) (register-leads f (or-right (not (same_option same_node (D.held f) (E.held f))) (holds_mentioned m (D.held f)) (ap (holds_mentioned m) ((x.before.one_held k f).1 p) ∙ e)))

  -- the last step of a climb
  last-step : (k : ℕ) (a n : NodeId) → climb (above D) (suc k) a ≡ Some n → (b : NodeId) × (climb (above D) k a ≡ Some b) × (above D b ≡ Some n)
  last-step zero a n e = (a, refl, go (above D a) e)
    where
      go : (o : Option NodeId) → option_and_then (climb (above D) zero) o ≡ Some n → o ≡ Some n
      go None e = cc
      go (Some b) e = e
  last-step (suc k) a n e = go (above D a) refl e (λ b f. last-step k b n f)
    where
      go : (o : Option NodeId) → above D a ≡ o → option_and_then (climb (above D) (suc k)) o ≡ Some n → ((b : NodeId) → climb (above D) (suc k) b ≡ Some n → (c : NodeId) × (climb (above D) k b ≡ Some c) × (above D c ≡ Some n))
          → (b : NodeId) × (climb (above D) (suc k) a ≡ Some b) × (above D b ≡ Some n)
      go None f e more = cc
      go (Some b) f e more = let r = more b e in (r.0, ap (option_and_then (climb (above D) k)) f ∙ r.1, r.2)

  stays-leads : (n : NodeId) → m n ≡ true → D.place n ≡ E.place n → HasListedField L n
  stays-leads n e p = let w = (s.which n).0 e in go w.0 w.1 w.2 w.3
    where
      here : (k : NodeId) → k ≡ n → (D.place k ≢ E.place k) ⊎ (content D k ≢ content E k) ⊎ ((f : FieldId) × (f.node ≡ k) × (D.held f ≢ E.held f)) → HasListedField L n
      here k q (inl h) = absurd (h (ap D.place q ∙ p ∙ ap E.place (sym q)))
      here k q (inr (inl h)) = subst (HasListedField L) q (differs-leads k h)
      here k q (inr (inr h)) = subst (HasListedField L) (h.1 ∙ q) (changed-leads h.0 h.2)

      go : (k : NodeId) → IsChanged D E k → (j : ℕ) → climb (above D) j k ≡ Some n → HasListedField L n
      go k c zero f = here k (some-node f) c.1
      go k c (suc j) f = let w = last-step j k n f in above-leads w.0 n ((s.which w.0).1 (k, c, j, w.1)) w.2

  staying-found : (fs : List Found) (n : NodeId) → Has (staying_nodes fs) n → Has fs (record { node = n; how = Stay })
  staying-found [] n h = absurd h
  staying-found (f ∷ fs) n h = go f.how refl h (λ i. staying-found fs n i)
    where
      go : (g : How) → f.how ≡ g → Has (cond (is_stay g) (f.node ∷ staying_nodes fs) (staying_nodes fs)) n → (Has (staying_nodes fs) n → Has fs (record { node = n; how = Stay })) → Has (f ∷ fs) (record { node = n; how = Stay })
      go Stay e (inl q) more = inl (λ i. record { node = q i; how = e i })
      go Stay e (inr i) more = inr (more i)
      go Here e i more = inr (more i)
      go Leave e i more = inr (more i)

  staying_lead_on : StayingNodesLeadOn S
  staying_lead_on = has-all (HasListedField L) (staying_nodes L.found) (λ n h.
      let i = staying-found L.found n h in
      elim (found-at D E S x s (record { node = n; how = Stay }) i).1 [
        | inl w ↦ stays-leads n w.2 w.1
        | inr w ↦ (let bad : Stay ≡ Leave = w.0 in cc)
      ])

  -- ## No ring

  module _ (F : Document) (up : IsSoundInForm F) (Q : Listing) (rows : (n k : NodeId) (cs : List CellView) (j : ℕ) (c : CellId) → Q.row k ≡ Some cs → slice_get cs j ≡ Some (cell_view c n true) → above F n ≡ Some k)
      (regs : (n : NodeId) (f : FieldId) → Q.register f ≡ Some (Some n) → above F n ≡ Some f.node) where
    says-above : (n p : NodeId) (t : Spot) → Places Q n t → node_of t ≡ Some p → above F n ≡ Some p
    says-above n p t (placed_in_row k _ c cs j e h) g = rows n k cs j c e h ∙ g
    says-above n p t (placed_in_register f _ e) g = regs n f e ∙ g
    says-above n p t (placed_nowhere _ e) g = cc

    reaches : (n q : NodeId) → LeadsUp (Places Q) n q → Reaches (above F) n q
    reaches n q (one_up t a e) = one_step (above F) n q (says-above n q t a e)
    reaches n q (further_up {p = k} t a e l) = step_before (above F) n k q (says-above n k t a e) (reaches k q l)

    no-ring : (n : NodeId) → LeadsUp (Places Q) n n → ⊥
    no-ring n l = let e = up.no_ring n in never_ends (above F) e.0 n (reaches n n l) e.1

  some-list : {A : Type 0} {a b : List A} → ◌≡◌ {A = Option (List A)} (Some a) (Some b) → a ≡ b
  some-list e = cc

  before-rows : (n k : NodeId) (cs : List CellView) (j : ℕ) (c : CellId) → (listing_before_step S).row k ≡ Some cs → slice_get cs j ≡ Some (cell_view c n true) → above D n ≡ Some k
  before-rows n k cs j c e h = go (item_of node_cmp (λ (r : RowMarks). r.node) S.rows k) refl e
    where
      go : (q : Option RowMarks) → item_of node_cmp (λ (r : RowMarks). r.node) S.rows k ≡ q → option_map (λ (r : RowMarks). cells_before (spread r.marks)) q ≡ Some cs → above D n ≡ Some k
      go None f g = cc
      go (Some r) f g =
          let i = item_of-has node_cmp node_cmp_total node_cmp_exact (λ (r : RowMarks). r.node) S.rows k r f in
          let same : cells_before (spread r.marks) ≡ cs = some-list g in
          let there = seen-there (content D r.node) (cells_before (spread r.marks)) j c n true (sees-before r i.0) (subst (λ l. slice_get l j ≡ Some (cell_view c n true)) (sym same) h) in
          ap node_of (stands D x.before n r.node c there) ∙ ap (λ k. Some k) i.1

  after-rows : (n k : NodeId) (cs : List CellView) (j : ℕ) (c : CellId) → (listing_after_step S).row k ≡ Some cs → slice_get cs j ≡ Some (cell_view c n true) → above E n ≡ Some k
  after-rows n k cs j c e h = go (item_of node_cmp (λ (r : RowMarks). r.node) S.rows k) refl e
    where
      none-new : (b : Bool) → cond b (Some []) None ≡ Some cs → above E n ≡ Some k
      none-new true g = let q : [] ≡ cs = some-list g in let bad : None ≡ Some (cell_view c n true) = ap (λ l. slice_get l j) q ∙ h in cc
      none-new false g = cc

      go : (q : Option RowMarks) → item_of node_cmp (λ (r : RowMarks). r.node) S.rows k ≡ q → option_or (option_map (λ (r : RowMarks). cells_after (spread r.marks)) q) (cond (is_among (nodes_new S.new) k) (Some []) None) ≡ Some cs → above E n ≡ Some k
      go None f g = none-new (is_among (nodes_new S.new) k) g
      go (Some r) f g =
          let i = item_of-has node_cmp node_cmp_total node_cmp_exact (λ (r : RowMarks). r.node) S.rows k r f in
          let same : cells_after (spread r.marks) ≡ cs = some-list g in
          let there = seen-there (content E r.node) (cells_after (spread r.marks)) j c n true (sees-after r i.0) (subst (λ l. slice_get l j ≡ Some (cell_view c n true)) (sym same) h) in
          ap node_of (stands E x.after n r.node c there) ∙ ap (λ k. Some k) i.1

  some-held : {a b : Option NodeId} → ◌≡◌ {A = Option (Option NodeId)} (Some a) (Some b) → a ≡ b
  some-held e = cc

  before-regs : (n : NodeId) (f : FieldId) → (listing_before_step S).register f ≡ Some (Some n) → above D n ≡ Some f.node
  before-regs n f e = go (item_of field_cmp (λ (r : RegStep). r.field) S.regs f) refl e
    where
      go : (q : Option RegStep) → item_of field_cmp (λ (r : RegStep). r.field) S.regs f ≡ q → option_map (λ (r : RegStep). r.before) q ≡ Some (Some n) → above D n ≡ Some f.node
      go None h g = cc
      go (Some r) h g =
          let i = item_of-has field_cmp field_cmp_total field_cmp_exact (λ (r : RegStep). r.field) S.regs f r h in
          ap node_of ((x.before.one_held n r.field).0 (sym (reg-is D E S x s r i.0).0 ∙ some-held g)) ∙ ap (λ (f : FieldId). Some f.node) i.1

  after-regs : (n : NodeId) (f : FieldId) → (listing_after_step S).register f ≡ Some (Some n) → above E n ≡ Some f.node
  after-regs n f e = go (item_of field_cmp (λ (r : RegStep). r.field) S.regs f) refl e
    where
      none-new : (b : Bool) → ◌≡◌ {A = Option (Option NodeId)} (cond b (Some None) None) (Some (Some n)) → above E n ≡ Some f.node
      none-new true g = let bad : ◌≡◌ {A = Option NodeId} None (Some n) = some-held g in cc
      none-new false g = cc

      go : (q : Option RegStep) → item_of field_cmp (λ (r : RegStep). r.field) S.regs f ≡ q → option_or (option_map (λ (r : RegStep). r.after) q) (cond (is_among (nodes_new S.new) f.node) (Some None) None) ≡ Some (Some n) → above E n ≡ Some f.node
      go None h g = none-new (is_among (nodes_new S.new) f.node) g
      go (Some r) h g =
          let i = item_of-has field_cmp field_cmp_total field_cmp_exact (λ (r : RegStep). r.field) S.regs f r h in
          ap node_of ((x.after.one_held n r.field).0 (sym (reg-is D E S x s r i.0).1 ∙ some-held g)) ∙ ap (λ (f : FieldId). Some f.node) i.1

  no_ring : NoRingOverStep S
  no_ring = record {
    before = no-ring D x.before (listing_before_step S) before-rows before-regs;
    after = no-ring E x.after (listing_after_step S) after-rows after-regs;
  }

  -- ## Schemas

  -- the entries behind a front of entries in effect, of which the last has the revision
  behind-front : (F : Document) → IsSoundInForm F → (front more : List SchemaEntry) (on : Rev) → F.schemas ≡ front ++ more → last_of (revs front) ≡ Some on → AreEntriesBehind on more
  behind-front F sound front more on e l = elim (last-entry None front on l) [
    | inr q ↦ (let bad : ◌≡◌ {A = Option Rev} None (Some on) = q in cc)
    | inl w ↦ (record {
      once = distinct-right (λ (e : SchemaEntry). e.rev) front more all;
      behind = has-all (λ (e : SchemaEntry). (e.rev ≢ opening) × (e.rev ≢ on)) more (λ y h. (
        first front (subst (λ l. first_of (revs l) ≡ Some opening) e sound.in_effect.begun) w.0 w.1 all y h,
        λ q. distinct-between (λ (e : SchemaEntry). e.rev) front more w.0 y all w.1 h (q ∙ sym w.2),
      ));
    })
  ]
    where
      all : AreDistinct (λ (e : SchemaEntry). e.rev) (front ++ more)
      all = subst (AreDistinct (λ (e : SchemaEntry). e.rev)) e sound.in_effect.once

      first : (front : List SchemaEntry) → first_of (revs (front ++ more)) ≡ Some opening → (w : SchemaEntry) → Has front w → AreDistinct (λ (e : SchemaEntry). e.rev) (front ++ more) → (y : SchemaEntry) → Has more y → y.rev ≢ opening
      first [] f w i d y h = absurd i
      first (z ∷ front) f w i d y h = λ q. let o : z.rev ≡ opening = cc in distinct-between (λ (e : SchemaEntry). e.rev) (z ∷ front) more z y d (inl refl) h (q ∙ sym o)

  schema : IfSome S.schema SchemaStepFits
  schema = go S.schema s.schema
    where
      go : (o : Option SchemaStep) → IsSchemaStep D.schemas E.schemas o → IfSome o SchemaStepFits
      go None w = tt
      go (Some t) w = record {
        cut = behind-front D x.before w.0 t.cut t.on w.1 w.3;
        add = behind-front E x.after w.0 t.add t.on w.2 w.3;
        differ = w.4;
      }

  pub step_obeys : ObeysStepRules S
  step_obeys = record {
    common = record {
      merged = merged;
      tells = told;
      short = short;
      cells_once = cells;
      new_rows = new_rows;
      found_once = found_once;
      put_once = put_once;
      put_leave = put_leave;
      new_not_found = new_not_found;
      root_stays = root_stays;
      filled_old = filled_old;
      fields_found = fields_found;
      keys = keys;
    };
    rising = rising;
    set_nowhere = set_nowhere;
    registers_tell = registers_tell;
    new_registers = new_registers;
    loose_put = loose_put;
    mentioned = staying_lead_on;
    no_ring = no_ring;
    schema = schema;
  }
