-- The nodes that a listing tells of as differing are those that differ.
use Rattle.std.proofs.Common.{◌≡◌, ◌≢◌, Bool, true, false, ◌||◌, ◌&&◌, ◌++◌, not, cond, List, [], ◌∷◌, Option, Some, None, IsSome, refl, sym, ap, ◌∙◌, subst, inl, inr, ◌⊎◌}
use Rattle.std.specs.List.{flat_map, list_any}
use Rattle.st_ids.specs.Listing.{AreDistinct, Has}
use Rattle.st_ids.specs.Order.{same_node}
use Rattle.st_ids.specs.Root.{root}
use Rattle.st_ids.proofs.Orders.{same_node-true}
use Rattle.st_ids.specs.declared.names.CellId.{CellId}
use Rattle.st_ids.specs.declared.names.FieldId.{FieldId}
use Rattle.st_ids.specs.declared.names.NodeId.{NodeId}
use Rattle.st_kind.specs.Named.{Nodes}
use Rattle.st_marks.specs.declared.marks.How.{How}
use Rattle.st_marks.specs.declared.marks.How.TheVariants.{Stay, Here, Leave}
use Rattle.st_marks.specs.declared.marks.Loose.{Loose}
use Rattle.st_marks.specs.declared.marks.Mark.{Mark}
use Rattle.st_marks.specs.declared.marks.RegStep.{RegStep}
use Rattle.st_marks.specs.declared.marks.RowMarks.{RowMarks}
use Rattle.st_marks.specs.declared.places.Slot.{Slot}
use Rattle.st_marks.specs.declared.places.Spot.{Spot}
use Rattle.st_marks.specs.declared.steps.Step.{Step}
use Rattle.st_marks.specs.Document.{Document, content}
use Rattle.st_marks.specs.Embedding.{is_among, is_loose, is_nowhere, tells}
use Rattle.st_marks.specs.Extends.{GainsItems, IsExtendedBy, no_more, item_gained, item_kept}
use Rattle.st_marks.specs.How.{is_leave}
use Rattle.st_marks.specs.Intent.{same_option}
use Rattle.st_marks.specs.Listings.{nodes_new, one_or_none}
use Rattle.st_marks.specs.Register.{holds_mentioned}
use Rattle.st_marks.specs.Row.{CellMark, Counted, Gap, Touch, Make, Fill, SameCell, spread, step_cell, step_row}
use Rattle.st_marks.specs.Step.{IsChanged}
use Rattle.st_marks.proofs.Climb.{placed_known, shown, stands}
use Rattle.st_marks.proofs.Members.{any-has, append_left, append_right, flat_map-has, has-any, has-append, has-flat_map, map-has}
use Rattle.st_marks.proofs.Shared.{held-same, same-held}
use Rattle.st_puts.proofs.Basics.{is-one, one-is, register-not-nowhere, row-not-nowhere}
use Rattle.st_puts.proofs.StepPlaces.{empty-not, slot-known}
use Rattle.st_puts.proofs.StepRows.{cell_with, fill-step, kept-mark, make-step, touch-step}
use Rattle.st_puts.proofs.Marks.{as_mark, from-spread, in-spread}
use Rattle.st_rows.proofs.Documents.{can_hold}
use Rattle.st_lemmas.proofs.Bools.{or-left}
use Rattle.st_trim.specs.Trimmed.{ListsStep}
use Rattle.st_trim.specs.inside.Told.{changes_by_register, changes_by_row, changes_told, differs, leaver, loose_leaver, row_changed, unless_in}
use Rattle.st_trim.proofs.ListingItems.{loose-listed, loose-look, no-truth, not-new-old, old-not-new, register-listed, register-look, row-listed, row-look}

-- ## One mark

-- whether a cell's mark says that its row differs
abbrev cell_differs : CellMark → Bool
cell_differs Counted = false
cell_differs (Gap c) = false
cell_differs (Touch c n h) = is_leave h
cell_differs (Make c n b) = true
cell_differs (Fill c n) = true

differing-tells : (y : CellMark) → cell_differs y ≡ true → tells y ≡ true
differing-tells Counted e = e
differing-tells (Gap c) e = e
differing-tells (Touch c n h) e = refl
differing-tells (Make c n b) e = refl
differing-tells (Fill c n) e = refl

differing-mark : (y : CellMark) → cell_differs y ≡ true → differs (as_mark y) ≡ true
differing-mark Counted e = e
differing-mark (Gap c) e = e
differing-mark (Touch c n h) e = e
differing-mark (Make c n b) e = refl
differing-mark (Fill c n) e = refl

differing-not-counted : (y : CellMark) → cell_differs y ≡ true → y ≡ Counted → ⊥
differing-not-counted y e f = let q : ◌≡◌ {A = Bool} false true = sym (ap cell_differs f) ∙ e in cc

leave-is : (h : How) → is_leave h ≡ true → h ≡ Leave
leave-is Stay e = cc
leave-is Here e = cc
leave-is Leave e = refl

-- what a mark that differs is
data Differing (m : Mark) : Type 0 where
  leaving : (a : CellId) (k : NodeId) → m ≡ Mark.Touch a k Leave → Differing m
  making : (a : CellId) (k : NodeId) (b : Bool) → m ≡ Mark.Make a k b → Differing m
  filling : (a : CellId) (k : NodeId) → m ≡ Mark.Fill a k → Differing m

differing-is : (m : Mark) → differs m ≡ true → Differing m
differing-is (Mark.Skip k) e = cc
differing-is (Mark.Gap c) e = cc
differing-is (Mark.Touch c n h) e = leaving c n (ap (λ h. Mark.Touch c n h) (leave-is h e))
differing-is (Mark.Make c n b) e = making c n b refl
differing-is (Mark.Fill c n) e = filling c n refl

leaver-is : (m : Mark) (n : NodeId) → leaver m ≡ Some n → (a : CellId) × (m ≡ Mark.Touch a n Leave)
leaver-is (Mark.Skip k) n e = cc
leaver-is (Mark.Gap c) n e = cc
leaver-is (Mark.Touch c k h) n e = go (is_leave h) refl e
  where
    go : (b : Bool) → is_leave h ≡ b → cond {A = Option NodeId} b (Some k) None ≡ Some n → (a : CellId) × (Mark.Touch c k h ≡ Mark.Touch a n Leave)
    go true f g = let same : k ≡ n = cc in (c, λ i. Mark.Touch c (same i) (leave-is h f i))
    go false f g = cc
leaver-is (Mark.Make c k b) n e = cc
leaver-is (Mark.Fill c k) n e = cc

-- ## One row

has-cell : (c : List Slot) (s : Slot) (a : CellId) (n : NodeId) (b : Bool) → Has c s → s.cell ≡ a → s.node ≡ n → s.full ≡ b → Has c (cell_with a n b)
has-cell c s a n b h e f g = subst (Has c) (λ i. record { cell = e i; node = f i; full = g i }) h

-- a row of which no mark differs is the same after
same-content : (K : Nodes) {c d : List Slot} (g : GainsItems SameCell c d) → list_any cell_differs (step_row K g) ≡ false → c ≡ d
same-content K no_more e = refl
same-content K (item_gained g) e = cc
same-content K (item_kept {x = s} {y = t} {xs = c} {ys = d} same g) e = go s.full refl t.full refl e (λ h. same-content K g h)
  where
    slots : (b : Bool) → s.full ≡ b → t.full ≡ b → s ≡ t
    slots b p q = λ i. record { cell = same.0 i; node = same.1 i; full = (p ∙ sym q) i }

    rest : (m : CellMark) → (cell_differs m || list_any cell_differs (step_row K g)) ≡ false → list_any cell_differs (step_row K g) ≡ false
    rest m h = last (cell_differs m) h
      where
        last : (a : Bool) → (a || list_any cell_differs (step_row K g)) ≡ false → list_any cell_differs (step_row K g) ≡ false
        last true h = cc
        last false h = h

    differing : (m : CellMark) → cell_differs m ≡ true → (cell_differs m || list_any cell_differs (step_row K g)) ≡ false → ⊥
    differing m f h = no-truth (or-left (cell_differs m) (list_any cell_differs (step_row K g)) f) h

    go : (a : Bool) → s.full ≡ a → (b : Bool) → t.full ≡ b → (cell_differs (step_cell K s.cell s.node s.full t.full) || list_any cell_differs (step_row K g)) ≡ false
        → (list_any cell_differs (step_row K g) ≡ false → c ≡ d) → s ∷ c ≡ t ∷ d
    go true p true q h more = λ i. slots true p q i ∷ more (rest (step_cell K s.cell s.node s.full t.full) h) i
    go false p false q h more = λ i. slots false p q i ∷ more (rest (step_cell K s.cell s.node s.full t.full) h) i
    go true p false q h more = absurd (differing (step_cell K s.cell s.node s.full t.full) (λ i. cell_differs (step_cell K s.cell s.node (p i) (q i))) h)
    go false p true q h more = absurd (differing (step_cell K s.cell s.node s.full t.full) (λ i. cell_differs (step_cell K s.cell s.node (p i) (q i))) h)

nowhere-or-not : (s : Spot) → ((is_nowhere s ≡ true) × (s ≡ Spot.Nowhere)) ⊎ ((is_nowhere s ≡ false) × (s ≢ Spot.Nowhere))
nowhere-or-not Spot.Nowhere = inl (refl, refl)
nowhere-or-not (Spot.Row r c) = inr (refl, row-not-nowhere r c)
nowhere-or-not (Spot.Register f) = inr (refl, register-not-nowhere f)

-- what a node is that is told unless it is new
old-is : (new : Nodes) (k n : NodeId) → unless_in new k ≡ Some n → (k ≡ n) × (new k ≡ false)
old-is new k n e = go (new k) refl e
  where
    go : (b : Bool) → new k ≡ b → cond {A = Option NodeId} b None (Some k) ≡ Some n → (k ≡ n) × (new k ≡ false)
    go true f g = cc
    go false f g = let same : k ≡ n = cc in (same, f)

is-old : (new : Nodes) (n : NodeId) → new n ≡ false → unless_in new n ≡ Some n
is-old new n e = ap (λ b. cond {A = Option NodeId} b None (Some n)) e

module _ (D E : Document) (K : Nodes) (G : Step) (x : IsExtendedBy D E) (l : ListsStep D E K G) where
  abbrev pub new : Nodes
  new = is_among (nodes_new G.new)

  once : (n : NodeId) → AreDistinct (λ (s : Slot). s.cell) (content E n)
  once n = (can_hold E x.after n).once

  full-or-empty : (n r : NodeId) (a : CellId) → Has (content E r) (cell_with a n true) → Has (content E r) (cell_with a n false) → ⊥
  full-or-empty n r a h i = empty-not E n r a i (stands E x.after n r a h)

  -- ## Who is told differs

  -- whoever leaves a cell
  left : (r : RowMarks) (a : CellId) (n : NodeId) → Has G.rows r → Has (spread r.marks) (Touch a n Leave) → Has (content D r.node) (cell_with a n true) × Has (content E r.node) (cell_with a n false)
  left r a n i j = let t = touch-step K (l.grows r.node) (once r.node) a n Leave (subst (λ ms. Has ms (Touch a n Leave)) (row-look D E K G x l r i) j) in
      (t.0, elim t.1 [ inl w ↦ absurd (stay-leave w.0) | inr w ↦ w.1 ])
    where
      stay-leave : Leave ≡ Stay → ⊥
      stay-leave e = cc

  touch-not : (a : CellId) (n : NodeId) (h : How) → Touch a n h ≡ Counted → ⊥
  touch-not a n h e = cc

  leaver-changed : (r : RowMarks) (m : Mark) (n : NodeId) → Has G.rows r → Has r.marks m → leaver m ≡ Some n → IsChanged D E n
  leaver-changed r m n i j e =
      let w = leaver-is m n e in
      let t = left r w.0 n i (in-spread r.marks (Touch w.0 n Leave) (touch-not w.0 n Leave) (subst (Has r.marks) w.1 j)) in
      let before = stands D x.before n r.node w.0 t.0 in
      (placed_known D x.before n (λ q. row-not-nowhere r.node w.0 (sym before ∙ q)), inl (λ q. empty-not E n r.node w.0 t.1 (sym q ∙ before)))

  -- a row with a mark that differs
  row-differs : (r : RowMarks) (m : Mark) → Has G.rows r → Has r.marks m → Differing m → IsSome (E.nodes r.node) × (content D r.node ≢ content E r.node)
  row-differs r m i j (leaving a k e) =
      let t = left r a k i (in-spread r.marks (Touch a k Leave) (touch-not a k Leave) (subst (Has r.marks) e j)) in
      ((slot-known E x.after r.node (cell_with a k false) t.1).0, λ q. full-or-empty k r.node a (subst (λ c. Has c (cell_with a k true)) q t.0) t.1)
  row-differs r m i j (making a k b e) =
      let t = make-step K (l.grows r.node) (once r.node) a k b (subst (λ ms. Has ms (Make a k b)) (row-look D E K G x l r i) (in-spread r.marks (Make a k b) (λ q. make-not q) (subst (Has r.marks) e j))) in
      ((slot-known E x.after r.node (cell_with a k b) t.0).0, λ q. t.1 (map-has (λ (s : Slot). s.cell) (content D r.node) (cell_with a k b) (subst (λ c. Has c (cell_with a k b)) (sym q) t.0)))
    where
      make-not : Make a k b ≡ Counted → ⊥
      make-not q = cc
  row-differs r m i j (filling a k e) =
      let t = fill-step K (l.grows r.node) (once r.node) a k (subst (λ ms. Has ms (Fill a k)) (row-look D E K G x l r i) (in-spread r.marks (Fill a k) (λ q. fill-not q) (subst (Has r.marks) e j))) in
      ((slot-known E x.after r.node (cell_with a k true) t.1).0, λ q. full-or-empty k r.node a t.1 (subst (λ c. Has c (cell_with a k false)) q t.0))
    where
      fill-not : Fill a k ≡ Counted → ⊥
      fill-not q = cc

  changed-row : (r : RowMarks) (n : NodeId) → Has G.rows r → row_changed new r ≡ Some n → IsChanged D E n
  changed-row r n i e = go (list_any differs r.marks) refl e
    where
      go : (b : Bool) → list_any differs r.marks ≡ b → cond {A = Option NodeId} b (unless_in new r.node) None ≡ Some n → IsChanged D E n
      go false f g = cc
      go true f g =
          let m = any-has differs r.marks f in
          let w = row-differs r m.0 i m.1 (differing-is m.0 m.2) in
          let o = old-is new r.node n g in
          subst (IsChanged D E) o.0 (not-new-old D E K G x l r.node w.0 o.1, inr (inl w.1))

  told-by-row : (r : RowMarks) (n : NodeId) → Has G.rows r → Has (changes_by_row new r) n → IsChanged D E n
  told-by-row r n i h = elim (has-append (flat_map (λ (m : Mark). one_or_none (leaver m)) r.marks) (one_or_none (row_changed new r)) n h) [
    | inl j ↦ (let m = has-flat_map (λ (m : Mark). one_or_none (leaver m)) r.marks n j in leaver-changed r m.0 n i m.1 (one-is (leaver m.0) n m.2))
    | inr j ↦ changed-row r n i (one-is (row_changed new r) n j)
  ]

  held-apart : (r : RegStep) → Has G.regs r → same_option same_node r.before r.after ≡ false → D.held r.field ≢ E.held r.field
  held-apart r i e q = let w = register-look D E K G x l r i in no-truth (held-same r.before r.after (w.0 ∙ q ∙ sym w.1)) e

  -- the occupant before of a register that differs
  occupant-changed : (r : RegStep) (n : NodeId) → Has G.regs r → same_option same_node r.before r.after ≡ false → r.before ≡ Some n → IsChanged D E n
  occupant-changed r n i e f =
      let w = register-look D E K G x l r i in
      let held : D.held r.field ≡ Some n = sym w.0 ∙ f in
      let before = (x.before.one_held n r.field).0 held in
      (placed_known D x.before n (λ q. register-not-nowhere r.field (sym before ∙ q)), inl (λ q. held-apart r i e (held ∙ sym ((x.after.one_held n r.field).1 (sym q ∙ before)))))

  -- and its node
  owner-changed : (r : RegStep) (n : NodeId) → Has G.regs r → same_option same_node r.before r.after ≡ false → unless_in new r.field.node ≡ Some n → IsChanged D E n
  owner-changed r n i e f =
      let o = old-is new r.field.node n f in
      subst (IsChanged D E) o.0 (known (D.held r.field) refl (E.held r.field) refl o.1, inr (inr (r.field, refl, held-apart r i e)))
    where
      known : (a : Option NodeId) → D.held r.field ≡ a → (b : Option NodeId) → E.held r.field ≡ b → new r.field.node ≡ false → IsSome (D.nodes r.field.node)
      known (Some m) p b q g = (x.before.held_known m r.field p).1
      known None p (Some m) q g = not-new-old D E K G x l r.field.node (x.after.held_known m r.field q).1 g
      known None p None q g = absurd (held-apart r i e (p ∙ sym q))

  told-by-register : (r : RegStep) (n : NodeId) → Has G.regs r → Has (changes_by_register new r) n → IsChanged D E n
  told-by-register r n i h = go (same_option same_node r.before r.after) refl h
    where
      go : (b : Bool) → same_option same_node r.before r.after ≡ b → Has (cond b [] (one_or_none r.before ++ one_or_none (unless_in new r.field.node))) n → IsChanged D E n
      go true e h = absurd h
      go false e h = elim (has-append (one_or_none r.before) (one_or_none (unless_in new r.field.node)) n h) [
        | inl j ↦ occupant-changed r n i e (one-is r.before n j)
        | inr j ↦ owner-changed r n i e (one-is (unless_in new r.field.node) n j)
      ]

  -- a node that was nowhere and is put
  told-loose : (m : Loose) (n : NodeId) → Has G.loose m → loose_leaver new m ≡ Some n → IsChanged D E n
  told-loose m n i e = go (is_leave m.how) refl e
    where
      some-loose : {a b : Loose} → ◌≡◌ {A = Option Loose} (Some a) (Some b) → a ≡ b
      some-loose q = cc

      places : (b : Bool) → is_loose K D m.node ≡ b → m.how ≡ Leave → (D.place m.node ≡ Spot.Nowhere) × (E.place m.node ≢ Spot.Nowhere)
      places false q f = let bad : None ≡ Some m = ap (λ b. cond {A = Option Loose} b (Some (record { node = m.node; how = cond (is_nowhere (E.place m.node)) Stay Leave })) None) (sym q) ∙ loose-look D E K G x l m i in cc
      places true q f =
          let look : record { node = m.node; how = cond (is_nowhere (E.place m.node)) Stay Leave } ≡ m = some-loose (ap (λ b. cond {A = Option Loose} b (Some (record { node = m.node; how = cond (is_nowhere (E.place m.node)) Stay Leave })) None) (sym q) ∙ loose-look D E K G x l m i) in
          (before, after (ap (λ (m : Loose). m.how) look ∙ f))
        where
          parts : (a b c : Bool) → (a && b && c) ≡ true → b ≡ true
          parts true true c h = refl
          parts true false c h = h
          parts false b c h = cc

          before : D.place m.node ≡ Spot.Nowhere
          before = elim (nowhere-or-not (D.place m.node)) [
            | inl w ↦ w.1
            | inr w ↦ absurd (no-truth (parts (K m.node) (is_nowhere (D.place m.node)) _ q) w.0)
          ]

          stays : Stay ≡ Leave → ⊥
          stays h = cc

          after : cond (is_nowhere (E.place m.node)) Stay Leave ≡ Leave → E.place m.node ≢ Spot.Nowhere
          after h p = stays (sym (ap (λ s. cond (is_nowhere s) Stay Leave) p) ∙ h)

      go : (b : Bool) → is_leave m.how ≡ b → cond {A = Option NodeId} b (unless_in new m.node) None ≡ Some n → IsChanged D E n
      go false f g = cc
      go true f g =
          let o = old-is new m.node n g in
          let w = places (is_loose K D m.node) refl (leave-is m.how f) in
          subst (IsChanged D E) o.0 (not-new-old D E K G x l m.node (placed_known E x.after m.node w.1) o.1, inl (λ q. w.1 (sym q ∙ w.0)))

  abbrev by_rows : List NodeId
  by_rows = flat_map (changes_by_row new) G.rows

  abbrev by_registers : List NodeId
  by_registers = flat_map (changes_by_register new) G.regs

  abbrev by_loose : List NodeId
  by_loose = flat_map (λ (m : Loose). one_or_none (loose_leaver new m)) G.loose

  pub told-changed : (n : NodeId) → Has (changes_told new G) n → IsChanged D E n
  told-changed n h = elim (has-append (by_rows ++ by_registers) by_loose n h) [
    | inl j ↦ elim (has-append by_rows by_registers n j) [
      | inl k ↦ (let r = has-flat_map (changes_by_row new) G.rows n k in told-by-row r.0 n r.1 r.2)
      | inr k ↦ (let r = has-flat_map (changes_by_register new) G.regs n k in told-by-register r.0 n r.1 r.2)
    ]
    | inr j ↦ (let m = has-flat_map (λ (m : Loose). one_or_none (loose_leaver new m)) G.loose n j in told-loose m.0 n m.1 (one-is (loose_leaver new m.0) n m.2))
  ]

  -- ## Who differs is told

  in-rows : (r : RowMarks) (n : NodeId) → Has G.rows r → Has (changes_by_row new r) n → Has (changes_told new G) n
  in-rows r n i h = append_left (by_rows ++ by_registers) by_loose n (append_left by_rows by_registers n (flat_map-has (changes_by_row new) G.rows r n i h))

  in-registers : (r : RegStep) (n : NodeId) → Has G.regs r → Has (changes_by_register new r) n → Has (changes_told new G) n
  in-registers r n i h = append_left (by_rows ++ by_registers) by_loose n (append_right by_rows by_registers n (flat_map-has (changes_by_register new) G.regs r n i h))

  in-loose : (m : Loose) (n : NodeId) → Has G.loose m → loose_leaver new m ≡ Some n → Has (changes_told new G) n
  in-loose m n i e = append_right (by_rows ++ by_registers) by_loose n (flat_map-has (λ (m : Loose). one_or_none (loose_leaver new m)) G.loose m n i (is-one (loose_leaver new m) n e))

  -- whoever stood in a cell and doesn't now
  from-row : (n r : NodeId) (a : CellId) → D.place n ≡ Spot.Row r a → D.place n ≢ E.place n → Has (changes_told new G) n
  from-row n r a p apart =
      let k = kept-mark K (l.grows r) (cell_with a n true) (shown D x.before n r a p) in
      go k.slot.full k.slot k.there k.same k.mark refl
    where
      go : (b : Bool) (t : Slot) → Has (content E r) t → SameCell (cell_with a n true) t → Has (step_row K (l.grows r)) (step_cell K a n true t.full) → t.full ≡ b → Has (changes_told new G) n
      go true t i same h f = absurd (apart (p ∙ sym (stands E x.after n r a (has-cell (content E r) t a n true i (sym same.0) (sym same.1) f))))
      go false t i same h f =
          let y : Has (step_row K (l.grows r)) (Touch a n Leave) = subst (λ b. Has (step_row K (l.grows r)) (step_cell K a n true b)) f h in
          let q = row-listed D E K G x l r (has-any tells (step_row K (l.grows r)) (Touch a n Leave) y refl) in
          let z : Has (spread q.0.marks) (Touch a n Leave) = subst (λ ms. Has ms (Touch a n Leave)) (sym (row-look D E K G x l q.0 q.1)) (subst (λ j. Has (step_row K (l.grows j)) (Touch a n Leave)) (sym q.2) y) in
          in-rows q.0 n q.1 (append_left (flat_map (λ (m : Mark). one_or_none (leaver m)) q.0.marks) (one_or_none (row_changed new q.0)) n
          (flat_map-has (λ (m : Mark). one_or_none (leaver m)) q.0.marks (Mark.Touch a n Leave) n (from-spread q.0.marks (Touch a n Leave) (touch-not a n Leave) z) (inl refl)))

  -- whoever is in a register that differs
  register-apart : (f : FieldId) → D.held f ≢ E.held f → (r : RegStep) × Has G.regs r × (r.field ≡ f) × (same_option same_node r.before r.after ≡ false)
  register-apart f apart =
      let differ : same_option same_node (D.held f) (E.held f) ≡ false = go (same_option same_node (D.held f) (E.held f)) refl in
      let r = register-listed D E K G x l f (or-left (not (same_option same_node (D.held f) (E.held f))) (holds_mentioned K (D.held f)) (ap not differ)) in
      let w = register-look D E K G x l r.0 r.1 in
      (r.0, r.1, r.2, (λ i. same_option same_node (w.0 i) (w.1 i)) ∙ ap (λ g. same_option same_node (D.held g) (E.held g)) r.2 ∙ differ)
    where
      go : (b : Bool) → same_option same_node (D.held f) (E.held f) ≡ b → b ≡ false
      go true e = absurd (apart (same-held (D.held f) (E.held f) e))
      go false e = refl

  by-register : (r : RegStep) (n : NodeId) → Has G.regs r → same_option same_node r.before r.after ≡ false → Has (one_or_none r.before ++ one_or_none (unless_in new r.field.node)) n → Has (changes_told new G) n
  by-register r n i e h = in-registers r n i (subst (λ b. Has (cond b [] (one_or_none r.before ++ one_or_none (unless_in new r.field.node))) n) (sym e) h)

  from-register : (n : NodeId) (f : FieldId) → D.place n ≡ Spot.Register f → D.place n ≢ E.place n → Has (changes_told new G) n
  from-register n f p apart =
      let held = (x.before.one_held n f).1 p in
      let r = register-apart f (λ q. apart (p ∙ sym ((x.after.one_held n f).0 (sym q ∙ held)))) in
      let w = register-look D E K G x l r.0 r.1 in
      by-register r.0 n r.1 r.3 (append_left (one_or_none r.0.before) (one_or_none (unless_in new r.0.field.node)) n (is-one r.0.before n (w.0 ∙ ap D.held r.2 ∙ held)))

  -- whoever was nowhere and stands somewhere now
  from-nowhere : (n : NodeId) → IsSome (D.nodes n) → K n ≡ true → D.place n ≡ Spot.Nowhere → D.place n ≢ E.place n → Has (changes_told new G) n
  from-nowhere n known named p apart = go (same_node n root) refl
    where
      somewhere : is_nowhere (E.place n) ≡ false
      somewhere = elim (nowhere-or-not (E.place n)) [ inl w ↦ absurd (apart (p ∙ sym w.1)) | inr w ↦ w.0 ]

      leaves : loose_leaver new (record { node = n; how = Leave }) ≡ Some n
      leaves = is-old new n (old-not-new D E K G x l n known)

      go : (b : Bool) → same_node n root ≡ b → Has (changes_told new G) n
      go true e = absurd (apart (p ∙ sym (ap E.place (same_node-true n root e) ∙ x.after.root_nowhere)))
      go false e = in-loose (record { node = n; how = Leave }) n
          (loose-listed D E K G x l n (record { node = n; how = Leave })
          ((λ i. cond {A = Option Loose} (named i && is_nowhere (p i) && not (e i)) (Some (record { node = n; how = cond (somewhere i) Stay Leave })) None))) leaves

  -- a node of which the row differs
  of-row : (n : NodeId) → IsSome (D.nodes n) → content D n ≢ content E n → Has (changes_told new G) n
  of-row n known apart = go (list_any cell_differs (step_row K (l.grows n))) refl
    where
      go : (b : Bool) → list_any cell_differs (step_row K (l.grows n)) ≡ b → Has (changes_told new G) n
      go false e = absurd (apart (same-content K (l.grows n) e))
      go true e =
          let y = any-has cell_differs (step_row K (l.grows n)) e in
          let q = row-listed D E K G x l n (has-any tells (step_row K (l.grows n)) y.0 y.1 (differing-tells y.0 y.2)) in
          let z : Has (spread q.0.marks) y.0 = subst (λ ms. Has ms y.0) (sym (row-look D E K G x l q.0 q.1)) (subst (λ j. Has (step_row K (l.grows j)) y.0) (sym q.2) y.1) in
          let some : list_any differs q.0.marks ≡ true = has-any differs q.0.marks (as_mark y.0) (from-spread q.0.marks y.0 (differing-not-counted y.0 y.2) z) (differing-mark y.0 y.2) in
          in-rows q.0 n q.1 (append_right (flat_map (λ (m : Mark). one_or_none (leaver m)) q.0.marks) (one_or_none (row_changed new q.0)) n
          (is-one (row_changed new q.0) n (ap (λ b. cond {A = Option NodeId} b (unless_in new q.0.node) None) some ∙ ap (unless_in new) q.2 ∙ is-old new n (old-not-new D E K G x l n known))))

  -- and one of which a register differs
  of-register : (n : NodeId) (f : FieldId) → IsSome (D.nodes n) → f.node ≡ n → D.held f ≢ E.held f → Has (changes_told new G) n
  of-register n f known at apart =
      let r = register-apart f apart in
      by-register r.0 n r.1 r.3 (append_right (one_or_none r.0.before) (one_or_none (unless_in new r.0.field.node)) n
      (is-one (unless_in new r.0.field.node) n (ap (λ (f : FieldId). unless_in new f.node) r.2 ∙ ap (unless_in new) at ∙ is-old new n (old-not-new D E K G x l n known))))

  pub changed-told : (n : NodeId) → IsChanged D E n → Has (changes_told new G) n
  changed-told n (known, why) = go why
    where
      moved : D.place n ≢ E.place n → (s : Spot) → D.place n ≡ s → Has (changes_told new G) n
      moved apart Spot.Nowhere p = from-nowhere n known (l.covers.changed n (known, inl apart)) p apart
      moved apart (Spot.Row r a) p = from-row n r a p apart
      moved apart (Spot.Register f) p = from-register n f p apart

      go : (D.place n ≢ E.place n) ⊎ (content D n ≢ content E n) ⊎ ((f : FieldId) × (f.node ≡ n) × (D.held f ≢ E.held f)) → Has (changes_told new G) n
      go (inl apart) = moved apart (D.place n) refl
      go (inr (inl apart)) = of-row n known apart
      go (inr (inr w)) = of-register n w.0 known w.1 w.2
