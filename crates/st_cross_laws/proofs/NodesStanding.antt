-- Who stands in rows and registers of two documents, as the rows and registers of a step between them tell.
use Rattle.std.proofs.Common.{◌≡◌, Bool, true, false, not, List, [], ◌∷◌, ◌++◌, map, Option, Some, None, MatchOption, cond, refl, sym, ap, ◌∙◌, subst, inl, inr}
use Rattle.std.specs.List.{flat_map, list_any}
use Rattle.st_ids.specs.Listing.{Has, IsListing, IsRising, item_of}
use Rattle.st_ids.specs.Order.{field_cmp, node_cmp, same_node}
use Rattle.st_ids.proofs.Listings.{has-item_of, item_of-has}
use Rattle.st_ids.proofs.Orders.{field_cmp_exact, field_cmp_total, node_cmp_exact, node_cmp_total, same_node-itself, same_node-true}
use Rattle.st_ids.specs.declared.names.CellId.{CellId}
use Rattle.st_ids.specs.declared.names.FieldId.{FieldId}
use Rattle.st_ids.specs.declared.names.NodeId.{NodeId}
use Rattle.st_kind.specs.Named.{Nodes}
use Rattle.st_lemmas.proofs.Bools.{or-right, true-false}
use Rattle.st_marks.specs.declared.marks.How.TheVariants.{Stay}
use Rattle.st_marks.specs.declared.marks.RegStep.{RegStep}
use Rattle.st_marks.specs.declared.marks.RowMarks.{RowMarks}
use Rattle.st_marks.specs.declared.places.Slot.{Slot}
use Rattle.st_marks.specs.declared.places.Spot.{Spot}
use Rattle.st_marks.specs.Document.{Document, IsSoundInForm, content}
use Rattle.st_marks.specs.Embedding.{is_among, is_nowhere, row_marks, tells}
use Rattle.st_marks.specs.Extends.{GainsItems, no_more, item_gained, item_kept}
use Rattle.st_marks.specs.Intent.{same_option}
use Rattle.st_marks.specs.Listings.{cells_after, cells_before, nodes_standing, one_or_none, placed_after, placed_before}
use Rattle.st_marks.specs.Register.{holds_mentioned, step_register}
use Rattle.st_marks.specs.Row.{CellMark, Counted, Gap, Touch, Make, Fill, SameCell, merge, spread, step_cell, step_row}
use Rattle.st_marks.proofs.Climb.{shown, stands}
use Rattle.st_marks.proofs.Members.{any-has, append_left, append_right, flat_map-has, has-any, has-append, has-flat_map, has-map, map-has}
use Rattle.st_marks.proofs.Shared.{same-held}
use Rattle.st_over.proofs.Listed.{any_read}
use Rattle.st_puts.proofs.Basics.{one-is}
use Rattle.st_puts.proofs.ListedIf.{or_parts, shown-None, shown-Some}
use Rattle.st_read_laws.specs.Reading.{read}
use Rattle.st_rows.proofs.KindLaws.{spread-merge}

pub among : (xs : List NodeId) (n : NodeId) → Has xs n → is_among xs n ≡ true
among xs n h = has-any (λ m. same_node m n) xs n h (same_node-itself n)

pub among-has : (xs : List NodeId) (n : NodeId) → is_among xs n ≡ true → Has xs n
among-has xs n e = let r = any-has (λ m. same_node m n) xs e in subst (Has xs) (same_node-true r.0 n r.2) r.1

abbrev pub full_slot : CellId → NodeId → Slot
full_slot a n = record { cell = a; node = n; full = true }

-- ## Marks that are read tell the same

pub standing_read : (l : Bool) (xs : List CellMark) → nodes_standing (cells_before (map (read l) xs)) ≡ nodes_standing (cells_before xs)
standing_read l [] = refl
standing_read l (Counted ∷ xs) = standing_read l xs
standing_read true (Gap c ∷ xs) = standing_read true xs
standing_read false (Gap c ∷ xs) = standing_read false xs
standing_read l (Touch c n h ∷ xs) = ap (λ ns. n ∷ ns) (standing_read l xs)
standing_read l (Make c n b ∷ xs) = standing_read l xs
standing_read l (Fill c n ∷ xs) = standing_read l xs

standing_after_read : (l : Bool) (xs : List CellMark) → nodes_standing (cells_after (map (read l) xs)) ≡ nodes_standing (cells_after xs)
standing_after_read l [] = refl
standing_after_read l (Counted ∷ xs) = standing_after_read l xs
standing_after_read true (Gap c ∷ xs) = standing_after_read true xs
standing_after_read false (Gap c ∷ xs) = standing_after_read false xs
standing_after_read l (Touch c n h ∷ xs) = ap (λ ns. cond (not (Rattle.st_marks.specs.How.is_leave h)) (n ∷ []) [] ++ ns) (standing_after_read l xs)
standing_after_read l (Make c n b ∷ xs) = ap (λ ns. cond b (n ∷ []) [] ++ ns) (standing_after_read l xs)
standing_after_read l (Fill c n ∷ xs) = ap (λ ns. n ∷ ns) (standing_after_read l xs)

-- ## One row of a step

slot_is : (s : Slot) (n : NodeId) → s.full ≡ true → s.node ≡ n → s ≡ full_slot s.cell n
slot_is s n e q = λ i. record { cell = s.cell; node = q i; full = e i }

module _ (K : Nodes) where
  -- who is told to stand in it before stands there
  before_there : {c d : List Slot} (g : GainsItems SameCell c d) (n : NodeId) → Has (nodes_standing (cells_before (step_row K g))) n → (a : CellId) × Has c (full_slot a n)
  before_there no_more n h = absurd h
  before_there (item_gained g) n h = before_there g n h
  before_there (item_kept {x = s} {y = t} {xs = cs} same g) n h = go s.full refl t.full (λ w. let r = before_there g n w in (r.0, inr r.1)) h
    where
      go : (b : Bool) → s.full ≡ b → (z : Bool) → (Has (nodes_standing (cells_before (step_row K g))) n → (a : CellId) × Has (s ∷ cs) (full_slot a n))
          → Has (nodes_standing (cells_before (step_cell K s.cell s.node b z ∷ step_row K g))) n → (a : CellId) × Has (s ∷ cs) (full_slot a n)
      go true e true rest w = at (K s.node) w
        where
          at : (k : Bool) → Has (nodes_standing (cells_before (cond k (Touch s.cell s.node Stay) Counted ∷ step_row K g))) n → (a : CellId) × Has (s ∷ cs) (full_slot a n)
          at true (inl q) = (s.cell, inl (slot_is s n e q))
          at true (inr w) = rest w
          at false w = rest w
      go true e false rest (inl q) = (s.cell, inl (slot_is s n e q))
      go true e false rest (inr w) = rest w
      go false e true rest w = rest w
      go false e false rest w = rest w

  -- who is told to stand in it after stands there
  after_there : {c d : List Slot} (g : GainsItems SameCell c d) (n : NodeId) → Has (nodes_standing (cells_after (step_row K g))) n → (a : CellId) × Has d (full_slot a n)
  after_there no_more n h = absurd h
  after_there (item_gained {y = t} {ys = ds} g) n h = go t.full refl (λ w. let r = after_there g n w in (r.0, inr r.1)) h
    where
      go : (z : Bool) → t.full ≡ z → (Has (nodes_standing (cells_after (step_row K g))) n → (a : CellId) × Has (t ∷ ds) (full_slot a n))
          → Has (cond z (t.node ∷ []) [] ++ nodes_standing (cells_after (step_row K g))) n → (a : CellId) × Has (t ∷ ds) (full_slot a n)
      go true e rest (inl q) = (t.cell, inl (slot_is t n e q))
      go true e rest (inr w) = rest w
      go false e rest w = rest w
  after_there (item_kept {x = s} {y = t} {ys = ds} same g) n h = go s.full t.full refl (λ w. let r = after_there g n w in (r.0, inr r.1)) h
    where
      here : t.full ≡ true → s.node ≡ n → (a : CellId) × Has (t ∷ ds) (full_slot a n)
      here e q = (t.cell, inl (slot_is t n e (sym same.1 ∙ q)))

      go : (b : Bool) (z : Bool) → t.full ≡ z → (Has (nodes_standing (cells_after (step_row K g))) n → (a : CellId) × Has (t ∷ ds) (full_slot a n))
          → Has (nodes_standing (cells_after (step_cell K s.cell s.node b z ∷ step_row K g))) n → (a : CellId) × Has (t ∷ ds) (full_slot a n)
      go true true e rest w = at (K s.node) w
        where
          at : (k : Bool) → Has (nodes_standing (cells_after (cond k (Touch s.cell s.node Stay) Counted ∷ step_row K g))) n → (a : CellId) × Has (t ∷ ds) (full_slot a n)
          at true (inl q) = here e q
          at true (inr w) = rest w
          at false w = rest w
      go true false e rest w = rest w
      go false true e rest (inl q) = here e q
      go false true e rest (inr w) = rest w
      go false false e rest w = rest w

  -- who is named and stands in it before is told
  before_told : {c d : List Slot} (g : GainsItems SameCell c d) (n : NodeId) (a : CellId) → K n ≡ true → Has c (full_slot a n)
      → (list_any tells (step_row K g) ≡ true) × Has (nodes_standing (cells_before (step_row K g))) n
  before_told no_more n a e h = absurd h
  before_told (item_gained g) n a e h = (refl, (before_told g n a e h).1)
  before_told (item_kept {x = s} {y = t} same g) n a e (inl q) = go s.full (ap (λ (u : Slot). u.full) q) t.full
    where
      node : s.node ≡ n
      node = ap (λ (u : Slot). u.node) q

      go : (b : Bool) → b ≡ true → (z : Bool) → (list_any tells (step_cell K s.cell s.node b z ∷ step_row K g) ≡ true) × Has (nodes_standing (cells_before (step_cell K s.cell s.node b z ∷ step_row K g))) n
      go true w true =
          subst (λ k. (list_any tells (cond k (Touch s.cell s.node Stay) Counted ∷ step_row K g) ≡ true) × Has (nodes_standing (cells_before (cond k (Touch s.cell s.node Stay) Counted ∷ step_row K g))) n) (sym (ap K node ∙ e)) (refl, inl node)
      go true w false = (refl, inl node)
      go false w z = cc
  before_told (item_kept {x = s} {y = t} same g) n a e (inr h) =
      let r = before_told g n a e h in (or-right (tells (step_cell K s.cell s.node s.full t.full)) (list_any tells (step_row K g)) r.0, behind s.full t.full r.1)
    where
      behind : (b z : Bool) → Has (nodes_standing (cells_before (step_row K g))) n → Has (nodes_standing (cells_before (step_cell K s.cell s.node b z ∷ step_row K g))) n
      behind true true w = at (K s.node)
        where
          at : (k : Bool) → Has (nodes_standing (cells_before (cond k (Touch s.cell s.node Stay) Counted ∷ step_row K g))) n
          at true = inr w
          at false = w
      behind true false w = inr w
      behind false true w = w
      behind false false w = w

  -- and who stands in it after
  after_told : {c d : List Slot} (g : GainsItems SameCell c d) (n : NodeId) (a : CellId) → K n ≡ true → Has d (full_slot a n)
      → (list_any tells (step_row K g) ≡ true) × Has (nodes_standing (cells_after (step_row K g))) n
  after_told no_more n a e h = absurd h
  after_told (item_gained {y = t} g) n a e (inl q) =
      (refl, subst (λ z. Has (cond z (t.node ∷ []) [] ++ nodes_standing (cells_after (step_row K g))) n) (sym (ap (λ (u : Slot). u.full) q)) (inl (ap (λ (u : Slot). u.node) q)))
  after_told (item_gained {y = t} g) n a e (inr h) = (refl, append_right (cond t.full (t.node ∷ []) []) (nodes_standing (cells_after (step_row K g))) n (after_told g n a e h).1)
  after_told (item_kept {x = s} {y = t} same g) n a e (inl q) = go s.full t.full (ap (λ (u : Slot). u.full) q)
    where
      node : s.node ≡ n
      node = same.1 ∙ ap (λ (u : Slot). u.node) q

      go : (b z : Bool) → z ≡ true → (list_any tells (step_cell K s.cell s.node b z ∷ step_row K g) ≡ true) × Has (nodes_standing (cells_after (step_cell K s.cell s.node b z ∷ step_row K g))) n
      go true true w =
          subst (λ k. (list_any tells (cond k (Touch s.cell s.node Stay) Counted ∷ step_row K g) ≡ true) × Has (nodes_standing (cells_after (cond k (Touch s.cell s.node Stay) Counted ∷ step_row K g))) n) (sym (ap K node ∙ e)) (refl, inl node)
      go false true w = (refl, inl node)
      go b false w = cc
  after_told (item_kept {x = s} {y = t} same g) n a e (inr h) =
      let r = after_told g n a e h in (or-right (tells (step_cell K s.cell s.node s.full t.full)) (list_any tells (step_row K g)) r.0, behind s.full t.full r.1)
    where
      behind : (b z : Bool) → Has (nodes_standing (cells_after (step_row K g))) n → Has (nodes_standing (cells_after (step_cell K s.cell s.node b z ∷ step_row K g))) n
      behind true true w = at (K s.node)
        where
          at : (k : Bool) → Has (nodes_standing (cells_after (cond k (Touch s.cell s.node Stay) Counted ∷ step_row K g))) n
          at true = inr w
          at false = w
      behind true false w = w
      behind false true w = inr w
      behind false false w = w

-- ## All rows and registers, read so

module _ (l : Bool) (A B : Document) (K : Nodes) (before : IsSoundInForm A) (after : IsSoundInForm B) (rows : List RowMarks) (regs : List RegStep)
    (grows : (n : NodeId) → GainsItems SameCell (content A n) (content B n))
    (listed : IsListing node_cmp (λ (r : RowMarks). r.node) rows (λ n. row_marks n (map (read l) (step_row K (grows n)))))
    (held : (f : FieldId) → MatchOption (item_of field_cmp (λ (r : RegStep). r.field) regs f) (step_register f K (A.held f) (B.held f) ≡ None) (λ r. r ≡ record { field = f; before = A.held f; after = B.held f }))
    (rising : IsRising field_cmp (λ (r : RegStep). r.field) regs) where
  abbrev cells : NodeId → List CellMark
  cells n = step_row K (grows n)

  cells_of : (r : RowMarks) → Has rows r → spread r.marks ≡ map (read l) (cells r.node)
  cells_of r i =
      ap (λ (q : RowMarks). spread q.marks) (shown-Some (list_any tells (map (read l) (cells r.node))) (record { node = r.node; marks = merge (map (read l) (cells r.node)) }) r
      (sym (listed.at_each r.node) ∙ has-item_of node_cmp node_cmp_total node_cmp_exact (λ (q : RowMarks). q.node) rows r listed.rising i))
      ∙ spread-merge (map (read l) (cells r.node))

  row_there : (n : NodeId) → list_any tells (cells n) ≡ true → (r : RowMarks) × Has rows r × (spread r.marks ≡ map (read l) (cells n)) × (r.node ≡ n)
  row_there n e =
      let row : RowMarks = record { node = n; marks = merge (map (read l) (cells n)) } in
      let i = item_of-has node_cmp node_cmp_total node_cmp_exact (λ (q : RowMarks). q.node) rows n row (listed.at_each n ∙ ap (λ b. cond b (Some row) None) (any_read l (cells n) ∙ e)) in
      (row, i.0, spread-merge (map (read l) (cells n)), refl)

  reg_is : (r : RegStep) → Has regs r → r ≡ record { field = r.field; before = A.held r.field; after = B.held r.field }
  reg_is r i = subst (λ o. MatchOption o (step_register r.field K (A.held r.field) (B.held r.field) ≡ None) (λ q. q ≡ record { field = r.field; before = A.held r.field; after = B.held r.field }))
      (has-item_of field_cmp field_cmp_total field_cmp_exact (λ (q : RegStep). q.field) regs r rising i) (held r.field)

  reg_there : (f : FieldId) → (step_register f K (A.held f) (B.held f) ≡ None → ⊥) → Has regs (record { field = f; before = A.held f; after = B.held f })
  reg_there f some = go (item_of field_cmp (λ (r : RegStep). r.field) regs f) refl (held f)
    where
      go : (o : Option RegStep) → item_of field_cmp (λ (r : RegStep). r.field) regs f ≡ o → MatchOption o (step_register f K (A.held f) (B.held f) ≡ None) (λ r. r ≡ record { field = f; before = A.held f; after = B.held f })
          → Has regs (record { field = f; before = A.held f; after = B.held f })
      go None e h = absurd (some h)
      go (Some r) e h = subst (Has regs) h (item_of-has field_cmp field_cmp_total field_cmp_exact (λ (q : RegStep). q.field) regs f r e).0

  silent : (f : FieldId) → step_register f K (A.held f) (B.held f) ≡ None → (A.held f ≡ B.held f) × (holds_mentioned K (A.held f) ≡ false)
  silent f e =
      let p = or_parts (not (same_option same_node (A.held f) (B.held f))) (holds_mentioned K (A.held f)) (shown-None _ (record { field = f; before = A.held f; after = B.held f }) e) in
      (same-held (A.held f) (B.held f) (not_false (same_option same_node (A.held f) (B.held f)) p.0), p.1)
    where
      not_false : (b : Bool) → not b ≡ false → b ≡ true
      not_false true h = refl
      not_false false h = cc

  abbrev befores : List (Option NodeId)
  befores = map (λ (r : RegStep). r.before) regs

  abbrev afters : List (Option NodeId)
  afters = map (λ (r : RegStep). r.after) regs

  abbrev rows_stood : List NodeId
  rows_stood = flat_map (λ (r : RowMarks). nodes_standing (cells_before (spread r.marks))) rows

  abbrev rows_stand : List NodeId
  rows_stand = flat_map (λ (r : RowMarks). nodes_standing (cells_after (spread r.marks))) rows

  -- ## Before

  stood_so : (n : NodeId) → Has (placed_before rows befores) n → is_nowhere (A.place n) ≡ false
  stood_so n h = elim (has-append rows_stood (flat_map one_or_none befores) n h) [
    | inl i ↦ (let r = has-flat_map (λ (r : RowMarks). nodes_standing (cells_before (spread r.marks))) rows n i in
        let w = before_there K (grows r.0.node) n (subst (λ ns. Has ns n) (ap (λ xs. nodes_standing (cells_before xs)) (cells_of r.0 r.1) ∙ standing_read l (cells r.0.node)) r.2) in
        ap is_nowhere (stands A before n r.0.node w.0 w.1))
    | inr i ↦ (let o = has-flat_map one_or_none befores n i in
        let r = has-map (λ (r : RegStep). r.before) regs o.0 o.1 in
        ap is_nowhere ((before.one_held n r.0.field).0 (sym (ap (λ (q : RegStep). q.before) (reg_is r.0 r.1)) ∙ r.2 ∙ one-is o.0 n o.2)))
  ]

  all_stood : (n : NodeId) → K n ≡ true → is_nowhere (A.place n) ≡ false → Has (placed_before rows befores) n
  all_stood n e h = go (A.place n) refl h
    where
      go : (p : Spot) → A.place n ≡ p → is_nowhere p ≡ false → Has (placed_before rows befores) n
      go Spot.Nowhere q h = cc
      go (Spot.Row r a) q h =
          let t = before_told K (grows r) n a e (shown A before n r a q) in
          let w = row_there r t.0 in
          append_left rows_stood (flat_map one_or_none befores) n (flat_map-has (λ (r : RowMarks). nodes_standing (cells_before (spread r.marks))) rows w.0 n w.1
          (subst (λ ns. Has ns n) (sym (ap (λ xs. nodes_standing (cells_before xs)) w.2 ∙ standing_read l (cells r))) t.1))
      go (Spot.Register f) q h =
          let there = (before.one_held n f).1 q in
          let i = reg_there f (λ z. true-false (ap (holds_mentioned K) there ∙ e) (silent f z).1) in
          append_right rows_stood (flat_map one_or_none befores) n (flat_map-has one_or_none befores (A.held f) n (map-has (λ (r : RegStep). r.before) regs (record { field = f; before = A.held f; after = B.held f }) i)
          (subst (λ o. Has (one_or_none o) n) (sym there) (inl refl)))

  pub stood_is : (n : NodeId) → K n ≡ true → is_among (placed_before rows befores) n ≡ not (is_nowhere (A.place n))
  stood_is n e = go (is_among (placed_before rows befores) n) refl (is_nowhere (A.place n)) refl
    where
      go : (a : Bool) → is_among (placed_before rows befores) n ≡ a → (b : Bool) → is_nowhere (A.place n) ≡ b → a ≡ not b
      go true p true q = absurd (true-false q (stood_so n (among-has _ n p)))
      go true p false q = refl
      go false p true q = refl
      go false p false q = absurd (true-false (among _ n (all_stood n e q)) p)

  -- ## After

  stand_so : (n : NodeId) → Has (placed_after rows afters) n → is_nowhere (B.place n) ≡ false
  stand_so n h = elim (has-append rows_stand (flat_map one_or_none afters) n h) [
    | inl i ↦ (let r = has-flat_map (λ (r : RowMarks). nodes_standing (cells_after (spread r.marks))) rows n i in
        let w = after_there K (grows r.0.node) n (subst (λ ns. Has ns n) (ap (λ xs. nodes_standing (cells_after xs)) (cells_of r.0 r.1) ∙ standing_after_read l (cells r.0.node)) r.2) in
        ap is_nowhere (stands B after n r.0.node w.0 w.1))
    | inr i ↦ (let o = has-flat_map one_or_none afters n i in
        let r = has-map (λ (r : RegStep). r.after) regs o.0 o.1 in
        ap is_nowhere ((after.one_held n r.0.field).0 (sym (ap (λ (q : RegStep). q.after) (reg_is r.0 r.1)) ∙ r.2 ∙ one-is o.0 n o.2)))
  ]

  all_stand : (n : NodeId) → K n ≡ true → is_nowhere (B.place n) ≡ false → Has (placed_after rows afters) n
  all_stand n e h = go (B.place n) refl h
    where
      go : (p : Spot) → B.place n ≡ p → is_nowhere p ≡ false → Has (placed_after rows afters) n
      go Spot.Nowhere q h = cc
      go (Spot.Row r a) q h =
          let t = after_told K (grows r) n a e (shown B after n r a q) in
          let w = row_there r t.0 in
          append_left rows_stand (flat_map one_or_none afters) n (flat_map-has (λ (r : RowMarks). nodes_standing (cells_after (spread r.marks))) rows w.0 n w.1
          (subst (λ ns. Has ns n) (sym (ap (λ xs. nodes_standing (cells_after xs)) w.2 ∙ standing_after_read l (cells r))) t.1))
      go (Spot.Register f) q h =
          let there = (after.one_held n f).1 q in
          let i = reg_there f (λ z. let s = silent f z in true-false (ap (holds_mentioned K) (s.0 ∙ there) ∙ e) s.1) in
          append_right rows_stand (flat_map one_or_none afters) n (flat_map-has one_or_none afters (B.held f) n (map-has (λ (r : RegStep). r.after) regs (record { field = f; before = A.held f; after = B.held f }) i)
          (subst (λ o. Has (one_or_none o) n) (sym there) (inl refl)))

  pub stand_is : (n : NodeId) → K n ≡ true → is_among (placed_after rows afters) n ≡ not (is_nowhere (B.place n))
  stand_is n e = go (is_among (placed_after rows afters) n) refl (is_nowhere (B.place n)) refl
    where
      go : (a : Bool) → is_among (placed_after rows afters) n ≡ a → (b : Bool) → is_nowhere (B.place n) ≡ b → a ≡ not b
      go true p true q = absurd (true-false q (stand_so n (among-has _ n p)))
      go true p false q = refl
      go false p true q = refl
      go false p false q = absurd (true-false (among _ n (all_stand n e q)) p)
