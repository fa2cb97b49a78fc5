-- Whom a step mentions it lists: loose, or where it stands.
use Rattle.std.proofs.Common.{◌≡◌, Bool, true, false, ◌||◌, ◌&&◌, not, List, ◌∷◌, map, Option, Some, None, cond, refl, sym, ap, ◌∙◌, subst, inl, inr}
use Rattle.std.specs.List.{flat_map, list_any}
use Rattle.st_ids.specs.Listing.{Has, item_of}
use Rattle.st_ids.specs.Order.{field_cmp, node_cmp, same_node}
use Rattle.st_ids.specs.Root.{root}
use Rattle.st_ids.proofs.Listings.{item_of-has}
use Rattle.st_ids.proofs.Orders.{field_cmp_exact, field_cmp_total, node_cmp_exact, node_cmp_total, same_node-itself}
use Rattle.st_ids.specs.declared.names.CellId.{CellId}
use Rattle.st_ids.specs.declared.names.FieldId.{FieldId}
use Rattle.st_ids.specs.declared.names.NodeId.{NodeId}
use Rattle.st_kind.specs.Named.{Nodes}
use Rattle.st_marks.specs.declared.marks.How.TheVariants.{Stay, Leave}
use Rattle.st_marks.specs.declared.marks.Loose.{Loose}
use Rattle.st_marks.specs.declared.marks.RegStep.{RegStep}
use Rattle.st_marks.specs.declared.marks.RowMarks.{RowMarks}
use Rattle.st_marks.specs.declared.places.Slot.{Slot}
use Rattle.st_marks.specs.declared.places.Spot.{Spot}
use Rattle.st_marks.specs.declared.steps.Step.{Step}
use Rattle.st_marks.specs.Document.{Document}
use Rattle.st_marks.specs.Embedding.{is_among, is_nowhere, tells}
use Rattle.st_marks.specs.Extends.{GainsItems, IsExtendedBy, no_more, item_gained, item_kept}
use Rattle.st_marks.specs.Intent.{same_option}
use Rattle.st_marks.specs.Listings.{cells_before, nodes_loose, nodes_standing, one_or_none, placed_before}
use Rattle.st_marks.specs.Register.{holds_mentioned}
use Rattle.st_marks.specs.Row.{Counted, Touch, SameCell, merge, spread, step_cell, step_row}
use Rattle.st_marks.specs.Step.{IsStep}
use Rattle.st_marks.proofs.Climb.{shown}
use Rattle.st_marks.proofs.Members.{append_left, append_right, flat_map-has, has-any, map-has}
use Rattle.st_rows.proofs.KindLaws.{spread-merge}
use Rattle.st_lemmas.proofs.Bools.{or-right}

pub among : (xs : List NodeId) (n : NodeId) → Has xs n → is_among xs n ≡ true
among xs n h = has-any (λ m. same_node m n) xs n h (same_node-itself n)

-- who is full in a row before, and named, is told by its mark
touched : (m : Nodes) (n : NodeId) {c d : List Slot} (g : GainsItems SameCell c d) → m n ≡ true → (a : CellId) → Has c (record { cell = a; node = n; full = true })
    → (list_any tells (step_row m g) ≡ true) × Has (nodes_standing (cells_before (step_row m g))) n
touched m n no_more e a h = absurd h
touched m n (item_gained g) e a h = let r = touched m n g e a h in (refl, r.1)
touched m n (item_kept {x = s} {y = t} same g) e a (inl q) = go s.full (ap (λ (u : Slot). u.full) q) t.full
  where
    node : s.node ≡ n
    node = ap (λ (u : Slot). u.node) q

    named : m s.node ≡ true
    named = ap m node ∙ e

    go : (b : Bool) → b ≡ true → (z : Bool) → (list_any tells (step_cell m s.cell s.node b z ∷ step_row m g) ≡ true) × Has (nodes_standing (cells_before (step_cell m s.cell s.node b z ∷ step_row m g))) n
    go true w true =
        subst (λ k. (list_any tells (cond k (Touch s.cell s.node Stay) Counted ∷ step_row m g) ≡ true) × Has (nodes_standing (cells_before (cond k (Touch s.cell s.node Stay) Counted ∷ step_row m g))) n) (sym named) (refl, inl node)
    go true w false = (refl, inl node)
    go false w z = cc
touched m n (item_kept {x = s} {y = t} same g) e a (inr h) =
    let r = touched m n g e a h in
    (or-right (tells (step_cell m s.cell s.node s.full t.full)) (list_any tells (step_row m g)) r.0, behind s.full t.full r.1)
  where
    behind : (b z : Bool) → Has (nodes_standing (cells_before (step_row m g))) n → Has (nodes_standing (cells_before (step_cell m s.cell s.node b z ∷ step_row m g))) n
    behind true true w = at (m s.node)
      where
        at : (k : Bool) → Has (nodes_standing (cells_before (cond k (Touch s.cell s.node Stay) Counted ∷ step_row m g))) n
        at true = inr w
        at false = w
    behind true false w = inr w
    behind false true w = w
    behind false false w = w

module _ (D E : Document) (S : Step) (x : IsExtendedBy D E) (s : IsStep D E S) (n : NodeId) (named : s.mentioned n ≡ true) where
  abbrev m : Nodes
  m = s.mentioned

  in_row : (r : NodeId) (c : CellId) → D.place n ≡ Spot.Row r c → Has (placed_before S.rows (map (λ (g : RegStep). g.before) S.regs)) n
  in_row r c e =
      let t = touched m n (s.grows r) named c (shown D x.before n r c e) in
      let row : RowMarks = record { node = r; marks = merge (step_row m (s.grows r)) } in
      let at : item_of node_cmp (λ (q : RowMarks). q.node) S.rows r ≡ Some row = s.rows.at_each r ∙ ap (λ b. cond {A = Option RowMarks} b (Some row) None) t.0 in
      let has = (item_of-has node_cmp node_cmp_total node_cmp_exact (λ (q : RowMarks). q.node) S.rows r row at).0 in
      append_left (flat_map (λ (q : RowMarks). nodes_standing (cells_before (spread q.marks))) S.rows) (flat_map one_or_none (map (λ (g : RegStep). g.before) S.regs)) n
      (flat_map-has (λ (q : RowMarks). nodes_standing (cells_before (spread q.marks))) S.rows row n has (subst (λ ms. Has (nodes_standing (cells_before ms)) n) (sym (spread-merge (step_row m (s.grows r)))) t.1))

  in_register : (f : FieldId) → D.place n ≡ Spot.Register f → Has (placed_before S.rows (map (λ (g : RegStep). g.before) S.regs)) n
  in_register f e =
      let held : D.held f ≡ Some n = (x.before.one_held n f).1 e in
      let reg : RegStep = record { field = f; before = D.held f; after = E.held f } in
      let told : (not (same_option same_node (D.held f) (E.held f)) || holds_mentioned m (D.held f)) ≡ true = or-right (not (same_option same_node (D.held f) (E.held f))) (holds_mentioned m (D.held f)) (ap (holds_mentioned m) held ∙ named) in
      let at : item_of field_cmp (λ (g : RegStep). g.field) S.regs f ≡ Some reg = s.regs.at_each f ∙ ap (λ b. cond {A = Option RegStep} b (Some reg) None) told in
      let has = (item_of-has field_cmp field_cmp_total field_cmp_exact (λ (g : RegStep). g.field) S.regs f reg at).0 in
      append_right (flat_map (λ (q : RowMarks). nodes_standing (cells_before (spread q.marks))) S.rows) (flat_map one_or_none (map (λ (g : RegStep). g.before) S.regs)) n
      (flat_map-has one_or_none (map (λ (g : RegStep). g.before) S.regs) (D.held f) n (map-has (λ (g : RegStep). g.before) S.regs reg has) (subst (λ o. Has (one_or_none o) n) (sym held) (inl refl)))

  -- who stands somewhere is listed there
  pub mentioned_stood : is_nowhere (D.place n) ≡ false → is_among (placed_before S.rows (map (λ (g : RegStep). g.before) S.regs)) n ≡ true
  mentioned_stood e = go (D.place n) refl e
    where
      go : (p : Spot) → D.place n ≡ p → is_nowhere p ≡ false → is_among (placed_before S.rows (map (λ (g : RegStep). g.before) S.regs)) n ≡ true
      go Spot.Nowhere q e = cc
      go (Spot.Row r c) q e = among (placed_before S.rows (map (λ (g : RegStep). g.before) S.regs)) n (in_row r c q)
      go (Spot.Register f) q e = among (placed_before S.rows (map (λ (g : RegStep). g.before) S.regs)) n (in_register f q)

  -- who is nowhere is listed as loose
  pub mentioned_loose : is_nowhere (D.place n) ≡ true → same_node n root ≡ false → is_among (nodes_loose S.loose) n ≡ true
  mentioned_loose e z =
      let one : Loose = record { node = n; how = cond (is_nowhere (E.place n)) Stay Leave } in
      let at : item_of node_cmp (λ (l : Loose). l.node) S.loose n ≡ Some one = s.loose.at_each n ∙ (λ i. cond {A = Option Loose} (named i && e i && not (z i)) (Some one) None) in
      among (nodes_loose S.loose) n (map-has (λ (l : Loose). l.node) S.loose one (item_of-has node_cmp node_cmp_total node_cmp_exact (λ (l : Loose). l.node) S.loose n one at).0)
