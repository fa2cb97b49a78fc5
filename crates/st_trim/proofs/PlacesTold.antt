-- Where a listing tells nodes to stand, they stand in the earlier document; and of each node that it names it tells where.
use Rattle.std.proofs.Common.{◌≡◌, ◌≢◌, ℕ, zero, suc, Bool, true, false, not, List, Option, Some, None, refl, sym, ap, ◌∙◌, subst, inl, inr, option_and_then, unwrap_or, cond}
use Rattle.std.specs.List.{flat_map}
use Rattle.st_ids.specs.Listing.{Has}
use Rattle.st_ids.specs.Order.{same_node}
use Rattle.st_ids.specs.declared.names.CellId.{CellId}
use Rattle.st_ids.specs.declared.names.FieldId.{FieldId}
use Rattle.st_ids.specs.declared.names.NodeId.{NodeId}
use Rattle.st_kind.specs.Named.{Nodes}
use Rattle.st_marks.specs.declared.marks.How.{How}
use Rattle.st_marks.specs.declared.marks.How.TheVariants.{Stay, Leave}
use Rattle.st_marks.specs.declared.marks.Mark.{Mark}
use Rattle.st_marks.specs.declared.marks.RowMarks.{RowMarks}
use Rattle.st_marks.specs.declared.places.Spot.{Spot}
use Rattle.st_marks.specs.declared.steps.Step.{Step}
use Rattle.st_marks.specs.Document.{Document, above, climb, node_of}
use Rattle.st_marks.specs.Embedding.{is_among, tells}
use Rattle.st_marks.specs.Extends.{IsExtendedBy}
use Rattle.st_marks.specs.Intent.{same_option}
use Rattle.st_marks.specs.Listings.{nodes_new}
use Rattle.st_marks.specs.Register.{holds_mentioned}
use Rattle.st_marks.specs.Row.{Counted, Touch, spread, step_cell, step_row}
use Rattle.st_marks.proofs.Climb.{shown, stands}
use Rattle.st_marks.proofs.Members.{append_left, append_right, flat_map-has, has-any, has-append, has-flat_map}
use Rattle.st_puts.proofs.Basics.{register-not-nowhere, row-not-nowhere}
use Rattle.st_puts.proofs.StepRows.{cell_with, kept-mark, touch-step}
use Rattle.st_climb.specs.Upwards.{AreUpwards}
use Rattle.st_puts.specs.inside.First.{first_at}
use Rattle.st_puts.specs.inside.Spots.{held_spot, stood_by}
use Rattle.st_puts.proofs.Firsts.{first-is, is-first}
use Rattle.st_puts.proofs.Marks.{from-spread, in-spread}
use Rattle.st_rows.proofs.Documents.{can_hold}
use Rattle.st_lemmas.proofs.Bools.{or-right}
use Rattle.st_trim.specs.Trimmed.{AreMentionedByStep, ListsStep}
use Rattle.st_trim.specs.inside.Told.{changes_told, stood_before, stood_in_register, stood_in_row}
use Rattle.st_trim.proofs.DifferingNodes.{changed-told, told-changed}
use Rattle.st_trim.proofs.ListingItems.{among-has, has-among, register-listed, register-look, row-listed, row-look}

abbrev Pair : Type 0
Pair = NodeId × Spot

touch-not : (a : CellId) (n : NodeId) (h : How) → Touch a n h ≡ Counted → ⊥
touch-not a n h e = cc

-- who is told of a mark
stood-is : (r : NodeId) (m : Mark) (n : NodeId) (p : Spot) → Has (stood_by r m) (n, p) → (a : CellId) × (h : How) × (m ≡ Mark.Touch a n h) × (Spot.Row r a ≡ p)
stood-is r (Mark.Skip k) n p i = absurd i
stood-is r (Mark.Gap c) n p i = absurd i
stood-is r (Mark.Touch c k h) n p (inl e) = (c, h, ap (λ (z : Pair). Mark.Touch c z.0 h) e, ap (λ (z : Pair). z.1) e)
stood-is r (Mark.Touch c k h) n p (inr i) = absurd i
stood-is r (Mark.Make c k b) n p i = absurd i
stood-is r (Mark.Fill c k) n p i = absurd i

held-is : (f : FieldId) (o : Option NodeId) (n : NodeId) (p : Spot) → Has (held_spot f o) (n, p) → (o ≡ Some n) × (Spot.Register f ≡ p)
held-is f None n p h = absurd h
held-is f (Some k) n p (inl q) = (ap (λ (z : Pair). Some z.0) q, ap (λ (z : Pair). z.1) q)
held-is f (Some k) n p (inr q) = absurd q

is-held : (f : FieldId) (o : Option NodeId) (n : NodeId) → o ≡ Some n → Has (held_spot f o) (n, Spot.Register f)
is-held f o n e = subst (λ o. Has (held_spot f o) (n, Spot.Register f)) (sym e) (inl refl)

module _ (D E : Document) (K : Nodes) (G : Step) (x : IsExtendedBy D E) (l : ListsStep D E K G) where
  abbrev in_cells : List Pair
  in_cells = flat_map stood_in_row G.rows

  abbrev in_fields : List Pair
  in_fields = flat_map stood_in_register G.regs

  -- ## What is told is so

  row-right : (r : RowMarks) (n : NodeId) (p : Spot) → Has G.rows r → Has (stood_in_row r) (n, p) → D.place n ≡ p
  row-right r n p i h =
      let m = has-flat_map (stood_by r.node) r.marks (n, p) h in
      let w = stood-is r.node m.0 n p m.2 in
      let y : Has (spread r.marks) (Touch w.0 n w.1) = in-spread r.marks (Touch w.0 n w.1) (touch-not w.0 n w.1) (subst (Has r.marks) w.2 m.1) in
      let t = touch-step K (l.grows r.node) (can_hold E x.after r.node).once w.0 n w.1 (subst (λ ms. Has ms (Touch w.0 n w.1)) (row-look D E K G x l r i) y) in
      stands D x.before n r.node w.0 t.0 ∙ w.3

  pub told_right : (n : NodeId) (p : Spot) → Has (stood_before G) (n, p) → D.place n ≡ p
  told_right n p h = elim (has-append in_cells in_fields (n, p) h) [
    | inl j ↦ (let r = has-flat_map stood_in_row G.rows (n, p) j in row-right r.0 n p r.1 r.2)
    | inr j ↦ (let r = has-flat_map stood_in_register G.regs (n, p) j in
        let w = held-is r.0.field r.0.before n p r.2 in
        (x.before.one_held n r.0.field).0 (sym (register-look D E K G x l r.0 r.1).0 ∙ w.0) ∙ w.1)
  ]

  -- ## Who is named is told

  -- a named node that stands in a cell is touched there
  touched : (n r : NodeId) (a : CellId) → K n ≡ true → D.place n ≡ Spot.Row r a → (h : How) × Has (step_row K (l.grows r)) (Touch a n h)
  touched n r a named p =
      let k = kept-mark K (l.grows r) (cell_with a n true) (shown D x.before n r a p) in
      go k.slot.full k.mark
    where
      go : (b : Bool) → Has (step_row K (l.grows r)) (step_cell K a n true b) → (h : How) × Has (step_row K (l.grows r)) (Touch a n h)
      go true h = (Stay, subst (λ b. Has (step_row K (l.grows r)) (cond b (Touch a n Stay) Counted)) named h)
      go false h = (Leave, h)

  pub named_told : (n : NodeId) (p : Spot) → K n ≡ true → D.place n ≡ p → p ≢ Spot.Nowhere → Has (stood_before G) (n, p)
  named_told n Spot.Nowhere named e some = absurd (some refl)
  named_told n (Spot.Row r a) named e some =
      let t = touched n r a named e in
      let q = row-listed D E K G x l r (has-any tells (step_row K (l.grows r)) (Touch a n t.0) t.1 refl) in
      let y : Has (spread q.0.marks) (Touch a n t.0) = subst (λ ms. Has ms (Touch a n t.0)) (sym (row-look D E K G x l q.0 q.1)) (subst (λ j. Has (step_row K (l.grows j)) (Touch a n t.0)) (sym q.2) t.1) in
      append_left in_cells in_fields (n, Spot.Row r a) (flat_map-has stood_in_row G.rows q.0 (n, Spot.Row r a) q.1
      (flat_map-has (stood_by q.0.node) q.0.marks (Mark.Touch a n t.0) (n, Spot.Row r a) (from-spread q.0.marks (Touch a n t.0) (touch-not a n t.0) y) (inl (λ i. (n, Spot.Row (q.2 i) a)))))
  named_told n (Spot.Register f) named e some =
      let held = (x.before.one_held n f).1 e in
      let holds : holds_mentioned K (D.held f) ≡ true = ap (holds_mentioned K) held ∙ named in
      let r = register-listed D E K G x l f (or-right (not (same_option same_node (D.held f) (E.held f))) (holds_mentioned K (D.held f)) holds) in
      let before : r.0.before ≡ Some n = (register-look D E K G x l r.0 r.1).0 ∙ ap D.held r.2 ∙ held in
      append_right in_cells in_fields (n, Spot.Register f) (flat_map-has stood_in_register G.regs r.0 (n, Spot.Register f) r.1
      (subst (λ (g : FieldId). Has (held_spot r.0.field r.0.before) (n, Spot.Register g)) r.2 (is-held r.0.field r.0.before n before)))

  -- ## The nodes above

  module _ (at : NodeId → Option Spot) (told : (n : NodeId) → at n ≡ first_at (stood_before G) n) where
    abbrev up : NodeId → Option NodeId
    up n = node_of (unwrap_or (at n) Spot.Nowhere)

    place_told : (n : NodeId) → K n ≡ true → unwrap_or (at n) Spot.Nowhere ≡ D.place n
    place_told n named = ap (λ o. unwrap_or o Spot.Nowhere) (told n) ∙ go (first_at (stood_before G) n) refl (D.place n) refl
      where
        apart : (s : Spot) → s ≢ Spot.Nowhere → D.place n ≡ s → first_at (stood_before G) n ≡ None → ⊥
        apart s some p e = let q = is-first (stood_before G) n s (named_told n s named p some) in let bad : Some q.0 ≡ None = sym q.1 ∙ e in cc

        go : (o : Option Spot) → first_at (stood_before G) n ≡ o → (s : Spot) → D.place n ≡ s → unwrap_or o Spot.Nowhere ≡ D.place n
        go (Some p) e s q = sym (told_right n p (first-is (stood_before G) n p e))
        go None e Spot.Nowhere q = sym q
        go None e (Spot.Row r a) q = absurd (apart (Spot.Row r a) (row-not-nowhere r a) q e)
        go None e (Spot.Register f) q = absurd (apart (Spot.Register f) (register-not-nowhere f) q e)

    climb_told : (j : ℕ) (s : NodeId) → K s ≡ true → climb up j s ≡ climb (above D) j s
    climb_told zero s named = refl
    climb_told (suc j) s named = ap (λ p. option_and_then (climb up j) (node_of p)) (place_told s named) ∙ go (above D s) refl (λ p e. climb_told j p e)
      where
        go : (o : Option NodeId) → above D s ≡ o → ((p : NodeId) → K p ≡ true → climb up j p ≡ climb (above D) j p)
            → option_and_then (climb up j) o ≡ option_and_then (climb (above D) j) o
        go None e rest = refl
        go (Some p) e rest = rest p (l.covers.closed s p named e)

    -- those that are told to differ, and all above them, are what the step mentions
    pub upwards_mentioned : (begins has : Nodes) → ((n : NodeId) → begins n ≡ is_among (changes_told (is_among (nodes_new G.new)) G) n) → AreUpwards up begins has → AreMentionedByStep D E has
    upwards_mentioned begins has told_of up n = (
      λ e. (let r = (up n).0 e in
          let c = told-changed D E K G x l r.0 (among-has (changes_told (is_among (nodes_new G.new)) G) r.0 (sym (told_of r.0) ∙ r.1)) in
          (r.0, c, r.2, sym (climb_told r.2 r.0 (l.covers.changed r.0 c)) ∙ r.3)),
      λ m. (up n).1 (
        m.0,
        told_of m.0 ∙ has-among (changes_told (is_among (nodes_new G.new)) G) m.0 (changed-told D E K G x l m.0 m.1),
        m.2,
        climb_told m.2 m.0 (l.covers.changed m.0 m.1) ∙ m.3,
      ),
    )
