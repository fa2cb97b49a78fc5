-- The cells that are found are those by which a rule is broken, and the fields that are found those that the rules name.
use Rattle.std.proofs.Common.{◌≡◌, ◌↔◌, ◌==◌, ℕ, Bool, true, false, cond, ◌&&◌, List, [], ◌∷◌, ◌++◌, Option, Some, None, refl, sym, ap, ◌∙◌, subst, inl, inr, ◌⊎◌, arith, append_assoc}
use Rattle.std.proofs.lemmas.Bool.Decides.{nat_tests}
use Rattle.std.specs.List.{flat_map}
use Rattle.std.specs.Prelude.{Err, Ok, OnOk, Result}
use Rattle.st_ids.specs.Listing.{Has, IsRising}
use Rattle.st_ids.specs.Order.{node_cmp, same_node}
use Rattle.st_ids.specs.declared.names.CellId.{CellId}
use Rattle.st_ids.specs.declared.names.FieldId.{FieldId}
use Rattle.st_ids.proofs.Orders.{same_node-itself, same_node-true}
use Rattle.st_lemmas.proofs.Bools.{and-both, and-true, or-cases, or-left, or-right, true-false}
use Rattle.st_marks.specs.declared.changes.Change.{Change}
use Rattle.st_marks.specs.declared.marks.RowMarks.{RowMarks}
use Rattle.st_marks.specs.declared.steps.Step.{Step}
use Rattle.st_marks.specs.Agree.{SameIfBoth}
use Rattle.st_marks.specs.Listings.{Listing, ListsCell, is_among_cells, listing_before_change, listing_before_step}
use Rattle.st_marks.proofs.Members.{append_left, append_right, flat_map-has, has-append, has-flat_map}
use Rattle.st_clash.specs.Adds.{Adds}
use Rattle.st_clash.specs.Cells.{AreCellsOnce, CellsClash, IsMadeAgain, IsShownTwice}
use Rattle.st_clash.specs.Owners.{same_if_told}
use Rattle.st_clash.specs.declared.seen.Seen.{Seen}
use Rattle.st_clash.specs.inside.Bad.{bad_cells, row_naming}
use Rattle.st_clash.specs.inside.Made.{made_in_rows, named_in_rows, only_if}
use Rattle.st_clash.specs.inside.Seen.{IsTable, apart_cell, apart_from, row_seen, same_seen}
use Rattle.st_clash.proofs.Names.{again_told, among-has, has-among, naming_told}
use Rattle.st_clash.proofs.OwnersTold.{same_told, told_same}
use Rattle.st_clash.proofs.SeenCells.{cells_shown}
use Rattle.st_clash.proofs.Tables.{Tells}

ok_along : {T E : Type 0} (r : Result T E) (P Q : Type 0) → (P → Q) → OnOk r P → OnOk r Q
ok_along (Ok v) P Q f h = f h
ok_along (Err e) P Q f h = tt

-- ## Cells that are shown twice

eq-nat : (a b : ℕ) → (a == b) ≡ true → a ≡ b
eq-nat a b e = grind (arith, nat_tests, e)

nat-eq : (a b : ℕ) → a ≡ b → (a == b) ≡ true
nat-eq a b e = grind (arith, nat_tests, e)

-- seen at one place, with one owner where both tell it
abbrev AreOne : Seen → Seen → Type 0
AreOne s t = (s.row ≡ t.row) × (s.place ≡ t.place) × SameIfBoth s.owner t.owner

one_seen : (s t : Seen) → same_seen s t ≡ true → AreOne s t
one_seen s t e =
    let p = and-true (same_node s.row t.row && (s.place == t.place)) (same_if_told same_node s.owner t.owner) e in
    let q = and-true (same_node s.row t.row) (s.place == t.place) p.0 in
    (same_node-true s.row t.row q.0, eq-nat s.place t.place q.1, told_same same_node same_node-true s.owner t.owner p.1)

seen_one : (s t : Seen) → AreOne s t → same_seen s t ≡ true
seen_one s t w = and-both _ _ (and-both _ _ (ap (same_node s.row) (sym w.0) ∙ same_node-itself s.row) (nat-eq s.place t.place w.1)) (same_told same_node same_node-itself s.owner t.owner w.2)

module _ (L M : Listing) (ps qs : List Seen) (at : CellId → Option Seen) (mine : (s : Seen) → Has ps s ↔ ListsCell L s.cell s.row s.place s.owner)
    (theirs : (s : Seen) → Has qs s ↔ ListsCell M s.cell s.row s.place s.owner) (table : IsTable qs at) where
  otherwise : (s t : Seen) (c : CellId) (b : Bool) → same_seen s t ≡ b → Has (cond b [] (s.cell ∷ [])) c → (AreOne s t → ⊥) × (s.cell ≡ c)
  otherwise s t c true e h = absurd h
  otherwise s t c false e (inl f) = (λ w. true-false (seen_one s t w) e, f)
  otherwise s t c false e (inr h) = absurd h

  apart : (s : Seen) (c : CellId) (o : Option Seen) → Tells qs s.cell o → Has (apart_from s o) c → (t : Seen) × Has qs t × (t.cell ≡ s.cell) × (AreOne s t → ⊥) × (s.cell ≡ c)
  apart s c None t h = absurd h
  apart s c (Some t) w h = let r = otherwise s t c (same_seen s t) refl h in (t, w.0, w.1, r.0, r.1)

  pub twice_told : (c : CellId) → Has (flat_map (apart_cell at) ps) c → IsShownTwice L M c
  twice_told c h =
      let r = has-flat_map (apart_cell at) ps c h in
      let a = apart r.0 c (at r.0.cell) (table r.0.cell) r.2 in (
        r.0.row,
        a.0.row,
        r.0.place,
        a.0.place,
        r.0.owner,
        a.0.owner,
        subst (λ z. ListsCell L z r.0.row r.0.place r.0.owner) a.4 ((mine r.0).0 r.1),
        subst (λ z. ListsCell M z a.0.row a.0.place a.0.owner) (a.2 ∙ a.4) ((theirs a.0).0 a.1),
        a.3,
      )

  told_apart : (s t : Seen) (b : Bool) → same_seen s t ≡ b → (AreOne s t → ⊥) → Has (cond b [] (s.cell ∷ [])) s.cell
  told_apart s t true e w = absurd (w (one_seen s t e))
  told_apart s t false e w = inl refl

  told : (s : Seen) (o : Option Seen) → Tells qs s.cell o → (t : Seen) → Has qs t → t.cell ≡ s.cell → ((t : Seen) → Has qs t → t.cell ≡ s.cell → AreOne s t → ⊥) → Has (apart_from s o) s.cell
  told s None w t h e all = absurd (w t h e)
  told s (Some u) w t h e all = told_apart s u (same_seen s u) refl (all u w.0 w.1)

  pub told_twice : AreCellsOnce M → (c : CellId) → IsShownTwice L M c → Has (flat_map (apart_cell at) ps) c
  told_twice once c d =
      let s : Seen = record { cell = c; row = d.0; place = d.2; owner = d.4 } in
      let t : Seen = record { cell = c; row = d.1; place = d.3; owner = d.5 } in
      flat_map-has (apart_cell at) ps s c ((mine s).1 d.6) (told s (at c) (table c) t ((theirs t).1 d.7) refl (λ u h e one.
      let same = once c u.row d.1 u.place d.3 u.owner d.5 (subst (λ z. ListsCell M z u.row u.place u.owner) e ((theirs u).0 h)) d.7 in
      d.8 (one.0 ∙ same.0, one.1 ∙ same.1, subst (SameIfBoth d.4) same.2 one.2)))

-- ## All together

module _ (C : Change) (S : Step) (rise : IsRising node_cmp (λ (r : RowMarks). r.node) C.rows) (rise_over : IsRising node_cmp (λ (r : RowMarks). r.node) S.rows)
    (at : CellId → Option Seen) (table : IsTable (flat_map row_seen S.rows) at) (has : CellId → Bool) (has_is : (c : CellId) → has c ≡ is_among_cells (bad_cells C.rows S.rows at) c) where
  abbrev IsBad : CellId → Type 0
  IsBad c = IsShownTwice (listing_before_change C) (listing_before_step S) c ⊎ IsMadeAgain (listing_before_change C) (listing_before_step S) c ⊎ IsMadeAgain (listing_before_step S) (listing_before_change C) c

  abbrev twice : List CellId
  twice = flat_map (apart_cell at) (flat_map row_seen C.rows)

  abbrev again : List CellId
  again = flat_map (only_if (is_among_cells (made_in_rows S.rows))) (named_in_rows C.rows)

  abbrev again_back : List CellId
  again_back = flat_map (only_if (is_among_cells (made_in_rows C.rows))) (named_in_rows S.rows)

  bad_told : (c : CellId) → has c ≡ true → IsBad c
  bad_told c e = elim (has-append (twice ++ again) again_back c (among-has (bad_cells C.rows S.rows at) c (sym (has_is c) ∙ e))) [
    | inl h ↦ elim (has-append twice again c h) [
      | inl k ↦ inl (twice_told (listing_before_change C) (listing_before_step S) (flat_map row_seen C.rows) (flat_map row_seen S.rows) at (cells_shown (listing_before_change C) C.rows rise (λ n. refl)) (cells_shown (listing_before_step S) S.rows rise_over (λ n. refl)) table c k)
      | inr k ↦ inr (inl ((again_told C.rows rise S.rows c).0 k))
    ]
    | inr h ↦ inr (inr ((again_told S.rows rise_over C.rows c).0 h))
  ]

  told_bad : AreCellsOnce (listing_before_step S) → (c : CellId) → IsBad c → has c ≡ true
  told_bad once c w = has_is c ∙ has-among (bad_cells C.rows S.rows at) c (elim w [
    | inl k ↦ append_left (twice ++ again) again_back c (append_left twice again c (told_twice (listing_before_change C) (listing_before_step S) (flat_map row_seen C.rows) (flat_map row_seen S.rows) at (cells_shown (listing_before_change C) C.rows rise (λ n. refl)) (cells_shown (listing_before_step S) S.rows rise_over (λ n. refl)) table once c k))
    | inr k ↦ elim k [
      | inl k ↦ append_left (twice ++ again) again_back c (append_right twice again c ((again_told C.rows rise S.rows c).1 k))
      | inr k ↦ append_right (twice ++ again) again_back c ((again_told S.rows rise_over C.rows c).1 k)
    ]
  ])

  abbrev found : List FieldId
  found = flat_map (row_naming has) C.rows ++ flat_map (row_naming has) S.rows

  pub clash_told : (f : FieldId) → Has found f → CellsClash (listing_before_change C) (listing_before_step S) f
  clash_told f h = elim (has-append (flat_map (row_naming has) C.rows) (flat_map (row_naming has) S.rows) f h) [
    | inl k ↦ (let d = (naming_told C.rows rise has f).0 k in (d.0, bad_told d.0 d.1, d.2, or-left _ _ d.3, d.4))
    | inr k ↦ (let d = (naming_told S.rows rise_over has f).0 k in (d.0, bad_told d.0 d.1, d.2, or-right _ _ d.3, d.4))
  ]

  pub told_clash : AreCellsOnce (listing_before_step S) → (f : FieldId) → CellsClash (listing_before_change C) (listing_before_step S) f → Has found f
  told_clash once f d = elim (or-cases _ _ d.3) [
    | inl k ↦ append_left (flat_map (row_naming has) C.rows) (flat_map (row_naming has) S.rows) f ((naming_told C.rows rise has f).1 (d.0, told_bad once d.0 d.1, d.2, k, d.4))
    | inr k ↦ append_right (flat_map (row_naming has) C.rows) (flat_map (row_naming has) S.rows) f ((naming_told S.rows rise_over has f).1 (d.0, told_bad once d.0 d.1, d.2, k, d.4))
  ]

-- a set of the cells by which a rule is broken
abbrev pub IsBadSet : List RowMarks → List RowMarks → (CellId → Bool) → Type 0
IsBadSet rows others has = (at : CellId → Option Seen) × IsTable (flat_map row_seen others) at × ((c : CellId) → has c ≡ is_among_cells (bad_cells rows others at) c)

pub cells_added : (C : Change) (S : Step) → IsRising node_cmp (λ (r : RowMarks). r.node) C.rows → IsRising node_cmp (λ (r : RowMarks). r.node) S.rows
    → (rows others : List RowMarks) → rows ≡ C.rows → others ≡ S.rows → (has : CellId → Bool) → IsBadSet rows others has → (old now : List FieldId) → {T E : Type 0} (r : Result T E)
    → OnOk r (now ≡ old ++ flat_map (row_naming has) rows ++ flat_map (row_naming has) others)
    → OnOk r (Adds old now (CellsClash (listing_before_change C) (listing_before_step S)) (AreCellsOnce (listing_before_step S)))
cells_added C S rise rise_over rows others e f has w old now r = ok_along r _ _ (λ h.
    let v : IsBadSet C.rows S.rows has = subst (λ ys. IsBadSet C.rows ys has) f (subst (λ xs. IsBadSet xs others has) e w) in (
      flat_map (row_naming has) C.rows ++ flat_map (row_naming has) S.rows,
      h ∙ (λ i. old ++ flat_map (row_naming has) (e i) ++ flat_map (row_naming has) (f i)) ∙ append_assoc old (flat_map (row_naming has) C.rows) (flat_map (row_naming has) S.rows),
      clash_told C S rise rise_over v.0 v.1 has v.2,
      told_clash C S rise rise_over v.0 v.1 has v.2,
    ))
