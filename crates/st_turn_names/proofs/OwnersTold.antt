-- The cells that are owned too early, and the rows that name them.
use Rattle.std.proofs.Common.{◌≡◌, ◌↔◌, ◌&&◌, ◌+◌, ℕ, Bool, true, false, not, List, [], ◌∷◌, ◌++◌, Some, None, refl, sym, ap, ◌∙◌, subst, inl, inr, IsTrue, append_assoc}
use Rattle.std.specs.List.{flat_map}
use Rattle.std.proofs.lemmas.Option.{same_Some}
use Rattle.st_ids.specs.Listing.{Has, IsRising}
use Rattle.st_ids.specs.Order.{node_cmp}
use Rattle.st_ids.specs.declared.names.CellId.{CellId}
use Rattle.st_ids.specs.declared.names.FieldId.{FieldId}
use Rattle.st_ids.specs.declared.names.NodeId.{NodeId}
use Rattle.st_kind.specs.Named.{Nodes}
use Rattle.st_lemmas.proofs.Bools.{and-both, and-true, or-cases, or-left, or-right}
use Rattle.st_marks.specs.declared.marks.Mark.{Mark}
use Rattle.st_marks.specs.declared.marks.RowMarks.{RowMarks}
use Rattle.st_marks.specs.declared.steps.Step.{Step}
use Rattle.st_marks.specs.Embedding.{is_among}
use Rattle.st_marks.specs.Listings.{Listing, ListsCell, is_among_cells, listing_after_step, listing_before_step, nodes_new}
use Rattle.st_marks.proofs.Members.{append_left, append_right, flat_map-has, has-append, has-flat_map}
use Rattle.st_clash.specs.Adds.{Adds}
use Rattle.st_clash.specs.declared.seen.Seen.{Seen}
use Rattle.st_clash.specs.inside.Bad.{row_naming}
use Rattle.st_clash.specs.inside.Made.{made_in_rows}
use Rattle.st_clash.specs.inside.Seen.{row_seen, seen_from}
use Rattle.st_clash.proofs.Names.{among-has, has-among, naming_told, pick, picked}
use Rattle.st_turn_names.proofs.SeenCells.{cells_shown}
use Rattle.st_turn_names.specs.Rules.{OwnersEarly}
use Rattle.st_turn_names.specs.inside.Early.{early_by, early_in, if_early}

module _ (made : Nodes) (cells : CellId → Bool) where
  -- ## Mark by mark

  -- a cell that is owned too early, as it is seen
  abbrev IsEarly : Seen → Type 0
  IsEarly s = (n : NodeId) × (s.owner ≡ Some n) × (made n ≡ true) × (cells s.cell ≡ false)

  one_early : (r : NodeId) (k : ℕ) (c d : CellId) (n : NodeId) → Has (if_early made cells c n) d → IsEarly (record { cell = c; row = r; place = k; owner = Some n }) × (c ≡ d)
  one_early r k c d n h =
      let p = picked (made n && not (cells c)) c d h in
      let q = and-true (made n) (not (cells c)) p.0 in
      ((n, refl, q.0, not_true (cells c) q.1), p.1)
    where
      not_true : (b : Bool) → not b ≡ true → b ≡ false
      not_true true e = cc
      not_true false e = refl

  early_one : (c : CellId) (n m : NodeId) → Some n ≡ Some m → made m ≡ true → cells c ≡ false → Has (if_early made cells c n) c
  early_one c n m e g h = pick (made n && not (cells c)) c c (and-both (made n) (not (cells c)) (ap made (same_Some n m e) ∙ g) (ap not h)) refl

  early_seen : (r : NodeId) (k : ℕ) (ms : List Mark) (d : CellId) → Has (flat_map (early_by made cells) ms) d → (s : Seen) × Has (seen_from r k ms) s × (s.cell ≡ d) × IsEarly s
  early_seen r k [] d h = absurd h
  early_seen r k (Mark.Skip j ∷ ms) d h = early_seen r (k + j) ms d h
  early_seen r k (Mark.Gap c ∷ ms) d h = let w = early_seen r (k + 1) ms d h in (w.0, inr w.1, w.2, w.3)
  early_seen r k (Mark.Make c n b ∷ ms) d h = early_seen r (k + 0) ms d h
  early_seen r k (Mark.Touch c n g ∷ ms) d h = elim (has-append (if_early made cells c n) (flat_map (early_by made cells) ms) d h) [
    | inl i ↦ let o = one_early r k c d n i in (record { cell = c; row = r; place = k; owner = Some n }, inl refl, o.1, o.0)
    | inr i ↦ let w = early_seen r (k + 1) ms d i in (w.0, inr w.1, w.2, w.3)
  ]
  early_seen r k (Mark.Fill c n ∷ ms) d h = elim (has-append (if_early made cells c n) (flat_map (early_by made cells) ms) d h) [
    | inl i ↦ let o = one_early r k c d n i in (record { cell = c; row = r; place = k; owner = Some n }, inl refl, o.1, o.0)
    | inr i ↦ let w = early_seen r (k + 1) ms d i in (w.0, inr w.1, w.2, w.3)
  ]

  here : (c : CellId) (n : NodeId) (more : List CellId) (r : NodeId) (k : ℕ) (s : Seen) → ◌≡◌ {A = Seen} (record { cell = c; row = r; place = k; owner = Some n }) s → IsEarly s → Has (if_early made cells c n ++ more) s.cell
  here c n more r k s e w =
      let same : c ≡ s.cell = ap (λ (q : Seen). q.cell) e in
      append_left (if_early made cells c n) more s.cell
      (subst (λ z. Has (if_early made cells c n) z) same (early_one c n w.0 (ap (λ (q : Seen). q.owner) e ∙ w.1) w.2 (ap cells same ∙ w.3)))

  none_here : (c : CellId) (r : NodeId) (k : ℕ) (s : Seen) (A : Type 0) → ◌≡◌ {A = Seen} (record { cell = c; row = r; place = k; owner = None }) s → IsEarly s → A
  none_here c r k s A e w = let bad : None ≡ Some w.0 = ap (λ (q : Seen). q.owner) e ∙ w.1 in absurd (cc)

  seen_early : (r : NodeId) (k : ℕ) (ms : List Mark) (s : Seen) → Has (seen_from r k ms) s → IsEarly s → Has (flat_map (early_by made cells) ms) s.cell
  seen_early r k [] s h w = absurd h
  seen_early r k (Mark.Skip j ∷ ms) s h w = seen_early r (k + j) ms s h w
  seen_early r k (Mark.Gap c ∷ ms) s (inl e) w = none_here c r k s (Has (flat_map (early_by made cells) ms) s.cell) e w
  seen_early r k (Mark.Gap c ∷ ms) s (inr h) w = seen_early r (k + 1) ms s h w
  seen_early r k (Mark.Make c n b ∷ ms) s h w = seen_early r (k + 0) ms s h w
  seen_early r k (Mark.Touch c n g ∷ ms) s (inl e) w = here c n (flat_map (early_by made cells) ms) r k s e w
  seen_early r k (Mark.Touch c n g ∷ ms) s (inr h) w = append_right (if_early made cells c n) (flat_map (early_by made cells) ms) s.cell (seen_early r (k + 1) ms s h w)
  seen_early r k (Mark.Fill c n ∷ ms) s (inl e) w = here c n (flat_map (early_by made cells) ms) r k s e w
  seen_early r k (Mark.Fill c n ∷ ms) s (inr h) w = append_right (if_early made cells c n) (flat_map (early_by made cells) ms) s.cell (seen_early r (k + 1) ms s h w)

  -- ## In rows

  rows_early : (rows : List RowMarks) (d : CellId) → Has (early_in made cells rows) d → (s : Seen) × Has (flat_map row_seen rows) s × (s.cell ≡ d) × IsEarly s
  rows_early rows d h =
      let r = has-flat_map (λ (r : RowMarks). flat_map (early_by made cells) r.marks) rows d h in
      let w = early_seen r.0.node 0 r.0.marks d r.2 in
      (w.0, flat_map-has row_seen rows r.0 w.0 r.1 w.1, w.2, w.3)

  early_rows : (rows : List RowMarks) (s : Seen) → Has (flat_map row_seen rows) s → IsEarly s → Has (early_in made cells rows) s.cell
  early_rows rows s h w =
      let r = has-flat_map row_seen rows s h in
      flat_map-has (λ (r : RowMarks). flat_map (early_by made cells) r.marks) rows r.0 s.cell r.1 (seen_early r.0.node 0 r.0.marks s r.2 w)

-- ## The rule

module _ (S T : Step) (made : Nodes) (cells p : CellId → Bool) (makes : (n : NodeId) → made n ≡ is_among (nodes_new S.new) n) (made_cells : (c : CellId) → cells c ≡ is_among_cells (made_in_rows S.rows) c)
    (is_bad : (c : CellId) → p c ≡ is_among_cells (early_in made cells T.rows) c) (first : IsRising node_cmp (λ (r : RowMarks). r.node) S.rows) (second : IsRising node_cmp (λ (r : RowMarks). r.node) T.rows) where
  abbrev L : Listing
  L = listing_after_step S

  abbrev M : Listing
  M = listing_before_step T

  abbrev Named : CellId → Type 0
  Named c = (n : NodeId) × (q : NodeId) × (k : ℕ) × ListsCell M c q k (Some n) × IsTrue (L.names.makes_node n) × (L.names.makes_cell c ≡ false)

  bad_named : (c : CellId) → p c ≡ true → Named c
  bad_named c e =
      let w = rows_early made cells T.rows c (among-has (early_in made cells T.rows) c (sym (is_bad c) ∙ e)) in
      let n = w.3.0 in
      let l = (cells_shown M T.rows second (λ n. refl) w.0).0 w.1 in (
        n,
        w.0.row,
        w.0.place,
        subst (λ d. ListsCell M d w.0.row w.0.place (Some n)) w.2 (subst (λ o. ListsCell M w.0.cell w.0.row w.0.place o) w.3.1 l),
        sym (makes n) ∙ w.3.2,
        sym (made_cells c) ∙ ap cells (sym w.2) ∙ w.3.3,
      )

  named_bad : (c : CellId) → Named c → p c ≡ true
  named_bad c d =
      let s : Seen = record { cell = c; row = d.1; place = d.2; owner = Some d.0 } in
      is_bad c ∙ has-among (early_in made cells T.rows) c (early_rows made cells T.rows s ((cells_shown M T.rows second (λ n. refl) s).1 d.3) (d.0, refl, makes d.0 ∙ d.4, made_cells c ∙ d.5))

  owners_told : (f : FieldId) → Has (flat_map (row_naming p) S.rows ++ flat_map (row_naming p) T.rows) f ↔ OwnersEarly L M f
  owners_told f = (to, back)
    where
      to : Has (flat_map (row_naming p) S.rows ++ flat_map (row_naming p) T.rows) f → OwnersEarly L M f
      to h = elim (has-append (flat_map (row_naming p) S.rows) (flat_map (row_naming p) T.rows) f h) [
        | inl i ↦ (let w = (naming_told S.rows first p f).0 i in let n = bad_named w.0 w.1 in (w.0, n.0, n.1, n.2, n.3, n.4, n.5, w.2, or-left (L.names.names_cell w.2 w.0) (M.names.names_cell w.2 w.0) w.3, w.4))
        | inr i ↦ (let w = (naming_told T.rows second p f).0 i in let n = bad_named w.0 w.1 in (w.0, n.0, n.1, n.2, n.3, n.4, n.5, w.2, or-right (L.names.names_cell w.2 w.0) (M.names.names_cell w.2 w.0) w.3, w.4))
      ]

      back : OwnersEarly L M f → Has (flat_map (row_naming p) S.rows ++ flat_map (row_naming p) T.rows) f
      back d =
          let e = named_bad d.0 (d.1, d.2, d.3, d.4, d.5, d.6) in
          elim (or-cases (L.names.names_cell d.7 d.0) (M.names.names_cell d.7 d.0) d.8) [
            | inl i ↦ append_left (flat_map (row_naming p) S.rows) (flat_map (row_naming p) T.rows) f ((naming_told S.rows first p f).1 (d.0, e, d.7, i, d.9))
            | inr i ↦ append_right (flat_map (row_naming p) S.rows) (flat_map (row_naming p) T.rows) f ((naming_told T.rows second p f).1 (d.0, e, d.7, i, d.9))
          ]

  pub owners_added : (old new : List FieldId) → new ≡ old ++ flat_map (row_naming p) S.rows ++ flat_map (row_naming p) T.rows → Adds old new (OwnersEarly L M) (Unit {0})
  owners_added old new e = (flat_map (row_naming p) S.rows ++ flat_map (row_naming p) T.rows, e ∙ append_assoc old (flat_map (row_naming p) S.rows) (flat_map (row_naming p) T.rows), (λ f h. (owners_told f).0 h), (λ u f d. (owners_told f).1 d))
