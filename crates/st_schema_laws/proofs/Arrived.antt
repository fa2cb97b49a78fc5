-- A document after a move, beside the document from which the moved nodes were taken away.
use Rattle.std.proofs.Common.{◌≡◌, ◌≢◌, ℕ, zero, suc, ◌+◌, ◌≤◌, Bool, true, false, cond, not, ◌||◌, List, [], ◌∷◌, ◌++◌, map, take, drop, filter, Option, Some, None, IsSome, is_some, option_map, option_and_then, refl, sym, ap, ◌∙◌, subst, inl, inr}
use Rattle.std.specs.List.{find}
use Rattle.std.specs.Option.{option_or, option_map_or}
use Rattle.st_ids.specs.Listing.{Has}
use Rattle.st_ids.specs.Order.{same_node, same_cell, same_field}
use Rattle.st_ids.specs.declared.names.CellId.{CellId}
use Rattle.st_ids.specs.declared.names.FieldId.{FieldId}
use Rattle.st_ids.specs.declared.names.NodeId.{NodeId}
use Rattle.st_ids.specs.declared.names.Rev.{Rev}
use Rattle.st_ids.proofs.Orders.{same_cell-true, same_cell-itself, same_field-true, same_field-itself}
use Rattle.st_marks.specs.declared.intents.Group.{Group}
use Rattle.st_marks.specs.declared.intents.Intent.{Intent}
use Rattle.st_marks.specs.declared.intents.Owned.{Owned}
use Rattle.st_marks.specs.declared.intents.Put.{Put}
use Rattle.st_marks.specs.declared.intents.To.{To}
use Rattle.st_marks.specs.declared.places.Spot.{Spot}
use Rattle.st_marks.specs.declared.verdicts.Verdict.{Verdict}
use Rattle.st_marks.specs.Document.{Document, IsSoundInForm, above, climb, node_of, content, is_cell, slot}
use Rattle.st_marks.specs.Intent.{Fits, clears, group_at, is_register, put_of}
use Rattle.st_marks.specs.CarryOut.{full, with_groups, with_names, place_after, unless_cleared, unless_put}
use Rattle.st_marks.specs.Verdict.{IsVerdict}
use Rattle.st_marks.specs.LiveTree.{owners_shown}
use Rattle.st_marks.proofs.Full.{unput_above}
use Rattle.st_marks.proofs.Lookups.{group_at-group, has-put, put-has, new_row_of-group}
use Rattle.st_marks.proofs.Members.{has-map, map-has}
use Rattle.st_marks.proofs.NewRows.{made_cell, row_cells}
use Rattle.st_edits.specs.New.{group_of}
use Rattle.st_edits.specs.Paths.{left_of, row_length}
use Rattle.st_edits.specs.Resolve.{cells_for, moved_to_field, moved_to_row}
use Rattle.st_edits.specs.declared.names.NameCounters.{NameCounters}
use Rattle.st_schema_laws.specs.Alike.{IsFrom}
use Rattle.st_schema_laws.proofs.Anchored.{row_with}
use Rattle.st_schema_laws.proofs.Named.{group_is}
use Rattle.st_schema_laws.proofs.Parted.{parted, parted_row, unless_among}
use Rattle.st_schema_laws.proofs.Rows.{among, among-has, has-among, not-among, owners_filtered}
use Rattle.st_schema_laws.proofs.Sound.{last_in_effect}
use Rattle.st_lemmas.proofs.Bools.{true-false}
use Rattle.st_edits.proofs.NewFits.{with_group-Some, with_has}
use Rattle.st_lemmas.proofs.Options.{option_or-None}
use Rattle.st_ids.proofs.Shared.{no_members}

cells_nodes : (rev : Rev) (c : ℕ) (ns : List NodeId) → map (λ (o : Owned). o.node) (cells_for rev c ns) ≡ ns
cells_nodes rev c [] = refl
cells_nodes rev c (n ∷ ns) = ap (λ l. n ∷ l) (cells_nodes rev (c + 1) ns)

-- no node that is moved is above itself, where none stands above the target
module _ (D : Document) (N : Intent) (ns : List NodeId) (m : NodeId) (clear_way : (z : NodeId) → IsFrom D z m → Has ns z → ⊥) (unput : (x : NodeId) → (Has ns x → ⊥) → put_of N x ≡ None) (up : (x : NodeId) → Has ns x → above (full D N) x ≡ Some m) where
  not_met : (k : ℕ) (y x : NodeId) → ((z : NodeId) → IsFrom D z y → Has ns z → ⊥) → Has ns x → climb (above (full D N)) k y ≡ Some x → ⊥
  not_met zero y x out h e = let same : y ≡ x = cc in out x (0, e) h
  not_met (suc k) y x out h e = go (above (full D N) y) refl (λ p o f. not_met k p x o h f) e
    where
      go : (o : Option NodeId) → above (full D N) y ≡ o → ((p : NodeId) → ((z : NodeId) → IsFrom D z p → Has ns z → ⊥) → climb (above (full D N)) k p ≡ Some x → ⊥) → option_and_then (climb (above (full D N)) k) o ≡ Some x → ⊥
      go None q rest f = cc
      go (Some p) q rest f = elim (unput_above D N y (unput y (λ i. out y (0, refl) i))) [
        | inl r ↦ (let bad : None ≡ Some p = sym r ∙ q in cc)
        | inr r ↦ rest p (λ z w. out z (suc w.0, ap (option_and_then (climb (above D) w.0)) (sym r ∙ q) ∙ w.1)) f
      ]

  pub no_ring : (x : NodeId) → Has ns x → (k : ℕ) → climb (above (full D N)) (suc k) x ≡ Some x → ⊥
  no_ring x h k e = not_met k m x clear_way h (ap (option_and_then (climb (above (full D N)) k)) (sym (up x h)) ∙ e)

-- ## Into a row

module _ (D : Document) (G : NameCounters) (m : NodeId) (i : ℕ) (ns : List NodeId) (sound : IsSoundInForm D) (fits : Fits D (moved_to_row D G m i ns)) (in_range : i ≤ row_length D m) where
  abbrev cells : List Owned
  cells = cells_for G.rev G.cells ns

  abbrev left : Option CellId
  left = left_of D m i

  abbrev N : Intent
  N = moved_to_row D G m i ns

  abbrev E : Document
  E = full D N

  abbrev F : Document
  F = parted D ns

  abbrev put_in_cell : Owned → Put
  put_in_cell o = record { node = o.node; to = To.Cell o.cell }

  has_group : (o : Owned) (os : List Owned) → cells ≡ o ∷ os → Has N.groups (record { node = m; after = left; cells = o ∷ os })
  has_group o os e = with_group-Some (group_of m left cells) [] (record { node = m; after = left; cells = o ∷ os }) (ap (group_of m left) e)

  its_group : (g : Group) → Has N.groups g → (g.node ≡ m) × (g.after ≡ left) × (g.cells ≡ cells)
  its_group g h = elim (with_has (group_of m left cells) [] g h) [ inl e ↦ group_is m left cells g e | inr k ↦ absurd k ]

  in_group : (o : Owned) → Has cells o → (g : Group) × Has N.groups g × (g.node ≡ m) × Has g.cells o
  in_group o h = go cells refl
    where
      go : (os : List Owned) → cells ≡ os → (g : Group) × Has N.groups g × (g.node ≡ m) × Has g.cells o
      go [] e = absurd (subst (λ os. Has os o) e h)
      go (p ∷ os) e = (record { node = m; after = left; cells = p ∷ os }, has_group p os e, refl, subst (λ os. Has os o) e h)

  cell_row : (o : Owned) → Has cells o → (with_names D N).row_of o.cell ≡ Some m
  cell_row o h =
      let g = in_group o h in
      (row_cells D N sound fits g.0.node o (made_cell D N sound fits g.0 o g.1 g.3)).0 ∙ ap (λ n. Some n) g.2

  cell_fresh : (o : Owned) → Has cells o → D.row_of o.cell ≡ None
  cell_fresh o h = let g = in_group o h in fits.fresh_cells o.cell (ap is_some (new_row_of-group N fits.itself g.0 o g.1 g.3))

  owner_of : (x : NodeId) → Has ns x → (o : Owned) × Has cells o × (o.node ≡ x)
  owner_of x h = has-map (λ (o : Owned). o.node) cells x (subst (λ l. Has l x) (sym (cells_nodes G.rev G.cells ns)) h)

  owner_moved : (o : Owned) → Has cells o → Has ns o.node
  owner_moved o h = subst (λ l. Has l o.node) (cells_nodes G.rev G.cells ns) (map-has (λ (o : Owned). o.node) cells o h)

  put_is : (o : Owned) → Has cells o → put_of N o.node ≡ Some (To.Cell o.cell)
  put_is o h = has-put N fits.itself (put_in_cell o) (map-has put_in_cell cells o h)

  unput : (x : NodeId) → (Has ns x → ⊥) → put_of N x ≡ None
  unput x out = go (put_of N x) refl
    where
      go : (o : Option To) → put_of N x ≡ o → put_of N x ≡ None
      go None e = e
      go (Some to) e =
          let o = has-map put_in_cell cells (record { node = x; to = to }) (put-has N x to e) in
          absurd (out (subst (Has ns) (ap (λ (p : Put). p.node) o.2) (owner_moved o.0 o.1)))

  put_some : (x : NodeId) → is_some (put_of N x) ≡ among ns x
  put_some x = go (among ns x) refl
    where
      go : (b : Bool) → among ns x ≡ b → is_some (put_of N x) ≡ among ns x
      go true e = let o = owner_of x (among-has ns x e) in ap is_some (ap (put_of N) (sym o.2) ∙ put_is o.0 o.1) ∙ sym e
      go false e = ap is_some (unput x (λ h. true-false (has-among ns x h) e)) ∙ sym e

  place_new : (o : Owned) → Has cells o → E.place o.node ≡ Spot.Row m o.cell
  place_new o h = ap (λ t. place_after (with_names D N).row_of N t (D.place o.node)) (put_is o h) ∙ ap (λ r. option_map_or (λ n. Spot.Row n o.cell) r Spot.Nowhere) (cell_row o h)

  full_new : (o : Owned) → Has cells o → is_cell o.cell (E.place o.node) ≡ true
  full_new o h = ap (is_cell o.cell) (place_new o h) ∙ same_cell-itself o.cell

  stays : (s : Spot) → unless_cleared N s ≡ s
  stays Spot.Nowhere = refl
  stays (Spot.Row n c) = refl
  stays (Spot.Register f) = refl

  full_old : (n : NodeId) (o : Owned) → Has (D.rows n) o → is_cell o.cell (E.place o.node) ≡ cond (not (among ns o.node)) (is_cell o.cell (D.place o.node)) false
  full_old n o h = go (among ns o.node) refl
    where
      other_cell : (q : Owned) → Has cells q → (b : Bool) → same_cell o.cell q.cell ≡ b → b ≡ false
      other_cell q k false e = refl
      other_cell q k true e =
          let bad : Some n ≡ None = sym ((sound.one_row o.cell n).1 (o.node, h)) ∙ ap D.row_of (same_cell-true o.cell q.cell e) ∙ cell_fresh q k in cc

      go : (b : Bool) → among ns o.node ≡ b → is_cell o.cell (E.place o.node) ≡ cond (not b) (is_cell o.cell (D.place o.node)) false
      go true e =
          let q = owner_of o.node (among-has ns o.node e) in
          ap (is_cell o.cell) (ap E.place (sym q.2) ∙ place_new q.0 q.1) ∙ other_cell q.0 q.1 (same_cell o.cell q.0.cell) refl
      go false e = ap (λ t. is_cell o.cell (place_after (with_names D N).row_of N t (D.place o.node))) (unput o.node (λ k. true-false (has-among ns o.node k) e)) ∙ ap (is_cell o.cell) (stays (D.place o.node))

  pub row_elsewhere : (n : NodeId) → n ≢ m → owners_shown (content E n) ≡ owners_shown (content F n)
  row_elsewhere n apart =
      (λ t. owners_shown (map (slot E) (none None t ++ with_groups N n (D.rows n)))) ∙ ap (λ os. owners_shown (map (slot E) os)) (ungrown (D.rows n))
      ∙ owners_filtered D E (λ x. not (among ns x)) (D.rows n) (full_old n) ∙ sym (parted_row D ns sound n)
    where
      none : (a : Option CellId) → group_at N n a ≡ []
      none a = no_members (group_at N n a) (λ o k. (let g = group_at-group N n a o k in apart (sym g.node ∙ (its_group g.group g.listed).0)))

      ungrown : (os : List Owned) → with_groups N n os ≡ os
      ungrown [] = refl
      ungrown (o ∷ os) = (λ t. o ∷ (none (Some o.cell) t ++ with_groups N n os)) ∙ ap (λ l. o ∷ l) (ungrown os)

  pub row_here : owners_shown (content E m) ≡ filter (λ x. not (among ns x)) (take i (owners_shown (content D m))) ++ (ns ++ filter (λ x. not (among ns x)) (drop i (owners_shown (content D m))))
  row_here =
      row_with N fits.itself m left cells has_group (λ g h e. (let w = its_group g h in (w.1, w.2))) D E (λ x. not (among ns x)) full_new i refl in_range (sound.once m) (full_old m)
      ∙ ap (λ l. filter (λ x. not (among ns x)) (take i (owners_shown (content D m))) ++ (l ++ filter (λ x. not (among ns x)) (drop i (owners_shown (content D m))))) (cells_nodes G.rev G.cells ns)

  pub held_there : (f : FieldId) → E.held f ≡ F.held f
  held_there f = ap (λ o. option_or o (unless_put N (D.held f))) (none cells) ∙ go (D.held f)
    where
      none : (os : List Owned) → option_map (λ (p : Put). p.node) (find (λ (p : Put). is_register f p.to) (map put_in_cell os)) ≡ None
      none [] = refl
      none (o ∷ os) = none os

      go : (o : Option NodeId) → unless_put N o ≡ unless_among ns o
      go None = refl
      go (Some y) = ap (λ b. cond b None (Some y)) (put_some y)

  pub node_there : (x : NodeId) → E.nodes x ≡ F.nodes x
  node_there x = option_or-None (D.nodes x)

  pub row_verdict : ((z : NodeId) → IsFrom D z m → Has ns z → ⊥) → IsVerdict D N Verdict.Sound
  row_verdict clear_way = (
    last_in_effect D G sound,
    (λ x h. absurd h.0),
    λ x h. no_ring D N ns m clear_way unput (λ y k. (let o = owner_of y k in ap (above E) (sym o.2) ∙ ap node_of (place_new o.0 o.1))) x (among-has ns x (sym (put_some x) ∙ h.0)) h.1.0 h.1.1,
  )

-- ## Into a field

module _ (D : Document) (G : NameCounters) (g : FieldId) (x : NodeId) (sound : IsSoundInForm D) where
  abbrev M : Intent
  M = moved_to_field D G g (x ∷ [])

  abbrev C : Document
  C = full D M

  abbrev B : Document
  B = parted D (x ∷ [])

  or_false : (b : Bool) → (b || false) ≡ b
  or_false true = refl
  or_false false = refl

  put_one : (y : NodeId) → put_of M y ≡ cond (among (x ∷ []) y) (Some (To.Register g)) None
  put_one y = go (same_node x y)
    where
      go : (b : Bool) → option_map (λ (p : Put). p.to) (cond b (Some (record { node = x; to = To.Register g })) None) ≡ cond (b || false) (Some (To.Register g)) None
      go true = refl
      go false = refl

  swap : (f h : FieldId) → same_field f h ≡ false → same_field h f ≡ false
  swap f h e = go (same_field h f) refl
    where
      go : (b : Bool) → same_field h f ≡ b → same_field h f ≡ false
      go false q = q
      go true q = absurd (true-false (same_field-itself f) (ap (same_field f) (sym (same_field-true h f q)) ∙ e))

  full_one : (c : CellId) (y : NodeId) → is_cell c (C.place y) ≡ cond (not (among (x ∷ []) y)) (is_cell c (D.place y)) false
  full_one c y = ap (λ t. is_cell c (place_after (with_names D M).row_of M t (D.place y))) (put_one y) ∙ go (among (x ∷ []) y)
    where
      stays : (s : Spot) → is_cell c (unless_cleared M s) ≡ is_cell c s
      stays Spot.Nowhere = refl
      stays (Spot.Row n d) = refl
      stays (Spot.Register f) = elim (clears M f) as (λ b. is_cell c (cond b Spot.Nowhere (Spot.Register f)) ≡ false) [ true ↦ refl | false ↦ refl ]

      go : (b : Bool) → is_cell c (place_after (with_names D M).row_of M (cond b (Some (To.Register g)) None) (D.place y)) ≡ cond (not b) (is_cell c (D.place y)) false
      go true = refl
      go false = stays (D.place y)

  pub rows_there : (n : NodeId) → owners_shown (content C n) ≡ owners_shown (content B n)
  rows_there n = ap (λ os. owners_shown (map (slot C) os)) (ungrown (D.rows n)) ∙ owners_filtered D C (λ y. not (among (x ∷ []) y)) (D.rows n) (λ o h. full_one o.cell o.node) ∙ sym (parted_row D (x ∷ []) sound n)
    where
      ungrown : (os : List Owned) → with_groups M n os ≡ os
      ungrown [] = refl
      ungrown (o ∷ os) = ap (λ l. o ∷ l) (ungrown os)

  pub held_after : (h : FieldId) → C.held h ≡ cond (same_field h g) (Some x) (B.held h)
  held_after h = go (same_field h g) refl
    where
      unput : (o : Option NodeId) → unless_put M o ≡ unless_among (x ∷ []) o
      unput None = refl
      unput (Some y) = ap (λ t. cond (is_some t) None (Some y)) (put_one y) ∙ by (among (x ∷ []) y)
        where
          by : (b : Bool) → cond (is_some (cond b (Some (To.Register g)) None)) None (Some y) ≡ cond b None (Some y)
          by true = refl
          by false = refl

      go : (b : Bool) → same_field h g ≡ b → option_or (option_map (λ (p : Put). p.node) (cond b (Some (record { node = x; to = To.Register g })) None)) (cond (clears M h) None (unless_put M (D.held h))) ≡ cond b (Some x) (unless_among (x ∷ []) (D.held h))
      go true e = refl
      go false e = ap (λ b. cond b None (unless_put M (D.held h))) (or_false (same_field g h) ∙ swap h g e) ∙ unput (D.held h)

  pub nodes_there : (y : NodeId) → C.nodes y ≡ B.nodes y
  nodes_there y = option_or-None (D.nodes y)

  pub field_verdict : ((z : NodeId) → IsFrom D z g.node → Has (x ∷ []) z → ⊥) → IsVerdict D M Verdict.Sound
  field_verdict clear_way = (
    last_in_effect D G sound,
    (λ y h. absurd h.0),
    λ y h. no_ring D M (x ∷ []) g.node clear_way (λ z out. put_one z ∙ ap (λ b. cond b (Some (To.Register g)) None) (not-among (x ∷ []) z out))
        (λ z k. ap (λ t. node_of (place_after (with_names D M).row_of M t (D.place z))) (put_one z ∙ ap (λ b. cond b (Some (To.Register g)) None) (has-among (x ∷ []) z k)))
        y (among-has (x ∷ []) y (put_among y h.0)) h.1.0 h.1.1,
  )
    where
      put_among : (y : NodeId) → IsSome (put_of M y) → among (x ∷ []) y ≡ true
      put_among y h = go (among (x ∷ []) y) (sym (ap is_some (put_one y)) ∙ h)
        where
          go : (b : Bool) → is_some (cond b (Some (To.Register g)) None) ≡ true → b ≡ true
          go true e = refl
          go false e = cc
