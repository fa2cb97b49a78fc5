-- The rows of a document with the names that an intent makes: each cell in one row, once, with the old ones in their order.
use Rattle.std.proofs.Common.{◌≡◌, ◌≢◌, List, [], ◌∷◌, ◌++◌, Option, Some, None, ◌&&◌, refl, sym, ap, ◌∙◌, subst, inl, inr, ◌⊎◌, ◌↔◌, is_some, IsSome, IfSome}
use Rattle.std.specs.List.{find}
use Rattle.std.specs.Option.{option_or}
use Rattle.st_ids.specs.Listing.{AreDistinct, Has}
use Rattle.st_ids.specs.Order.{same_node, same_cell}
use Rattle.st_ids.specs.declared.names.CellId.{CellId}
use Rattle.st_ids.specs.declared.names.NodeId.{NodeId}
use Rattle.st_marks.specs.declared.intents.Group.{Group}
use Rattle.st_marks.specs.declared.intents.Intent.{Intent}
use Rattle.st_marks.specs.declared.intents.Owned.{Owned}
use Rattle.st_marks.specs.Document.{Document, NodeType, IsSoundInForm, owned_cell}
use Rattle.st_marks.specs.Extends.{GainsItems, no_more, item_gained, item_kept}
use Rattle.st_marks.specs.Intent.{Fits, IsKnown, Owns, new_type, group_at, new_row_of, same_option, group_cells}
use Rattle.st_marks.specs.CarryOut.{with_names, with_groups}
use Rattle.st_marks.proofs.Members.{all-has, has-append, append_left, append_right, flat_map-has, has-all, has-flat_map, first-has, one_list, list_distinct, distinct-append}
use Rattle.st_marks.proofs.Lookups.{group_at-group, group_found, new_row_of-group, group-new_row_of}

-- a cell of a row with groups is an old one, or one that is made after an old one
pub with_groups-has : (N : Intent) (n : NodeId) (os : List Owned) (o : Owned) → Has (with_groups N n os) o → Has os o ⊎ ((p : Owned) × Has os p × Has (group_at N n (Some p.cell)) o)
with_groups-has N n [] o h = absurd h
with_groups-has N n (p ∷ os) o (inl e) = inl (inl e)
with_groups-has N n (p ∷ os) o (inr h) = elim (has-append (group_at N n (Some p.cell)) (with_groups N n os) o h) [
  | inl i ↦ inr (p, inl refl, i)
  | inr i ↦ elim (with_groups-has N n os o i) [ inl j ↦ inl (inr j) | inr j ↦ inr (j.0, inr j.1, j.2) ]
]

pub old_kept : (N : Intent) (n : NodeId) (os : List Owned) (o : Owned) → Has os o → Has (with_groups N n os) o
old_kept N n [] o h = absurd h
old_kept N n (p ∷ os) o (inl e) = inl e
old_kept N n (p ∷ os) o (inr h) = inr (append_right (group_at N n (Some p.cell)) (with_groups N n os) o (old_kept N n os o h))

pub made_kept : (N : Intent) (n : NodeId) (os : List Owned) (p o : Owned) → Has os p → Has (group_at N n (Some p.cell)) o → Has (with_groups N n os) o
made_kept N n [] p o h i = absurd h
made_kept N n (q ∷ os) p o (inl e) i = inr (append_left (group_at N n (Some q.cell)) (with_groups N n os) o (subst (λ (q : Owned). Has (group_at N n (Some q.cell)) o) (sym e) i))
made_kept N n (q ∷ os) p o (inr h) i = inr (append_right (group_at N n (Some q.cell)) (with_groups N n os) o (made_kept N n os p o h i))

-- what is made at an anchor is among the cells that the intent makes
pub made_listed : (N : Intent) (n : NodeId) (a : Option CellId) (o : Owned) → Has (group_at N n a) o → Has (group_cells N) o
made_listed N n a o h = let g = group_at-group N n a o h in flat_map-has (λ (g : Group). g.cells) N.groups g.group o g.listed g.cell

-- a cell of a row with the intent's names is an old one, or one that the intent makes
pub old_or_made : (D : Document) (N : Intent) (n : NodeId) (o : Owned) → Has ((with_names D N).rows n) o → Has (D.rows n) o ⊎ Has (group_cells N) o
old_or_made D N n o h = elim (has-append (group_at N n None) (with_groups N n (D.rows n)) o h) [
  | inl i ↦ inr (made_listed N n None o i)
  | inr i ↦ elim (with_groups-has N n (D.rows n) o i) [ inl j ↦ inl j | inr j ↦ inr (made_listed N n (Some j.0.cell) o j.2) ]
]

-- ## The old cells keep their order

abbrev pub KeepsOrder : List Owned → List Owned → Type 0
KeepsOrder = GainsItems (λ (o p : Owned). o ≡ p)

grows_behind : (xs : List Owned) {ys zs : List Owned} → KeepsOrder ys zs → KeepsOrder ys (xs ++ zs)
grows_behind [] g = g
grows_behind (x ∷ xs) g = item_gained (grows_behind xs g)

grows_groups : (N : Intent) (n : NodeId) (os : List Owned) → KeepsOrder os (with_groups N n os)
grows_groups N n [] = no_more
grows_groups N n (o ∷ os) = item_kept refl (grows_behind (group_at N n (Some o.cell)) (grows_groups N n os))

pub rows_grow : (D : Document) (N : Intent) (n : NodeId) → KeepsOrder (D.rows n) ((with_names D N).rows n)
rows_grow D N n = grows_behind (group_at N n None) (grows_groups N n (D.rows n))

-- ## Each cell in one row, once

module _ (D : Document) (N : Intent) (s : IsSoundInForm D) (f : Fits D N) where
  row_of_old : (n : NodeId) (o : Owned) → Has (D.rows n) o → D.row_of o.cell ≡ Some n
  row_of_old n o h = (s.one_row o.cell n).1 (o.node, h)

  -- a cell that is made isn't D's
  made_new : (n : NodeId) (a : Option CellId) (o : Owned) → Has (group_at N n a) o → D.row_of o.cell ≡ None
  made_new n a o h =
      let g = group_at-group N n a o h in
      f.fresh_cells o.cell (ap is_some (new_row_of-group N f.itself g.group o g.listed g.cell))

  made_distinct : (n : NodeId) (a : Option CellId) → AreDistinct (λ (o : Owned). o.cell) (group_at N n a)
  made_distinct n a = go (find (λ (g : Group). same_node g.node n && same_option same_cell g.after a) N.groups) refl
    where
      go : (q : Option Group) → find (λ (g : Group). same_node g.node n && same_option same_cell g.after a) N.groups ≡ q → AreDistinct (λ (o : Owned). o.cell) (group_at N n a)
      go None e = rw e tt
      go (Some g) e =
          let r = first-has (λ (g : Group). same_node g.node n && same_option same_cell g.after a) N.groups g e in
          rw e (list_distinct (λ (g : Group). g.cells) (λ (o : Owned). o.cell) N.groups g f.itself.cell_once r.0)

  -- groups at two anchors share no cell
  two_groups : (n : NodeId) (a b : Option CellId) (x y : Owned) → Has (group_at N n a) x → Has (group_at N n b) y → y.cell ≡ x.cell → a ≡ b
  two_groups n a b x y h i e =
      let g = group_at-group N n a x h in
      let k = group_at-group N n b y i in
      let same = one_list (λ (g : Group). g.cells) (λ (o : Owned). o.cell) N.groups g.group k.group x y f.itself.cell_once g.listed k.listed g.cell k.cell (sym e) in
      sym g.after ∙ ap (λ (g : Group). g.after) same ∙ k.after

  clash : (n : NodeId) (c d : CellId) → c ≡ d → D.row_of c ≡ None → D.row_of d ≡ Some n → ⊥
  clash n c d e g h = let bad : None ≡ Some n = sym g ∙ ap D.row_of e ∙ h in cc

  rest_distinct : (n : NodeId) (os : List Owned) → AreDistinct (λ (o : Owned). o.cell) os → ((o : Owned) → Has os o → D.row_of o.cell ≡ Some n) → AreDistinct (λ (o : Owned). o.cell) (with_groups N n os)
  rest_distinct n [] a old = tt
  rest_distinct n (o ∷ os) a old = (
    has-all (λ (w : Owned). w.cell ≢ o.cell) (group_at N n (Some o.cell) ++ with_groups N n os) first_alone,
    distinct-append (λ (o : Owned). o.cell) (group_at N n (Some o.cell)) (with_groups N n os) (made_distinct n (Some o.cell)) (rest_distinct n os a.1 (λ p h. old p (inr h))) between,
  )
    where
      alone : (p : Owned) → Has os p → p.cell ≢ o.cell
      alone p h = all-has (λ (w : Owned). w.cell ≢ o.cell) os p a.0 h

      first_alone : (p : Owned) → Has (group_at N n (Some o.cell) ++ with_groups N n os) p → p.cell ≢ o.cell
      first_alone p h e = elim (has-append (group_at N n (Some o.cell)) (with_groups N n os) p h) [
        | inl i ↦ clash n p.cell o.cell e (made_new n (Some o.cell) p i) (old o (inl refl))
        | inr i ↦ elim (with_groups-has N n os p i) [
          | inl j ↦ alone p j e
          | inr j ↦ clash n p.cell o.cell e (made_new n (Some j.0.cell) p j.2) (old o (inl refl))
        ]
      ]

      between : (x y : Owned) → Has (group_at N n (Some o.cell)) x → Has (with_groups N n os) y → y.cell ≢ x.cell
      between x y h i e = elim (with_groups-has N n os y i) [
        | inl j ↦ clash n x.cell y.cell (sym e) (made_new n (Some o.cell) x h) (old y (inr j))
        | inr j ↦ alone j.0 j.1 (let q = two_groups n (Some o.cell) (Some j.0.cell) x y h j.2 e in let r : o.cell ≡ j.0.cell = cc in sym r)
      ]

  pub rows_once : (n : NodeId) → AreDistinct (λ (o : Owned). o.cell) ((with_names D N).rows n)
  rows_once n =
      distinct-append (λ (o : Owned). o.cell) (group_at N n None) (with_groups N n (D.rows n)) (made_distinct n None)
      (rest_distinct n (D.rows n) (s.once n) (λ o h. row_of_old n o h))
      (λ x y h i e. elim (with_groups-has N n (D.rows n) y i) [
        | inl j ↦ clash n x.cell y.cell (sym e) (made_new n None x h) (row_of_old n y j)
        | inr j ↦ (let q = two_groups n None (Some j.0.cell) x y h j.2 e in cc)
      ])

  pub old_cell : (n : NodeId) (o : Owned) → Has (D.rows n) o → Has ((with_names D N).rows n) o
  old_cell n o h = append_right (group_at N n None) (with_groups N n (D.rows n)) o (old_kept N n (D.rows n) o h)

  pub made_cell : (g : Group) (o : Owned) → Has N.groups g → Has g.cells o → Has ((with_names D N).rows g.node) o
  made_cell g o h i = go g.after refl (subst (λ l. Has l o) (sym (group_found N f.itself g h)) i) (all-has (λ (g : Group). IsKnown D N g.node × IfSome g.after (λ c. D.row_of c ≡ Some g.node)) N.groups g f.groups_known h).1
    where
      go : (a : Option CellId) → g.after ≡ a → Has (group_at N g.node g.after) o → IfSome g.after (λ c. D.row_of c ≡ Some g.node) → Has ((with_names D N).rows g.node) o
      go None e h k = append_left (group_at N g.node None) (with_groups N g.node (D.rows g.node)) o (rw e at h)
      go (Some c) e h k =
          let p = (s.one_row c g.node).0 (rw e at k) in
          append_right (group_at N g.node None) (with_groups N g.node (D.rows g.node)) o
          (made_kept N g.node (D.rows g.node) (owned_cell c p.0) o p.1 (rw e at h))

  pub known_after : (n : NodeId) → IsKnown D N n → IsSome ((with_names D N).nodes n)
  known_after n h = go (D.nodes n) refl h
    where
      go : (o : Option NodeType) → D.nodes n ≡ o → IsKnown D N n → IsSome (option_or (D.nodes n) (new_type N n))
      go None e (inl h) = rw e h
      go None e (inr h) = let bad = rw e at h in cc
      go (Some k) e h = rw e refl

  abbrev IsPlacedCell : NodeId → Owned → Type 0
  IsPlacedCell n o = ((with_names D N).row_of o.cell ≡ Some n) × IsSome ((with_names D N).nodes n) × IsSome ((with_names D N).nodes o.node)

  made_row_of : (c : CellId) (n : NodeId) → D.row_of c ≡ None → new_row_of N c ≡ Some n → (with_names D N).row_of c ≡ Some n
  made_row_of c n e h = rw e h

  -- the row of each cell, and that its owner and the row's node are there
  pub row_cells : (n : NodeId) (o : Owned) → Has ((with_names D N).rows n) o → IsPlacedCell n o
  row_cells n o h = elim (has-append (group_at N n None) (with_groups N n (D.rows n)) o h) [
    | inl i ↦ new None i
    | inr i ↦ elim (with_groups-has N n (D.rows n) o i) [ inl j ↦ old j | inr j ↦ new (Some j.0.cell) j.2 ]
  ]
    where
      old : Has (D.rows n) o → IsPlacedCell n o
      old j = (rw (row_of_old n o j) refl, known_after n (inr (s.cells_known n o j).0), known_after o.node (inr (s.cells_known n o j).1))

      new : (a : Option CellId) → Has (group_at N n a) o → IsPlacedCell n o
      new a i =
          let g = group_at-group N n a o i in (
            made_row_of o.cell n (made_new n a o i) (new_row_of-group N f.itself g.group o g.listed g.cell ∙ ap (λ n. Some n) g.node),
            known_after n (subst (IsKnown D N) g.node (all-has (λ (g : Group). IsKnown D N g.node × IfSome g.after (λ c. D.row_of c ≡ Some g.node)) N.groups g.group f.groups_known g.listed).0),
            known_after o.node (all-has (λ (o : Owned). IsKnown D N o.node) (group_cells N) o f.owners_known (flat_map-has (λ (g : Group). g.cells) N.groups g.group o g.listed g.cell)),
          )

  cell_in_row : (c : CellId) (n : NodeId) → (with_names D N).row_of c ≡ Some n → (m : NodeId) × Has ((with_names D N).rows n) (owned_cell c m)
  cell_in_row c n e = go (D.row_of c) refl e
    where
      go : (o : Option NodeId) → D.row_of c ≡ o → option_or o (new_row_of N c) ≡ Some n → (m : NodeId) × Has ((with_names D N).rows n) (owned_cell c m)
      go None q e =
          let g = group-new_row_of N c n e in
          (g.3.0.node, subst (λ n. Has ((with_names D N).rows n) (owned_cell c g.3.0.node)) g.2 (made_cell g.0 (owned_cell c g.3.0.node) g.1 (subst (λ d. Has g.0.cells (owned_cell d g.3.0.node)) g.3.2 g.3.1)))
      go (Some m) q e = let r = (s.one_row c n).0 (q ∙ e) in (r.0, old_cell n (owned_cell c r.0) r.1)

  pub one_row_each : (c : CellId) (n : NodeId) → ((with_names D N).row_of c ≡ Some n) ↔ ((m : NodeId) × Has ((with_names D N).rows n) (owned_cell c m))
  one_row_each c n = (cell_in_row c n, λ h. (row_cells n (owned_cell c h.0) h.1).0)

  -- the owner of a cell has it in the cell's row
  pub owns_in_row : (m n : NodeId) (c : CellId) → Owns D N m c → (with_names D N).row_of c ≡ Some n → Has ((with_names D N).rows n) (owned_cell c m)
  owns_in_row m n c (inl h) r =
      let k = (row_cells h.0 _ (old_cell h.0 _ h.1)).0 in
      let q : h.0 ≡ n = let p : Some h.0 ≡ Some n = sym k ∙ r in cc in
      subst (λ n. Has ((with_names D N).rows n) (owned_cell c m)) q (old_cell h.0 _ h.1)
  owns_in_row m n c (inr h) r =
      let g = has-flat_map (λ (g : Group). g.cells) N.groups _ h in
      let k = (row_cells g.0.node _ (made_cell g.0 _ g.1 g.2)).0 in
      let q : g.0.node ≡ n = let p : Some g.0.node ≡ Some n = sym k ∙ r in cc in
      subst (λ n. Has ((with_names D N).rows n) (owned_cell c m)) q (made_cell g.0 _ g.1 g.2)
