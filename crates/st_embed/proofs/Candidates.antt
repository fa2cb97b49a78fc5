-- Which rows and registers a change lists.
use Rattle.std.proofs.Common.{◌≡◌, Bool, true, false, cond, ◌||◌, List, [], ◌∷◌, ◌++◌, Option, Some, None, refl, sym, ap, ◌∙◌, subst, inl, inr, option_and_then}
use Rattle.std.specs.List.{list_any}
use Rattle.std.specs.BTreeMap.{is_at}
use Rattle.std.proofs.lemmas.List.Folds.{list_any-append}
use Rattle.st_ids.specs.Listing.{Has}
use Rattle.st_ids.specs.Order.{node_cmp, same_node}
use Rattle.st_ids.specs.declared.names.CellId.{CellId}
use Rattle.st_ids.specs.declared.names.FieldId.{FieldId}
use Rattle.st_ids.specs.declared.names.NodeId.{NodeId}
use Rattle.st_ids.proofs.Orders.{same_cell-true, same_field-itself, same_node-itself, same_node-true}
use Rattle.st_lemmas.proofs.Bools.{or-cases, true-false, refuted-false}
use Rattle.st_marks.specs.declared.intents.Group.{Group}
use Rattle.st_marks.specs.declared.intents.Intent.{Intent}
use Rattle.st_marks.specs.declared.intents.Owned.{Owned}
use Rattle.st_marks.specs.declared.intents.Put.{Put}
use Rattle.st_marks.specs.declared.intents.To.{To}
use Rattle.st_marks.specs.declared.places.Slot.{Slot}
use Rattle.st_marks.specs.declared.places.Spot.{Spot}
use Rattle.st_marks.specs.Document.{Document, IsSoundInForm, content, slot}
use Rattle.st_marks.specs.Embedding.{is_among, register_part, row_marks, row_part, tells}
use Rattle.st_marks.specs.How.{is_here}
use Rattle.st_marks.specs.Intent.{cell_of, clears, group_at, put_of}
use Rattle.st_marks.specs.Register.{embed_register, holds_mentioned}
use Rattle.st_marks.specs.Row.{CellMark, Counted, Fill, Gap, RowPart, Touch, embed_cell, embed_cells, embed_made, embed_row, how, same_to}
use Rattle.st_marks.proofs.Climb.{stands}
use Rattle.st_marks.proofs.Lookups.{group_at-group, put-has}
use Rattle.st_marks.proofs.Members.{any-has, has-any, has-filter_map, has-map}
use Rattle.st_embed.specs.inside.Rows.{targets_in}
use Rattle.st_embed.specs.inside.Standing.{is_register_of, is_row_of}

-- a node in a set is one of its names
pub any_key : (ks : List NodeId) (q : NodeId → Bool) (k : NodeId) → list_any (is_at (node_cmp k)) ks ≡ true → q k ≡ true → list_any q ks ≡ true
unfolding same_node
any_key ks q k h e =
    let r = any-has (is_at (node_cmp k)) ks h in
    let is_k : k ≡ r.0 = same_node-true k r.0 r.2 in
    has-any q ks r.0 r.1 (subst (λ n. q n ≡ true) is_k e)

cond_none : {A : Type 0} (b : Bool) (y : A) → b ≡ false → cond b (Some y) None ≡ None
cond_none b y e = ap (λ c. cond c (Some y) None) e

put_there : (o : Option To) (c : CellId) → is_here (how o (To.Cell c)) ≡ true → o ≡ Some (To.Cell c)
put_there None c e = cc
put_there (Some to) c e = go (same_to to (To.Cell c)) refl e
  where
    is_cell : (t : To) → same_to t (To.Cell c) ≡ true → t ≡ To.Cell c
    is_cell To.Nowhere e = cc
    is_cell (To.Cell d) e = ap (λ x. To.Cell x) (same_cell-true d c e)
    is_cell (To.Register f) e = cc

    go : (b : Bool) → same_to to (To.Cell c) ≡ b → is_here (how (Some to) (To.Cell c)) ≡ true → Some to ≡ Some (To.Cell c)
    go true g e = ap (λ t. Some t) (is_cell to g)
    go false g e = absurd (let bad : is_here (how (Some to) (To.Cell c)) ≡ false = rw g refl in true-false e bad)

module _ (D : Document) (s : IsSoundInForm D) (N : Intent) (m : NodeId → Bool) where
  -- there is a reason to list a node's row
  pub data Reason (n : NodeId) : Type 0 where
    grouped : list_any (λ (g : Group). same_node g.node n) N.groups ≡ true → Reason n
    targeted : is_among (targets_in D N) n ≡ true → Reason n
    standing : (k : NodeId) → m k ≡ true → is_row_of n (D.place k) ≡ true → Reason n

  module _ (n : NodeId) where
    abbrev p : RowPart
    p = row_part m N n

    made : (a : Option CellId) → list_any tells (embed_made p (group_at N n a)) ≡ true → Reason n
    made a e = go (group_at N n a) refl e
      where
        go : (os : List Owned) → group_at N n a ≡ os → list_any tells (embed_made p os) ≡ true → Reason n
        go [] is e = absurd (let bad : false ≡ true = e in cc)
        go (o ∷ os) is e =
            let g = group_at-group N n a o (subst (λ l. Has l o) (sym is) (inl refl)) in
            grouped (has-any (λ (h : Group). same_node h.node n) N.groups g.group g.listed (ap (λ k. same_node k n) g.node ∙ same_node-itself n))

    full_cell : (c : CellId) (k : NodeId) → Has (content D n) (record { cell = c; node = k; full = true }) → tells (embed_cell p c k true) ≡ true → Reason n
    full_cell c k h e = go (m k) refl e
      where
        go : (b : Bool) → m k ≡ b → tells (cond b (Touch c k (how (put_of N k) (To.Cell c))) Counted) ≡ true → Reason n
        go true is e = standing k is (ap (is_row_of n) (stands D s k n c h) ∙ same_node-itself n)
        go false is e = absurd (let bad : false ≡ true = e in cc)

    empty_cell : (c : CellId) (k : NodeId) → Has (content D n) (record { cell = c; node = k; full = false }) → tells (embed_cell p c k false) ≡ true → Reason n
    empty_cell c k h e = go (is_here (how (put_of N k) (To.Cell c))) refl e
      where
        in_row : D.row_of c ≡ Some n
        in_row =
            let r = has-map (slot D) (D.rows n) (record { cell = c; node = k; full = false }) h in
            subst (λ d. D.row_of d ≡ Some n) (ap (λ (t : Slot). t.cell) r.2) ((s.one_row r.0.cell n).1 (r.0.node, r.1))

        go : (b : Bool) → is_here (how (put_of N k) (To.Cell c)) ≡ b → tells (cond b (Fill c k) (Gap c)) ≡ true → Reason n
        go true is e =
            let put = put-has N k (To.Cell c) (put_there (put_of N k) c is) in
            targeted (has-any (λ t. same_node t n) (targets_in D N) n (has-filter_map (λ (q : Put). option_and_then D.row_of (cell_of q.to)) N.put (record { node = k; to = To.Cell c }) n put in_row) (same_node-itself n))
        go false is e = absurd (let bad : false ≡ true = e in cc)

    found : (t : Slot) → Has (content D n) t → tells (embed_cell p t.cell t.node t.full) ≡ true → Reason n
    found t h e = go t.full refl
      where
        go : (b : Bool) → t.full ≡ b → Reason n
        go true is = full_cell t.cell t.node (subst (λ b. Has (content D n) (record { cell = t.cell; node = t.node; full = b })) is h) (subst (λ b. tells (embed_cell p t.cell t.node b) ≡ true) is e)
        go false is = empty_cell t.cell t.node (subst (λ b. Has (content D n) (record { cell = t.cell; node = t.node; full = b })) is h) (subst (λ b. tells (embed_cell p t.cell t.node b) ≡ true) is e)

    either : (xs ys : List CellMark) → (list_any tells xs ≡ true → Reason n) → (list_any tells ys ≡ true → Reason n) → list_any tells (xs ++ ys) ≡ true → Reason n
    either xs ys left right e = elim (or-cases (list_any tells xs) (list_any tells ys) (sym (list_any-append tells xs ys) ∙ e)) [
      | inl h ↦ left h
      | inr h ↦ right h
    ]

    cells : (ss : List Slot) → ((t : Slot) → Has ss t → Has (content D n) t) → list_any tells (embed_cells p ss) ≡ true → Reason n
    cells [] there e = absurd (let bad : false ≡ true = e in cc)
    cells (t ∷ ss) there e = elim (or-cases (tells (embed_cell p t.cell t.node t.full)) (list_any tells (embed_made p (group_at N n (Some t.cell)) ++ embed_cells p ss)) e) [
      | inl h ↦ found t (there t (inl refl)) h
      | inr h ↦ either (embed_made p (group_at N n (Some t.cell))) (embed_cells p ss) (made (Some t.cell)) (cells ss (λ u k. there u (inr k))) h
    ]

    told : list_any tells (embed_row p (content D n)) ≡ true → Reason n
    told = either (embed_made p (group_at N n None)) (embed_cells p (content D n)) (made None) (cells (content D n) (λ t h. h))

  -- without a reason the row isn't listed
  pub row_unlisted : (n : NodeId) → (Reason n → ⊥) → row_marks n (embed_row (row_part m N n) (content D n)) ≡ None
  row_unlisted n without = cond_none _ _ (refuted-false (list_any tells (embed_row (row_part m N n) (content D n))) (λ e. without (told n e)))

  module _ (ks : List NodeId) (keys : (k : NodeId) → m k ≡ list_any (is_at (node_cmp k)) ks) where
    pub no_row : (n : NodeId) (among : Bool)
        → among ≡ ((list_any (λ (g : Group). same_node g.node n) N.groups || is_among (targets_in D N) n) || list_any (λ k. is_row_of n (D.place k)) ks)
        → among ≡ false → row_marks n (embed_row (row_part m N n) (content D n)) ≡ None
    no_row n among is e = row_unlisted n refuted
      where
        groups : Bool
        groups = list_any (λ (g : Group). same_node g.node n) N.groups

        targets : Bool
        targets = is_among (targets_in D N) n

        rows : Bool
        rows = list_any (λ k. is_row_of n (D.place k)) ks

        parts : (a b c : Bool) → ((a || b) || c) ≡ false → (a ≡ false) × (b ≡ false) × (c ≡ false)
        parts true b c e = cc
        parts false true c e = cc
        parts false false true e = cc
        parts false false false e = (refl, refl, refl)

        none : (groups ≡ false) × (targets ≡ false) × (rows ≡ false)
        none = parts groups targets rows (sym is ∙ e)

        refuted : Reason n → ⊥
        refuted (grouped g) = true-false g none.0
        refuted (targeted t) = true-false t none.1
        refuted (standing k h r) = true-false (any_key ks (λ j. is_row_of n (D.place j)) k (sym (keys k) ∙ h) r) none.2

    pub no_register : (f : FieldId) (among : Bool) → among ≡ (clears N f || list_any (λ k. is_register_of f (D.place k)) ks) → among ≡ false
        → embed_register f (register_part m N f) (D.held f) ≡ None
    no_register f among is e = cond_none _ _ (both (clears N f) (holds_mentioned m (D.held f)) none.0 (refuted-false _ (λ h. refuted (D.held f) refl h)))
      where
        parts : (a b : Bool) → (a || b) ≡ false → (a ≡ false) × (b ≡ false)
        parts true b e = cc
        parts false b e = (refl, e)

        none : (clears N f ≡ false) × (list_any (λ k. is_register_of f (D.place k)) ks ≡ false)
        none = parts (clears N f) (list_any (λ k. is_register_of f (D.place k)) ks) (sym is ∙ e)

        both : (a b : Bool) → a ≡ false → b ≡ false → (a || b) ≡ false
        both a b x y = rw (x, y) refl

        refuted : (o : Option NodeId) → D.held f ≡ o → holds_mentioned m o ≡ true → ⊥
        refuted None at h = true-false h refl
        refuted (Some k) at h =
            let place : D.place k ≡ Spot.Register f = (s.one_held k f).0 at in
            true-false (any_key ks (λ j. is_register_of f (D.place j)) k (sym (keys k) ∙ h) (ap (is_register_of f) place ∙ same_field-itself f)) none.1
