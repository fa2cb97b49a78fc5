-- Each intent has a change in each document that it fits.
use Rattle.std.proofs.Common.{◌≡◌, ◌↔◌, ℕ, zero, suc, Bool, true, false, cond, not, ◌||◌, ◌&&◌, ◌-◌, length, List, [], ◌∷◌, ◌++◌, map, Option, Some, None, IsSome, option_and_then, refl, sym, ap, ◌∙◌, subst, inl, inr, ◌⊎◌}
use Rattle.std.specs.List.{filter_map, list_any, slice_get}
use Rattle.std.specs.Option.{option_map_or}
use Rattle.std.proofs.lemmas.List.Folds.{list_any-append}
use Rattle.st_ids.specs.Listing.{Has}
use Rattle.st_ids.specs.Root.{root}
use Rattle.st_ids.specs.Order.{field_cmp, node_cmp, same_field, same_node, same_rev}
use Rattle.st_ids.specs.declared.names.CellId.{CellId}
use Rattle.st_ids.specs.declared.names.FieldId.{FieldId}
use Rattle.st_ids.specs.declared.names.NodeId.{NodeId}
use Rattle.st_ids.proofs.Orders.{field_cmp_exact, field_cmp_total, node_cmp_exact, node_cmp_total, same_cell-true, same_field-true, same_node-itself, same_node-true}
use Rattle.st_lemmas.proofs.Bools.{or-cases, true-false}
use Rattle.st_marks.specs.declared.changes.Change.{Change}
use Rattle.st_marks.specs.declared.changes.NewNode.{NewNode}
use Rattle.st_marks.specs.declared.intents.Group.{Group}
use Rattle.st_marks.specs.declared.intents.Intent.{Intent}
use Rattle.st_marks.specs.declared.intents.Owned.{Owned}
use Rattle.st_marks.specs.declared.intents.Put.{Put}
use Rattle.st_marks.specs.declared.intents.To.{To}
use Rattle.st_marks.specs.declared.marks.Loose.{Loose}
use Rattle.st_marks.specs.declared.marks.RegMark.{RegMark}
use Rattle.st_marks.specs.declared.marks.RowMarks.{RowMarks}
use Rattle.st_marks.specs.declared.places.Slot.{Slot}
use Rattle.st_marks.specs.declared.places.Spot.{Spot}
use Rattle.st_marks.specs.Document.{Document, IsSoundInForm, above, climb, content, slot}
use Rattle.st_marks.specs.Embedding.{IsEmbedding, IsMentionedByIntent, embed_loose, is_among, is_loose, is_nowhere, named_by_intent, register_part, row_marks, row_part, tells}
use Rattle.st_marks.specs.How.{is_here}
use Rattle.st_marks.specs.Intent.{cell_of, clears, group_at, new_node, put_of}
use Rattle.st_marks.specs.Register.{embed_register, holds_mentioned}
use Rattle.st_marks.specs.Row.{CellMark, Counted, Fill, Gap, RowPart, Touch, embed_cell, embed_cells, embed_made, embed_row, how, same_to}
use Rattle.st_marks.specs.declared.schemas.SchemaEntry.{SchemaEntry}
use Rattle.st_marks.specs.Verdict.{HasBase}
use Rattle.st_marks.proofs.Climb.{stands}
use Rattle.st_marks.proofs.Lookups.{group_at-group, put-has}
use Rattle.st_marks.proofs.Members.{any-has, append_left, append_right, first-has, has-any, has-append, has-filter_map, has-map, map-has}
use Rattle.st_doc.proofs.Verdicts.{among_revs, last_rev}
use Rattle.st_embed.proofs.Wanting.{new_named, picked, register_named, row_named}
use Rattle.st_world_laws.proofs.TextsListed.{has_listing}

-- ## The nodes above others

-- a node and those above it, as far as so many steps lead
abbrev path : (NodeId → Option NodeId) → ℕ → NodeId → List NodeId
path up zero n = n ∷ []
path up (suc k) n = n ∷ option_map_or (path up k) (up n) []

path-has : (up : NodeId → Option NodeId) (k : ℕ) (n m : NodeId) → Has (path up k n) m → (j : ℕ) × (climb up j n ≡ Some m)
path-has up zero n m (inl e) = (0, ap (λ x. Some x) e)
path-has up zero n m (inr h) = absurd h
path-has up (suc k) n m (inl e) = (0, ap (λ x. Some x) e)
path-has up (suc k) n m (inr h) = go (up n) refl (λ p i. path-has up k p m i) h
  where
    go : (o : Option NodeId) → up n ≡ o → ((p : NodeId) → Has (path up k p) m → (j : ℕ) × (climb up j p ≡ Some m)) → Has (option_map_or (path up k) o []) m → (j : ℕ) × (climb up j n ≡ Some m)
    go None e rest h = absurd h
    go (Some p) e rest h = let r = rest p h in (suc r.0, ap (option_and_then (climb up r.0)) e ∙ r.1)

has-path : (up : NodeId → Option NodeId) (k j : ℕ) (n m : NodeId) → climb up k n ≡ None → climb up j n ≡ Some m → Has (path up k n) m
has-path up zero j n m end at = absurd (let bad : Some n ≡ None = end in cc)
has-path up (suc k) zero n m end at = inl (let e : Some n ≡ Some m = at in cc)
has-path up (suc k) (suc j) n m end at = go (up n) refl (λ p e i. has-path up k j p m e i) end at
  where
    go : (o : Option NodeId) → up n ≡ o → ((p : NodeId) → climb up k p ≡ None → climb up j p ≡ Some m → Has (path up k p) m) → option_and_then (climb up k) o ≡ None → option_and_then (climb up j) o ≡ Some m → Has (n ∷ option_map_or (path up k) (up n) []) m
    go None e rest end at = absurd (let bad : None ≡ Some m = at in cc)
    go (Some p) e rest end at = inr (subst (λ o. Has (option_map_or (path up k) o []) m) (sym e) (rest p end at))

abbrev if_there : {A B : Type 0} → Option A → List B → List B
if_there None xs = []
if_there (Some a) xs = xs

has-if_there : {A B : Type 0} (o : Option A) (xs : List B) (x : B) → Has (if_there o xs) x → IsSome o × Has xs x
has-if_there None xs x h = absurd h
has-if_there (Some a) xs x h = (refl, h)

if_there-has : {A B : Type 0} (o : Option A) (xs : List B) (x : B) → IsSome o → Has xs x → Has (if_there o xs) x
if_there-has None xs x i h = absurd (let bad : false ≡ true = i in cc)
if_there-has (Some a) xs x i h = h

module _ (D : Document) (s : IsSoundInForm D) where
  abbrev above_all : List NodeId → List NodeId
  above_all [] = []
  above_all (x ∷ xs) = if_there (D.nodes x) (path (above D) (s.no_ring x).0 x) ++ above_all xs

  abbrev IsOver : List NodeId → NodeId → Type 0
  IsOver xs n = (x : NodeId) × Has xs x × IsSome (D.nodes x) × (k : ℕ) × (climb (above D) k x ≡ Some n)

  above_all-has : (xs : List NodeId) (n : NodeId) → Has (above_all xs) n → IsOver xs n
  above_all-has [] n h = absurd h
  above_all-has (x ∷ xs) n h = go (λ i. above_all-has xs n i) (has-append (if_there (D.nodes x) (path (above D) (s.no_ring x).0 x)) (above_all xs) n h)
    where
      go : (Has (above_all xs) n → IsOver xs n) → Has (if_there (D.nodes x) (path (above D) (s.no_ring x).0 x)) n ⊎ Has (above_all xs) n → IsOver (x ∷ xs) n
      go rest (inl i) = let r = has-if_there (D.nodes x) (path (above D) (s.no_ring x).0 x) n i in let q = path-has (above D) (s.no_ring x).0 x n r.1 in (x, inl refl, r.0, q.0, q.1)
      go rest (inr i) = let r = rest i in (r.0, inr r.1, r.2, r.3, r.4)

  has-above_all : (xs : List NodeId) (n x : NodeId) (k : ℕ) → Has xs x → IsSome (D.nodes x) → climb (above D) k x ≡ Some n → Has (above_all xs) n
  has-above_all [] n x k h there at = absurd h
  has-above_all (y ∷ xs) n x k (inl e) there at =
      append_left (if_there (D.nodes y) (path (above D) (s.no_ring y).0 y)) (above_all xs) n
      (if_there-has (D.nodes y) (path (above D) (s.no_ring y).0 y) n (subst (λ z. IsSome (D.nodes z)) (sym e) there)
      (has-path (above D) (s.no_ring y).0 k y n (s.no_ring y).1 (ap (climb (above D) k) e ∙ at)))
  has-above_all (y ∷ xs) n x k (inr h) there at = append_right (if_there (D.nodes y) (path (above D) (s.no_ring y).0 y)) (above_all xs) n (has-above_all xs n x k h there at)

-- ## What is listed

abbrev row_over : Spot → Option NodeId
row_over Spot.Nowhere = None
row_over (Spot.Row r c) = Some r
row_over (Spot.Register f) = None

abbrev register_over : Spot → Option FieldId
register_over Spot.Nowhere = None
register_over (Spot.Row r c) = None
register_over (Spot.Register f) = Some f

put_there : (o : Option To) (c : CellId) → is_here (how o (To.Cell c)) ≡ true → o ≡ Some (To.Cell c)
put_there None c e = cc
put_there (Some to) c e = go (same_to to (To.Cell c)) refl e
  where
    is_cell : (t : To) → same_to t (To.Cell c) ≡ true → t ≡ To.Cell c
    is_cell To.Nowhere e = cc
    is_cell (To.Cell d) e = ap (λ x. To.Cell x) (same_cell-true d c e)
    is_cell (To.Register f) e = cc

    go : (b : Bool) → same_to to (To.Cell c) ≡ b → is_here (how (Some to) (To.Cell c)) ≡ true → Some to ≡ Some (To.Cell c)
    go true g e = ap (λ t. Some t) (is_cell to g)
    go false g e = absurd (let bad : is_here (how (Some to) (To.Cell c)) ≡ false = rw g refl in true-false e bad)

-- what is found is found on a condition
found_if : {A : Type 0} (b : Bool) (y x : A) → cond b (Some y) None ≡ Some x → b ≡ true
found_if true y x e = refl
found_if false y x e = cc

module _ (D : Document) (s : IsSoundInForm D) (N : Intent) where
  abbrev mentions : List NodeId
  mentions = above_all D s (named_by_intent D N)

  abbrev m : NodeId → Bool
  m n = list_any (λ k. same_node k n) mentions

  mentioned-has : (n : NodeId) → m n ≡ true → Has mentions n
  mentioned-has n e = let r = any-has (λ k. same_node k n) mentions e in subst (Has mentions) (same_node-true r.0 n r.2) r.1

  which : (n : NodeId) → (m n ≡ true) ↔ IsMentionedByIntent D N n
  which n = (
    λ e. above_all-has D s (named_by_intent D N) n (mentioned-has n e),
    λ i. has-any (λ k. same_node k n) mentions n (has-above_all D s (named_by_intent D N) n i.0 i.3 i.1 i.2 i.4) (same_node-itself n),
  )

  -- ## Rows

  abbrev targets : List NodeId
  targets = filter_map (λ (p : Put). option_and_then D.row_of (cell_of p.to)) N.put

  abbrev rows : List NodeId
  rows = map (λ (g : Group). g.node) N.groups ++ (targets ++ filter_map (λ k. row_over (D.place k)) mentions)

  grouped : (n : NodeId) → Has (map (λ (g : Group). g.node) N.groups) n → Has rows n
  grouped n h = append_left (map (λ (g : Group). g.node) N.groups) (targets ++ filter_map (λ k. row_over (D.place k)) mentions) n h

  targeted : (n : NodeId) → Has targets n → Has rows n
  targeted n h = append_right (map (λ (g : Group). g.node) N.groups) (targets ++ filter_map (λ k. row_over (D.place k)) mentions) n (append_left targets (filter_map (λ k. row_over (D.place k)) mentions) n h)

  standing : (n k : NodeId) → m k ≡ true → row_over (D.place k) ≡ Some n → Has rows n
  standing n k e at =
      append_right (map (λ (g : Group). g.node) N.groups) (targets ++ filter_map (λ k. row_over (D.place k)) mentions) n
      (append_right targets (filter_map (λ k. row_over (D.place k)) mentions) n (has-filter_map (λ k. row_over (D.place k)) mentions k n (mentioned-has k e) at))

  module _ (n : NodeId) where
    abbrev p : RowPart
    p = row_part m N n

    made : (a : Option CellId) → list_any tells (embed_made p (group_at N n a)) ≡ true → Has rows n
    made a e = go (group_at N n a) refl e
      where
        go : (os : List Owned) → group_at N n a ≡ os → list_any tells (embed_made p os) ≡ true → Has rows n
        go [] is e = absurd (let bad : false ≡ true = e in cc)
        go (o ∷ os) is e =
            let g = group_at-group N n a o (subst (λ l. Has l o) (sym is) (inl refl)) in
            grouped n (subst (Has (map (λ (h : Group). h.node) N.groups)) g.node (map-has (λ (h : Group). h.node) N.groups g.group g.listed))

    full_cell : (c : CellId) (k : NodeId) → Has (content D n) (record { cell = c; node = k; full = true }) → tells (embed_cell p c k true) ≡ true → Has rows n
    full_cell c k h e = go (m k) refl e
      where
        go : (b : Bool) → m k ≡ b → tells (cond b (Touch c k (how (put_of N k) (To.Cell c))) Counted) ≡ true → Has rows n
        go true is e = standing n k is (ap row_over (stands D s k n c h))
        go false is e = absurd (let bad : false ≡ true = e in cc)

    empty_cell : (c : CellId) (k : NodeId) → Has (content D n) (record { cell = c; node = k; full = false }) → tells (embed_cell p c k false) ≡ true → Has rows n
    empty_cell c k h e = go (is_here (how (put_of N k) (To.Cell c))) refl e
      where
        in_row : D.row_of c ≡ Some n
        in_row =
            let r = has-map (slot D) (D.rows n) (record { cell = c; node = k; full = false }) h in
            subst (λ d. D.row_of d ≡ Some n) (ap (λ (t : Slot). t.cell) r.2) ((s.one_row r.0.cell n).1 (r.0.node, r.1))

        go : (b : Bool) → is_here (how (put_of N k) (To.Cell c)) ≡ b → tells (cond b (Fill c k) (Gap c)) ≡ true → Has rows n
        go true is e =
            let put = put-has N k (To.Cell c) (put_there (put_of N k) c is) in
            targeted n (has-filter_map (λ (q : Put). option_and_then D.row_of (cell_of q.to)) N.put (record { node = k; to = To.Cell c }) n put in_row)
        go false is e = absurd (let bad : false ≡ true = e in cc)

    found : (t : Slot) → Has (content D n) t → tells (embed_cell p t.cell t.node t.full) ≡ true → Has rows n
    found t h e = go t.full refl
      where
        go : (b : Bool) → t.full ≡ b → Has rows n
        go true is = full_cell t.cell t.node (subst (λ b. Has (content D n) (record { cell = t.cell; node = t.node; full = b })) is h) (subst (λ b. tells (embed_cell p t.cell t.node b) ≡ true) is e)
        go false is = empty_cell t.cell t.node (subst (λ b. Has (content D n) (record { cell = t.cell; node = t.node; full = b })) is h) (subst (λ b. tells (embed_cell p t.cell t.node b) ≡ true) is e)

    either : (xs ys : List CellMark) → (list_any tells xs ≡ true → Has rows n) → (list_any tells ys ≡ true → Has rows n) → list_any tells (xs ++ ys) ≡ true → Has rows n
    either xs ys left right e = elim (or-cases (list_any tells xs) (list_any tells ys) (sym (list_any-append tells xs ys) ∙ e)) [
      | inl h ↦ left h
      | inr h ↦ right h
    ]

    cells : (ss : List Slot) → ((t : Slot) → Has ss t → Has (content D n) t) → list_any tells (embed_cells p ss) ≡ true → Has rows n
    cells [] there e = absurd (let bad : false ≡ true = e in cc)
    cells (t ∷ ss) there e = elim (or-cases (tells (embed_cell p t.cell t.node t.full)) (list_any tells (embed_made p (group_at N n (Some t.cell)) ++ embed_cells p ss)) e) [
      | inl h ↦ found t (there t (inl refl)) h
      | inr h ↦ either (embed_made p (group_at N n (Some t.cell))) (embed_cells p ss) (made (Some t.cell)) (cells ss (λ u k. there u (inr k))) h
    ]

    -- a row that tells something is one of them
    row_known : (r : RowMarks) → row_marks n (embed_row p (content D n)) ≡ Some r → Has rows n
    row_known r e =
        either (embed_made p (group_at N n None)) (embed_cells p (content D n)) (made None) (cells (content D n) (λ t h. h))
        (found_if (list_any tells (embed_row p (content D n))) _ r e)

  -- ## Registers

  abbrev registers : List FieldId
  registers = N.clear ++ filter_map (λ k. register_over (D.place k)) mentions

  register_known : (f : FieldId) (r : RegMark) → embed_register f (register_part m N f) (D.held f) ≡ Some r → Has registers f
  register_known f r e = elim (or-cases (clears N f) (holds_mentioned m (D.held f)) (found_if (clears N f || holds_mentioned m (D.held f)) _ r e)) [
    | inl h ↦ cleared h
    | inr h ↦ held (D.held f) refl h
  ]
    where
      cleared : clears N f ≡ true → Has registers f
      cleared h =
          let r = any-has (λ g. same_field g f) N.clear h in
          append_left N.clear (filter_map (λ k. register_over (D.place k)) mentions) f (subst (Has N.clear) (same_field-true r.0 f r.2) r.1)

      held : (o : Option NodeId) → D.held f ≡ o → holds_mentioned m o ≡ true → Has registers f
      held None at h = absurd (let bad : false ≡ true = h in cc)
      held (Some k) at h =
          append_right N.clear (filter_map (λ k. register_over (D.place k)) mentions) f
          (has-filter_map (λ k. register_over (D.place k)) mentions k f (mentioned-has k h) (ap register_over ((s.one_held k f).0 at)))

  -- ## Nodes

  loose_known : (n : NodeId) (l : Loose) → embed_loose m D N n ≡ Some l → Has mentions n
  loose_known n l e = mentioned-has n (first (m n) (is_nowhere (D.place n)) (not (same_node n root)) (found_if (is_loose m D n) _ l e))
    where
      first : (a b c : Bool) → (a && b && c) ≡ true → a ≡ true
      first true b c e = refl
      first false b c e = e

  need_known : (n x : NodeId) → cond (is_among N.need n) (Some n) None ≡ Some x → Has N.need n
  need_known n x e =
      let r = any-has (λ k. same_node k n) N.need (found_if (is_among N.need n) n x e) in
      subst (Has N.need) (same_node-true r.0 n r.2) r.1

  new_known : (n : NodeId) (x : NewNode) → new_node N n ≡ Some x → Has (map (λ (y : NewNode). y.node) N.new) n
  new_known n x e =
      let r = first-has (λ (y : NewNode). same_node y.node n) N.new x e in
      subst (Has (map (λ (y : NewNode). y.node) N.new)) (same_node-true x.node n r.1) (map-has (λ (y : NewNode). y.node) N.new x r.0)

  -- ## The schema

  has_base : (schema : Option (List ℕ)) → (b : Bool) × ((b ≡ true) ↔ HasBase D.schemas schema N.under)
  has_base None = (list_any (λ (e : SchemaEntry). same_rev e.rev N.under) D.schemas, among_revs D.schemas N.under)
  has_base (Some t) = (option_map_or (λ (e : SchemaEntry). same_rev e.rev N.under) (slice_get D.schemas (length D.schemas - 1)) false, last_rev D.schemas N.under)

  -- the change of the intent in the document
  pub has_change : (C : Change) × IsEmbedding D N C
  has_change =
      let base = has_base N.schema in
      let need = has_listing node_cmp node_cmp_total node_cmp_exact (λ (n : NodeId). n) (λ n. cond (is_among N.need n) (Some n) None) (λ k x e. picked (λ (n : NodeId). n) k (is_among N.need k) k x refl e) N.need need_known in
      let new = has_listing node_cmp node_cmp_total node_cmp_exact (λ (y : NewNode). y.node) (new_node N) (new_named N) (map (λ (y : NewNode). y.node) N.new) new_known in
      let listed = has_listing node_cmp node_cmp_total node_cmp_exact (λ (r : RowMarks). r.node) (λ n. row_marks n (embed_row (row_part m N n) (content D n))) (λ n r e. row_named n (embed_row (row_part m N n) (content D n)) r e) rows row_known in
      let regs = has_listing field_cmp field_cmp_total field_cmp_exact (λ (r : RegMark). r.field) (λ f. embed_register f (register_part m N f) (D.held f)) (λ f r e. register_named f (register_part m N f) (D.held f) r e) registers register_known in
      let loose = has_listing node_cmp node_cmp_total node_cmp_exact (λ (l : Loose). l.node) (embed_loose m D N) (λ n l e. picked (λ (x : Loose). x.node) n (is_loose m D n) _ l refl e) mentions loose_known in (
        record { rev = N.rev; under = N.under; base = base.0; need = need.0; new = new.0; rows = listed.0; regs = regs.0; loose = loose.0; schema = N.schema },
        record {
          mentioned = m;
          which = which;
          rev = refl;
          under = refl;
          base = base.1;
          schema = refl;
          need = need.1;
          new = new.1;
          rows = listed.1;
          regs = regs.1;
          loose = loose.1;
        },
      )
