-- A document that has the nodes of new trees, as their list says, shows those trees.
use Rattle.std.proofs.Common.{◌≡◌, ℕ, ◌+◌, ◌<◌, ◌≤◌, Bool, true, false, cond, not, List, [], ◌∷◌, ◌++◌, map, Option, Some, None, is_some, refl, sym, ap, ◌∙◌, subst, arith, append-nil, inl, inr, ◌⊎◌}
use Rattle.std.specs.List.{cons_option, list_all}
use Rattle.std.specs.Ordering.{nat_cmp, is_lt}
use Rattle.std.specs.declared.cmp.Ordering.{Ordering}
use Rattle.std.specs.declared.cmp.Ordering.TheVariants.{Less}
use Rattle.std.specs.Cmp.Lexicographic.{slice_cmp, nat_list_cmp_total}
use Rattle.std.specs.FinMap.Entries.{find, below_all, is_sorted}
use Rattle.serde_json.specs.Data.{object}
use Rattle.st_ids.specs.Listing.{Has, item_of, key_pairs}
use Rattle.st_ids.specs.Order.{same_node}
use Rattle.st_ids.specs.declared.names.FieldId.{FieldId}
use Rattle.st_ids.specs.declared.names.NodeId.{NodeId}
use Rattle.st_ids.specs.declared.names.Rev.{Rev}
use Rattle.st_ids.proofs.Orders.{same_node-true, same_node-itself}
use Rattle.st_tree.specs.Node.{Node, node, Fields, no_fields, field, Nodes, no_nodes, first}
use Rattle.st_tree.specs.Size.{node_count, field_count, item_count}
use Rattle.st_tree.specs.Form.{is_row_alone, keys_rise, is_single}
use Rattle.st_tree.specs.Preorder.{node_named, cell_named, cells_taken, cell_count, item_cells, is_array as has_array_fields, at_of, tree_listed, fields_listed, items_listed, tops_listed}
use Rattle.st_tree.specs.declared.flat.FlatAt.{FlatAt}
use Rattle.st_tree.specs.declared.flat.FlatNode.{FlatNode}
use Rattle.st_schema.specs.Schema.{SchemaView, form_of}
use Rattle.st_schema.specs.Conforms.{verdicts, fields_verdicts, items_verdicts, node_fits, is_as_typed, types_under}
use Rattle.st_schema.specs.TreeText.{tree_data, body_data, members_data, trees_data}
use Rattle.st_schema.specs.declared.names.Form.{Form}
use Rattle.st_schema.specs.declared.names.Form.TheVariants.{Array, Map, Object}
use Rattle.st_marks.specs.declared.intents.Owned.{Owned}
use Rattle.st_marks.specs.Document.{Document, content}
use Rattle.st_marks.specs.LiveTree.{Shows, shows_leaf, shows_row, shows_registers, ShowsItems, no_more_items, next_item, ShowsMembers, no_more_members, next_member, owners_shown, register, key_at, one_member}
use Rattle.st_marks.proofs.Members.{has-append, append_left, append_right}
use Rattle.st_edits.specs.New.{owned_by, row_cell, cells_under}
use Rattle.st_opening.proofs.PreorderNames.{same_number}
use Rattle.st_edits.specs.ArrayTypes.{is_array_form}
use Rattle.st_schema_laws.specs.Edited.{TellsRows, same_key}
use Rattle.st_schema_laws.proofs.Along.{same_key-true, same_key-itself}
use Rattle.st_schema.proofs.AllowedForm.{all-parts}
use Rattle.st_lemmas.proofs.Bools.{and-both, and-true, true-false}
use Rattle.st_lemmas.proofs.Orders.{is_lt-Less}

-- ## Beneath which node a place is

abbrev pub under : FlatAt → Option NodeId
under FlatAt.Root = None
under (FlatAt.Top c) = None
under (FlatAt.Row r c) = Some r
under (FlatAt.Register f) = Some f.node

-- beneath a node of a number in a range
abbrev pub IsUnder : Rev → ℕ → ℕ → FlatAt → Type 0
IsUnder rev low high at = (k : ℕ) × (low ≤ k) × (k < high) × (under at ≡ Some (node_named rev k))

under_more : (rev : Rev) (low high l h : ℕ) (at : FlatAt) → l ≤ low → high ≤ h → IsUnder rev low high at → IsUnder rev l h at
under_more rev low high l h at p q w = (w.0, omega (arith, w.1, w.2), omega (arith, w.1, w.2), w.3)

-- a place is beneath one node
one_under : (rev : Rev) (j k : ℕ) (at : FlatAt) → under at ≡ Some (node_named rev j) → under at ≡ Some (node_named rev k) → j ≡ k
one_under rev j k at e f = let q : Some (node_named rev j) ≡ Some (node_named rev k) = sym e ∙ f in let same : node_named rev j ≡ node_named rev k = cc in same_number rev j k same

under_owner : (rev : Rev) (owner c : ℕ) (key : List ℕ) (row : Bool) → under (at_of rev owner key row c) ≡ Some (node_named rev owner)
under_owner rev owner c key true = refl
under_owner rev owner c key false = refl

-- the nodes of a tree stand where the tree stands, or beneath its nodes
mutual
  pub tree_under : (rev : Rev) (at : FlatAt) (n c : ℕ) (t : Node) (y : FlatNode) → Has (tree_listed rev at n c t) y → (y.at ≡ at) ⊎ IsUnder rev n (n + node_count t) y.at
  tree_under rev at n c (node ty leaf fs) y (inl e) = inl (ap (λ (z : FlatNode). z.at) (sym e))
  tree_under rev at n c (node ty leaf fs) y (inr h) = elim (fields_under rev n (n + 1) c fs y h) [
    | inl q ↦ inr (n, omega arith, omega arith, q)
    | inr w ↦ inr (under_more rev (n + 1) (n + 1 + field_count fs) n (n + (1 + field_count fs)) y.at (omega arith) (omega arith) w)
  ]

  pub fields_under : (rev : Rev) (owner n c : ℕ) (fs : Fields) (y : FlatNode) → Has (fields_listed rev owner n c fs) y → (under y.at ≡ Some (node_named rev owner)) ⊎ IsUnder rev n (n + field_count fs) y.at
  fields_under rev owner n c no_fields y h = absurd h
  fields_under rev owner n c (field key row items rest) y h =
      elim (has-append (items_listed rev owner key row n c items) (fields_listed rev owner (n + item_count items) (c + item_cells row items) rest) y h) [
        | inl k ↦ elim (items_under rev owner key row n c items y k) [
          | inl q ↦ inl q
          | inr w ↦ inr (under_more rev n (n + item_count items) n (n + (item_count items + field_count rest)) y.at (omega arith) (omega arith) w)
        ]
        | inr k ↦ elim (fields_under rev owner (n + item_count items) (c + item_cells row items) rest y k) [
          | inl q ↦ inl q
          | inr w ↦ inr (under_more rev (n + item_count items) (n + item_count items + field_count rest) n (n + (item_count items + field_count rest)) y.at (omega arith) (omega arith) w)
        ]
      ]

  pub items_under : (rev : Rev) (owner : ℕ) (key : List ℕ) (row : Bool) (n c : ℕ) (ts : Nodes) (y : FlatNode) → Has (items_listed rev owner key row n c ts) y
      → (under y.at ≡ Some (node_named rev owner)) ⊎ IsUnder rev n (n + item_count ts) y.at
  items_under rev owner key row n c no_nodes y h = absurd h
  items_under rev owner key row n c (first t ts) y h =
      elim (has-append (tree_listed rev (at_of rev owner key row c) n (c + cells_taken row) t) (items_listed rev owner key row (n + node_count t) (c + (cells_taken row + cell_count t)) ts) y h) [
        | inl k ↦ elim (tree_under rev (at_of rev owner key row c) n (c + cells_taken row) t y k) [
          | inl q ↦ inl (ap under q ∙ under_owner rev owner c key row)
          | inr w ↦ inr (under_more rev n (n + node_count t) n (n + (node_count t + item_count ts)) y.at (omega arith) (omega arith) w)
        ]
        | inr k ↦ elim (items_under rev owner key row (n + node_count t) (c + (cells_taken row + cell_count t)) ts y k) [
          | inl q ↦ inl q
          | inr w ↦ inr (under_more rev (n + node_count t) (n + node_count t + item_count ts) n (n + (node_count t + item_count ts)) y.at (omega arith) (omega arith) w)
        ]
      ]

-- ## The cells in a row

not_in_row : (r : NodeId) (at : FlatAt) → (under at ≡ Some r → ⊥) → row_cell r at ≡ None
not_in_row r FlatAt.Root out = refl
not_in_row r (FlatAt.Top c) out = refl
not_in_row r (FlatAt.Register f) out = refl
not_in_row r (FlatAt.Row m c) out = go (same_node m r) refl
  where
    go : (b : Bool) → same_node m r ≡ b → cond b (Some c) None ≡ None
    go false e = refl
    go true e = absurd (out (ap (λ x. Some x) (same_node-true m r e)))

pub no_cells : (xs : List FlatNode) (r : NodeId) → ((y : FlatNode) → Has xs y → under y.at ≡ Some r → ⊥) → cells_under xs r ≡ []
no_cells [] r out = refl
no_cells (x ∷ xs) r out = ap (λ o. cons_option (owned_by x.node o) (cells_under xs r)) (not_in_row r x.at (out x (inl refl))) ∙ no_cells xs r (λ y h. out y (inr h))

pub cells_joined : (xs ys : List FlatNode) (r : NodeId) → cells_under (xs ++ ys) r ≡ cells_under xs r ++ cells_under ys r
cells_joined [] ys r = refl
cells_joined (x ∷ xs) ys r = ap (cons_option (owned_by x.node (row_cell r x.at))) (cells_joined xs ys r) ∙ go (owned_by x.node (row_cell r x.at))
  where
    go : (o : Option Owned) → cons_option o (cells_under xs r ++ cells_under ys r) ≡ cons_option o (cells_under xs r) ++ cells_under ys r
    go None = refl
    go (Some y) = refl

-- ## A part of the list that has all that stands beneath some of the nodes

pub record Own (rev : Rev) (xs part : List FlatNode) (low high : ℕ) : Type 0 where
  pub inside : (y : FlatNode) → Has part y → Has xs y
  pub cells : (r : ℕ) → low ≤ r → r < high → cells_under xs (node_named rev r) ≡ cells_under part (node_named rev r)
  pub regs : (r : ℕ) → low ≤ r → r < high → (v : FlatNode) (f : FieldId) → Has xs v → v.at ≡ FlatAt.Register f → f.node ≡ node_named rev r → Has part v

abbrev Outside : Rev → List FlatNode → ℕ → ℕ → Type 0
Outside rev xs low high = (y : FlatNode) → Has xs y → IsUnder rev low high y.at → ⊥

pub own_left : (rev : Rev) (xs a b : List FlatNode) (low high l h : ℕ) → low ≤ l → h ≤ high → Outside rev b l h → Own rev xs (a ++ b) low high → Own rev xs a l h
own_left rev xs a b low high l h p q out w = record {
  inside = λ y k. w.inside y (append_left a b y k);
  cells = λ r lo hi. w.cells r (omega arith) (omega arith) ∙ cells_joined a b (node_named rev r) ∙ ap (λ os. cells_under a (node_named rev r) ++ os) (no_cells b (node_named rev r) (λ y k e. out y k (r, lo, hi, e)))
      ∙ append-nil (cells_under a (node_named rev r));
  regs = λ r lo hi v f k e n. elim (has-append a b v (w.regs r (omega arith) (omega arith) v f k e n)) [ inl i ↦ i | inr i ↦ absurd (out v i (r, lo, hi, ap under e ∙ ap (λ x. Some x) n)) ];
}

pub own_right : (rev : Rev) (xs a b : List FlatNode) (low high l h : ℕ) → low ≤ l → h ≤ high → Outside rev a l h → Own rev xs (a ++ b) low high → Own rev xs b l h
own_right rev xs a b low high l h p q out w = record {
  inside = λ y k. w.inside y (append_right a b y k);
  cells = λ r lo hi. w.cells r (omega arith) (omega arith) ∙ cells_joined a b (node_named rev r) ∙ ap (λ os. os ++ cells_under b (node_named rev r)) (no_cells a (node_named rev r) (λ y k e. out y k (r, lo, hi, e)));
  regs = λ r lo hi v f k e n. elim (has-append a b v (w.regs r (omega arith) (omega arith) v f k e n)) [ inl i ↦ absurd (out v i (r, lo, hi, ap under e ∙ ap (λ x. Some x) n)) | inr i ↦ i ];
}

-- beneath one node, which isn't in the range
outside_one : (rev : Rev) (xs : List FlatNode) (owner low high l h : ℕ) → owner < l → (high ≤ l) ⊎ (h ≤ low) → ((y : FlatNode) → Has xs y → (under y.at ≡ Some (node_named rev owner)) ⊎ IsUnder rev low high y.at) → Outside rev xs l h
outside_one rev xs owner low high l h less apart all y k w = elim (all y k) [
  | inl q ↦ (let same = one_under rev owner w.0 y.at q w.3 in omega (arith, same, less, w.1))
  | inr v ↦ (let same = one_under rev v.0 w.0 y.at v.3 w.3 in elim apart [ inl le ↦ omega (arith, same, le, v.2, w.1) | inr le ↦ omega (arith, same, le, v.1, w.2) ])
]

-- ## What a document that keeps the list has

pub record Keeps (E : Document) (xs : List FlatNode) : Type 0 where
  pub node_is : (z : FlatNode) → Has xs z → E.nodes z.node ≡ Some (record { ty = z.ty; leaf = z.leaf })
  pub row_is : (z : FlatNode) → Has xs z → owners_shown (content E z.node) ≡ map (λ (o : Owned). o.node) (cells_under xs z.node)
  pub in_register : (v : FlatNode) (z : FlatNode) (f : FieldId) → Has xs z → Has xs v → v.at ≡ FlatAt.Register f → f.node ≡ z.node → E.held f ≡ Some v.node
  pub from_register : (z : FlatNode) (f : FieldId) (y : NodeId) → Has xs z → f.node ≡ z.node → E.held f ≡ Some y → (v : FlatNode) × Has xs v × (v.at ≡ FlatAt.Register f)

-- ## Keys

abbrev keys_of : Fields → List (List ℕ)
keys_of no_fields = []
keys_of (field key row items rest) = key ∷ keys_of rest

abbrev bytes_cmp : List ℕ → List ℕ → Ordering
bytes_cmp = slice_cmp nat_cmp

abbrev itself : List ℕ → List ℕ
itself k = k

abbrev Rise : List ℕ → List ℕ → Bool → Bool → Fields → Type 0
Rise before key row single rest = (row ≡ false) × (single ≡ true) × (bytes_cmp before key ≡ Less) × (keys_rise key rest ≡ true)

rise_parts : (before key : List ℕ) (row : Bool) (items : Nodes) (rest : Fields) → keys_rise before (field key row items rest) ≡ true → Rise before key row (is_single items) rest
rise_parts before key row items rest e =
    let a = and-true (not row) _ e in
    let b = and-true (is_single items) _ a.1 in
    let c = and-true (is_lt (bytes_cmp before key)) _ b.1 in
    (off row a.0, b.0, is_lt-Less (bytes_cmp before key) c.0, c.1)
  where
    off : (b : Bool) → not b ≡ true → b ≡ false
    off true h = cc
    off false h = refl

below_keys : (b before : List ℕ) (fs : Fields) → keys_rise before fs ≡ true → ((k : List ℕ) → bytes_cmp before k ≡ Less → bytes_cmp b k ≡ Less) → below_all bytes_cmp b (key_pairs itself (keys_of fs)) ≡ true
below_keys b before no_fields e less = refl
below_keys b before (field key row items rest) e less =
    let r = rise_parts before key row items rest e in
    let here = less key r.2 in
    and-both (is_lt (bytes_cmp b key)) _ (ap is_lt here) (below_keys b key rest r.3 (λ k l. nat_list_cmp_total.trans b key k here l))

rising_keys : (before : List ℕ) (fs : Fields) → keys_rise before fs ≡ true → is_sorted bytes_cmp (key_pairs itself (keys_of fs)) ≡ true
rising_keys before no_fields e = refl
rising_keys before (field key row items rest) e =
    let r = rise_parts before key row items rest e in
    and-both (below_all bytes_cmp key (key_pairs itself (keys_of rest))) _ (below_keys key key rest r.3 (λ k l. l)) (rising_keys key rest r.3)

key_found : (k : List ℕ) (ks : List (List ℕ)) → Has ks k → find bytes_cmp k (key_pairs itself ks) ≡ Some k
key_found k [] h = absurd h
key_found k (l ∷ ks) h = go (same_key k l) refl h (λ i. key_found k ks i)
  where
    go : (b : Bool) → same_key k l ≡ b → (l ≡ k) ⊎ Has ks k → (Has ks k → find bytes_cmp k (key_pairs itself ks) ≡ Some k) → cond b (Some l) (find bytes_cmp k (key_pairs itself ks)) ≡ Some k
    go true e i rest = ap (λ x. Some x) (sym (same_key-true k l e))
    go false e (inl q) rest = absurd (true-false (same_key-itself k) (ap (same_key k) (sym q) ∙ e))
    go false e (inr i) rest = rest i

key_missed : (k : List ℕ) (ks : List (List ℕ)) → (Has ks k → ⊥) → find bytes_cmp k (key_pairs itself ks) ≡ None
key_missed k [] out = refl
key_missed k (l ∷ ks) out = go (same_key k l) refl (key_missed k ks (λ h. out (inr h)))
  where
    go : (b : Bool) → same_key k l ≡ b → find bytes_cmp k (key_pairs itself ks) ≡ None → cond b (Some l) (find bytes_cmp k (key_pairs itself ks)) ≡ None
    go true e rest = absurd (out (inl (sym (same_key-true k l e))))
    go false e rest = rest

key_there : (k : List ℕ) (ks : List (List ℕ)) → Has ks k ⊎ (Has ks k → ⊥)
key_there k [] = inr (λ h. h)
key_there k (l ∷ ks) = go (same_key k l) refl (key_there k ks)
  where
    go : (b : Bool) → same_key k l ≡ b → Has ks k ⊎ (Has ks k → ⊥) → Has (l ∷ ks) k ⊎ (Has (l ∷ ks) k → ⊥)
    go true e rest = inl (inl (sym (same_key-true k l e)))
    go false e (inl h) = inl (inr h)
    go false e (inr out) = inr (λ i. elim i [ inl q ↦ true-false (same_key-itself k) (ap (same_key k) (sym q) ∙ e) | inr h ↦ out h ])

-- the key of the register in which an item of a field stands
item_key : (rev : Rev) (owner : ℕ) (key : List ℕ) (row : Bool) (n c : ℕ) (ts : Nodes) (v : FlatNode) (f : FieldId) → owner < n → Has (items_listed rev owner key row n c ts) v → v.at ≡ FlatAt.Register f → f.node ≡ node_named rev owner → f.key.0 ≡ key
item_key rev owner key row n c no_nodes v f less h e own = absurd h
item_key rev owner key row n c (first t ts) v f less h e own =
    elim (has-append (tree_listed rev (at_of rev owner key row c) n (c + cells_taken row) t) (items_listed rev owner key row (n + node_count t) (c + (cells_taken row + cell_count t)) ts) v h) [
      | inl k ↦ elim (tree_under rev (at_of rev owner key row c) n (c + cells_taken row) t v k) [
        | inl q ↦ here row (sym q ∙ e)
        | inr w ↦ (let same = one_under rev owner w.0 v.at (ap under e ∙ ap (λ x. Some x) own) w.3 in absurd (omega (arith, same, less, w.1)))
      ]
      | inr k ↦ item_key rev owner key row (n + node_count t) (c + (cells_taken row + cell_count t)) ts v f (omega arith) k e own
    ]
  where
    here : (row : Bool) → at_of rev owner key row c ≡ FlatAt.Register f → f.key.0 ≡ key
    here true q = cc
    here false q = let g : record { node = node_named rev owner; key = record { 0 = key } } ≡ f = cc in ap (λ (g : FieldId). g.key.0) (sym g)

field_key : (rev : Rev) (owner n c : ℕ) (fs : Fields) (v : FlatNode) (f : FieldId) → owner < n → Has (fields_listed rev owner n c fs) v → v.at ≡ FlatAt.Register f → f.node ≡ node_named rev owner → Has (keys_of fs) f.key.0
field_key rev owner n c no_fields v f less h e own = absurd h
field_key rev owner n c (field key row items rest) v f less h e own =
    elim (has-append (items_listed rev owner key row n c items) (fields_listed rev owner (n + item_count items) (c + item_cells row items) rest) v h) [
      | inl k ↦ inl (sym (item_key rev owner key row n c items v f less k e own))
      | inr k ↦ inr (field_key rev owner (n + item_count items) (c + item_cells row items) rest v f (omega arith) k e own)
    ]

-- ## The tops of items

abbrev pub item_nodes : Rev → ℕ → Nodes → List NodeId
item_nodes rev n no_nodes = []
item_nodes rev n (first t ts) = node_named rev n ∷ item_nodes rev (n + node_count t) ts

abbrev pub inner : Rev → ℕ → ℕ → Node → List FlatNode
inner rev n c (node ty leaf fs) = fields_listed rev n (n + 1) c fs

abbrev pub top_of : Rev → FlatAt → ℕ → Node → FlatNode
top_of rev at n (node ty leaf fs) = record { node = node_named rev n; ty = ty; leaf = leaf; row = has_array_fields fs; at = at }

pub listed_parts : (rev : Rev) (at : FlatAt) (n c : ℕ) (t : Node) → tree_listed rev at n c t ≡ top_of rev at n t ∷ inner rev n c t
listed_parts rev at n c (node ty leaf fs) = refl

pub inner_under : (rev : Rev) (n c : ℕ) (t : Node) (y : FlatNode) → Has (inner rev n c t) y → IsUnder rev n (n + node_count t) y.at
inner_under rev n c (node ty leaf fs) y h = elim (fields_under rev n (n + 1) c fs y h) [
  | inl q ↦ (n, omega arith, omega arith, q)
  | inr w ↦ under_more rev (n + 1) (n + 1 + field_count fs) n (n + (1 + field_count fs)) y.at (omega arith) (omega arith) w
]

-- the items of a row stand in its cells
row_cells : (rev : Rev) (owner : ℕ) (key : List ℕ) (n c : ℕ) (ts : Nodes) → owner < n → map (λ (o : Owned). o.node) (cells_under (items_listed rev owner key true n c ts) (node_named rev owner)) ≡ item_nodes rev n ts
row_cells rev owner key n c no_nodes less = refl
row_cells rev owner key n c (first (node ty leaf fs) ts) less =
    let below = fields_listed rev n (n + 1) (c + 1) fs in
    let later = items_listed rev owner key true (n + node_count (node ty leaf fs)) (c + (1 + cell_count (node ty leaf fs))) ts in
    ap (λ b. map (λ (o : Owned). o.node) (cons_option (owned_by (node_named rev n) (cond b (Some (cell_named rev c)) None)) (cells_under (below ++ later) (node_named rev owner)))) (same_node-itself (node_named rev owner))
    ∙ ap (λ os. node_named rev n ∷ map (λ (o : Owned). o.node) os)
    (cells_joined below later (node_named rev owner)
    ∙ ap (λ os. os ++ cells_under later (node_named rev owner)) (no_cells below (node_named rev owner) (λ y h e.
    let w = inner_under rev n (c + 1) (node ty leaf fs) y h in
    let same = one_under rev owner w.0 y.at e w.3 in omega (arith, same, less, w.1))))
    ∙ ap (λ ns. node_named rev n ∷ ns) (row_cells rev owner key (n + node_count (node ty leaf fs)) (c + (1 + cell_count (node ty leaf fs))) ts (omega arith))

body_is : (before : List ℕ) (fs : Fields) → keys_rise before fs ≡ true → object (members_data fs) ≡ body_data fs
body_is before no_fields e = refl
body_is before (field key true items rest) e = cc
body_is before (field key false items rest) e = refl

-- ## A tree and what follows it in a list

pub top_at : (rev : Rev) (at : FlatAt) (n : ℕ) (t : Node) → (top_of rev at n t).at ≡ at
top_at rev at n (node ty leaf fs) = refl

pub top_node : (rev : Rev) (at : FlatAt) (n : ℕ) (t : Node) → (top_of rev at n t).node ≡ node_named rev n
top_node rev at n (node ty leaf fs) = refl

pub own_tree : (rev : Rev) (xs : List FlatNode) (at : FlatAt) (n d : ℕ) (t : Node) (later : List FlatNode) (low high : ℕ) → low ≤ n → n + node_count t ≤ high → (IsUnder rev n (n + node_count t) at → ⊥)
    → Outside rev later n (n + node_count t) → Own rev xs (tree_listed rev at n d t ++ later) low high → Has xs (top_of rev at n t) × Own rev xs (inner rev n d t) n (n + node_count t)
own_tree rev xs at n d t later low high p q apart out own =
    let o = subst (λ l. Own rev xs (l ++ later) low high) (listed_parts rev at n d t) own in (
      o.inside (top_of rev at n t) (inl refl),
      own_right rev xs (top_of rev at n t ∷ []) (inner rev n d t) n (n + node_count t) n (n + node_count t) (omega arith) (omega arith)
          (λ y h w. elim h [ inl e ↦ apart (subst (IsUnder rev n (n + node_count t)) (ap (λ (z : FlatNode). z.at) (sym e) ∙ top_at rev at n t) w) | inr k ↦ k ])
          (own_left rev xs (top_of rev at n t ∷ inner rev n d t) later low high n (n + node_count t) p q out o),
    )

first_tree : (rev : Rev) (xs : List FlatNode) (at : FlatAt) (owner n d : ℕ) (t : Node) (later : List FlatNode) (low high : ℕ) → low ≤ n → n + node_count t ≤ high → under at ≡ Some (node_named rev owner) → owner < n
    → Outside rev later n (n + node_count t) → Own rev xs (tree_listed rev at n d t ++ later) low high → Has xs (top_of rev at n t) × Own rev xs (inner rev n d t) n (n + node_count t)
first_tree rev xs at owner n d t later low high p q up less out own =
    own_tree rev xs at n d t later low high p q (λ w. let same = one_under rev owner w.0 at up w.3 in omega (arith, same, less, w.1)) out own

later_trees : (rev : Rev) (xs : List FlatNode) (at : FlatAt) (owner n d : ℕ) (t : Node) (later : List FlatNode) (low high l h : ℕ) → low ≤ l → h ≤ high → n + node_count t ≤ l → under at ≡ Some (node_named rev owner) → owner < n
    → Own rev xs (tree_listed rev at n d t ++ later) low high → Own rev xs later l h
later_trees rev xs at owner n d t later low high l h p q past up less own =
    own_right rev xs (tree_listed rev at n d t) later low high l h p q
    (λ y k w. elim (tree_under rev at n d t y k) [
      | inl e ↦ (let same = one_under rev owner w.0 y.at (ap under e ∙ up) w.3 in omega (arith, same, less, past, w.1))
      | inr v ↦ (let same = one_under rev v.0 w.0 y.at v.3 w.3 in omega (arith, same, past, v.2, w.1))
    ]) own

tops_under : (rev : Rev) (n c : ℕ) (ts : Nodes) (y : FlatNode) → Has (tops_listed rev n c ts) y → (under y.at ≡ None) ⊎ IsUnder rev n (n + item_count ts) y.at
tops_under rev n c no_nodes y h = absurd h
tops_under rev n c (first t ts) y h = elim (has-append (tree_listed rev (FlatAt.Top (cell_named rev c)) n (c + 1) t) (tops_listed rev (n + node_count t) (c + (1 + cell_count t)) ts) y h) [
  | inl k ↦ elim (tree_under rev (FlatAt.Top (cell_named rev c)) n (c + 1) t y k) [
    | inl q ↦ inl (ap under q)
    | inr w ↦ inr (under_more rev n (n + node_count t) n (n + (node_count t + item_count ts)) y.at (omega arith) (omega arith) w)
  ]
  | inr k ↦ elim (tops_under rev (n + node_count t) (c + (1 + cell_count t)) ts y k) [
    | inl q ↦ inl q
    | inr w ↦ inr (under_more rev (n + node_count t) (n + node_count t + item_count ts) n (n + (node_count t + item_count ts)) y.at (omega arith) (omega arith) w)
  ]
]

-- above nothing
pub no_under : (rev : Rev) (low high : ℕ) (at : FlatAt) → under at ≡ None → IsUnder rev low high at → ⊥
no_under rev low high at e w = let bad : None ≡ Some (node_named rev w.0) = sym e ∙ w.3 in cc

pub first_top : (rev : Rev) (xs : List FlatNode) (n c : ℕ) (t : Node) (ts : Nodes) (low high : ℕ) → low ≤ n → n + node_count t ≤ high → Own rev xs (tops_listed rev n c (first t ts)) low high
    → Has xs (top_of rev (FlatAt.Top (cell_named rev c)) n t) × Own rev xs (inner rev n (c + 1) t) n (n + node_count t)
first_top rev xs n c t ts low high p q own =
    own_tree rev xs (FlatAt.Top (cell_named rev c)) n (c + 1) t (tops_listed rev (n + node_count t) (c + (1 + cell_count t)) ts) low high p q (no_under rev n (n + node_count t) (FlatAt.Top (cell_named rev c)) refl)
    (λ y k w. elim (tops_under rev (n + node_count t) (c + (1 + cell_count t)) ts y k) [
      | inl e ↦ no_under rev n (n + node_count t) y.at e w
      | inr v ↦ (let same = one_under rev v.0 w.0 y.at v.3 w.3 in omega (arith, same, v.1, w.2))
    ]) own

later_tops : (rev : Rev) (xs : List FlatNode) (n c : ℕ) (t : Node) (ts : Nodes) → Own rev xs (tops_listed rev n c (first t ts)) n (n + (node_count t + item_count ts))
    → Own rev xs (tops_listed rev (n + node_count t) (c + (1 + cell_count t)) ts) (n + node_count t) (n + node_count t + item_count ts)
later_tops rev xs n c t ts own =
    own_right rev xs (tree_listed rev (FlatAt.Top (cell_named rev c)) n (c + 1) t) (tops_listed rev (n + node_count t) (c + (1 + cell_count t)) ts) n (n + (node_count t + item_count ts)) (n + node_count t) (n + node_count t + item_count ts)
    (omega arith) (omega arith)
    (λ y k w. elim (tree_under rev (FlatAt.Top (cell_named rev c)) n (c + 1) t y k) [
      | inl e ↦ no_under rev (n + node_count t) (n + node_count t + item_count ts) y.at (ap under e) w
      | inr v ↦ (let same = one_under rev v.0 w.0 y.at v.3 w.3 in omega (arith, same, v.2, w.1))
    ]) own

-- beneath the node of a tree's fields
own_fields : (rev : Rev) (xs : List FlatNode) (n c : ℕ) (fs : Fields) → Own rev xs (fields_listed rev n (n + 1) c fs) n (n + (1 + field_count fs)) → Own rev xs (fields_listed rev n (n + 1) c fs) (n + 1) (n + 1 + field_count fs)
own_fields rev xs n c fs own = record {
  inside = own.inside;
  cells = λ r lo hi. own.cells r (omega arith) (omega arith);
  regs = λ r lo hi. own.regs r (omega arith) (omega arith);
}

-- ## The trees

module _ (s : SchemaView) (is_array : List ℕ → Bool) (tells : TellsRows is_array s) (rev : Rev) (E : Document) (xs : List FlatNode) (w : Keeps E xs) where
  abbrev Conforming : List Bool → Type 0
  Conforming bs = list_all (λ ok. ok) bs ≡ true

  -- what the first field shows, if it is a row
  abbrev RowShown : ℕ → Fields → Type 0
  RowShown n no_fields = Unit {0}
  RowShown n (field key true items rest) = ShowsItems is_array E (item_nodes rev n items) (trees_data items)
  RowShown n (field key false items rest) = Unit {0}

  -- the fields of a node by its form
  row_shown : (n c : ℕ) (ty : List ℕ) (fs : Fields) (at : FlatAt) → is_array ty ≡ true → is_row_alone fs ≡ true → Has xs (top_of rev at n (node ty None fs)) → Own rev xs (fields_listed rev n (n + 1) c fs) n (n + (1 + field_count fs))
      → RowShown (n + 1) fs → Shows is_array E (node_named rev n) (tree_data (node ty None fs))
  row_shown n c ty no_fields at rowed alone h own shown = cc
  row_shown n c ty (field key row items (field key' row' items' rest)) at rowed alone h own shown = cc
  row_shown n c ty (field key false items no_fields) at rowed alone h own shown = cc
  row_shown n c ty (field key true items no_fields) at rowed alone h own shown =
      shows_row (node_named rev n) ty (trees_data items) (w.node_is (top_of rev at n (node ty None (field key true items no_fields))) h) rowed
      (subst (λ ns. ShowsItems is_array E ns (trees_data items)) (sym cells) shown)
    where
      cells : owners_shown (content E (node_named rev n)) ≡ item_nodes rev (n + 1) items
      cells =
          w.row_is (top_of rev at n (node ty None (field key true items no_fields))) h
          ∙ ap (map (λ (o : Owned). o.node)) (own.cells n (omega arith) (omega arith))
          ∙ ap (λ l. map (λ (o : Owned). o.node) (cells_under l (node_named rev n))) (append-nil (items_listed rev n key true (n + 1) c items))
          ∙ row_cells rev n key (n + 1) c items (omega arith)

  keyed_shown : (n c : ℕ) (ty : List ℕ) (fs : Fields) (at : FlatAt) → is_array ty ≡ false → keys_rise [] fs ≡ true → Has xs (top_of rev at n (node ty None fs)) → Own rev xs (fields_listed rev n (n + 1) c fs) n (n + (1 + field_count fs))
      → ((k : List ℕ) → Has (keys_of fs) k → is_some (E.held (register (node_named rev n) k)) ≡ true) → ShowsMembers is_array E (node_named rev n) (keys_of fs) (members_data fs) → Shows is_array E (node_named rev n) (tree_data (node ty None fs))
  keyed_shown n c ty fs at unrowed rises h own there shown =
      subst (λ d. Shows is_array E (node_named rev n) (one_member ty d)) (body_is [] fs rises)
      (shows_registers (node_named rev n) ty (keys_of fs) (members_data fs) (w.node_is (top_of rev at n (node ty None fs)) h) unrowed
      (record { rising = rising_keys [] fs rises; at_each = λ k. each k (key_there k (keys_of fs)) }) shown)
    where
      none : (k : List ℕ) → (Has (keys_of fs) k → ⊥) → (o : Option NodeId) → E.held (register (node_named rev n) k) ≡ o → cond (is_some o) (Some k) None ≡ None
      none k out None e = refl
      none k out (Some y) e =
          let v = w.from_register (top_of rev at n (node ty None fs)) (register (node_named rev n) k) y h refl e in
          absurd (out (field_key rev n (n + 1) c fs v.0 (register (node_named rev n) k) (omega arith) (own.regs n (omega arith) (omega arith) v.0 (register (node_named rev n) k) v.1 v.2 refl) v.2 refl))

      each : (k : List ℕ) → Has (keys_of fs) k ⊎ (Has (keys_of fs) k → ⊥) → item_of bytes_cmp itself (keys_of fs) k ≡ key_at E (node_named rev n) k
      each k (inl i) = key_found k (keys_of fs) i ∙ sym (ap (λ b. cond b (Some k) None) (there k i))
      each k (inr out) = key_missed k (keys_of fs) out ∙ sym (none k out (E.held (register (node_named rev n) k)) refl)

  -- a member is held
  abbrev HoldsEach : ℕ → Fields → Type 0
  HoldsEach owner fs = (k : List ℕ) → Has (keys_of fs) k → is_some (E.held (register (node_named rev owner) k)) ≡ true

  -- by the form of a node that isn't a leaf
  by_form : (n c : ℕ) (ty : List ℕ) (fs : Fields) (at : FlatAt) (form : Option Form) → form_of s.types ty ≡ form → is_as_typed form ty None fs ≡ true → Has xs (top_of rev at n (node ty None fs))
      → Own rev xs (fields_listed rev n (n + 1) c fs) n (n + (1 + field_count fs))
      → RowShown (n + 1) fs → (keys_rise [] fs ≡ true → HoldsEach n fs × ShowsMembers is_array E (node_named rev n) (keys_of fs) (members_data fs)) → Shows is_array E (node_named rev n) (tree_data (node ty None fs))
  by_form n c ty fs at None e fit h own rowed keyed = cc
  by_form n c ty fs at (Some (Array types)) e fit h own rowed keyed = row_shown n c ty fs at (tells ty ∙ ap is_array_form e) fit h own rowed
  by_form n c ty fs at (Some (Map types)) e fit h own rowed keyed =
      let rises = (and-true (keys_rise [] fs) _ fit).0 in
      let k = keyed rises in
      keyed_shown n c ty fs at (tells ty ∙ ap is_array_form e) rises h own k.0 k.1
  by_form n c ty fs at (Some (Object defs)) e fit h own rowed keyed =
      let rises = (and-true (keys_rise [] fs) _ fit).0 in
      let k = keyed rises in
      keyed_shown n c ty fs at (tells ty ∙ ap is_array_form e) rises h own k.0 k.1

  mutual
    pub tree_shown : (types : List (List ℕ)) (at : FlatAt) (n c : ℕ) (t : Node) → Conforming (verdicts s types t) → Has xs (top_of rev at n t) → Own rev xs (inner rev n c t) n (n + node_count t)
        → Shows is_array E (node_named rev n) (tree_data t)
    tree_shown types at n c (node ty (Some v) fs) ok h own = shows_leaf (node_named rev n) ty v (w.node_is (top_of rev at n (node ty (Some v) fs)) h)
    tree_shown types at n c (node ty None fs) ok h own =
        let parts = and-true (node_fits s types ty None fs) _ ok in
        by_form n c ty fs at (form_of s.types ty) refl (and-true _ (is_as_typed (form_of s.types ty) ty None fs) parts.0).1 h own
        (one_field_shown (form_of s.types ty) n (n + 1) c fs parts.1 (omega arith) (own_fields rev xs n c fs own))
        (λ rises. fields_shown (form_of s.types ty) [] n (n + 1) c fs parts.1 rises (omega arith) (top_of rev at n (node ty None fs)) h refl (own_fields rev xs n c fs own))

    -- the row of an array node
    one_field_shown : (form : Option Form) (owner n c : ℕ) (fs : Fields) → Conforming (fields_verdicts s form fs) → owner < n → Own rev xs (fields_listed rev owner n c fs) n (n + field_count fs)
        → RowShown n fs
    one_field_shown form owner n c no_fields ok less own = tt
    one_field_shown form owner n c (field key false items rest) ok less own = tt
    one_field_shown form owner n c (field key true items rest) ok less own =
        items_shown (types_under form key) owner key n c items (all-parts (items_verdicts s (types_under form key) items) (fields_verdicts s form rest) ok).0 less
        (own_left rev xs (items_listed rev owner key true n c items) (fields_listed rev owner (n + item_count items) (c + item_cells true items) rest) n (n + (item_count items + field_count rest)) n (n + item_count items) (omega arith) (omega arith)
        (outside_one rev (fields_listed rev owner (n + item_count items) (c + item_cells true items) rest) owner (n + item_count items) (n + item_count items + field_count rest) n (n + item_count items) less (inr (omega arith))
        (fields_under rev owner (n + item_count items) (c + item_cells true items) rest)) own)

    fields_shown : (form : Option Form) (before : List ℕ) (owner n c : ℕ) (fs : Fields) → Conforming (fields_verdicts s form fs) → keys_rise before fs ≡ true → owner < n
        → (z : FlatNode) → Has xs z → z.node ≡ node_named rev owner → Own rev xs (fields_listed rev owner n c fs) n (n + field_count fs)
        → HoldsEach owner fs × ShowsMembers is_array E (node_named rev owner) (keys_of fs) (members_data fs)
    fields_shown form before owner n c no_fields ok rises less z h same own = ((λ k i. absurd i), no_more_members (node_named rev owner))
    fields_shown form before owner n c (field key true items rest) ok rises less z h same own = cc
    fields_shown form before owner n c (field key false no_nodes rest) ok rises less z h same own = cc
    fields_shown form before owner n c (field key false (first t (first u ts)) rest) ok rises less z h same own = cc
    fields_shown form before owner n c (field key false (first t no_nodes) rest) ok rises less z h same own =
        let r = rise_parts before key false (first t no_nodes) rest rises in
        let oks = all-parts (verdicts s (types_under form key) t ++ []) (fields_verdicts s form rest) ok in
        let f = register (node_named rev owner) key in
        let at = FlatAt.Register f in
        let here = tree_listed rev at n (c + 0) t ++ [] in
        let later = fields_listed rev owner (n + (node_count t + 0)) (c + item_cells false (first t no_nodes)) rest in
        let all_here = items_under rev owner key false n c (first t no_nodes) in
        let all_later = fields_under rev owner (n + (node_count t + 0)) (c + item_cells false (first t no_nodes)) rest in
        let own_here = own_left rev xs here later n (n + (node_count t + 0 + field_count rest)) n (n + node_count t) (omega arith) (omega arith)
        (outside_one rev later owner (n + (node_count t + 0)) (n + (node_count t + 0) + field_count rest) n (n + node_count t) less (inr (omega arith)) all_later) own in
        let own_later = own_right rev xs here later n (n + (node_count t + 0 + field_count rest)) (n + (node_count t + 0)) (n + (node_count t + 0) + field_count rest) (omega arith) (omega arith)
        (outside_one rev here owner n (n + (node_count t + 0)) (n + (node_count t + 0)) (n + (node_count t + 0) + field_count rest) (omega arith) (inl (omega arith)) all_here) own in
        let tree = first_tree rev xs at owner n (c + 0) t [] n (n + node_count t) (omega arith) (omega arith) refl less (λ y k _. k) own_here in
        let held : E.held f ≡ Some (node_named rev n) = w.in_register (top_of rev at n t) z f h tree.0 (top_at rev at n t) (sym same) ∙ ap (λ x. Some x) (top_node rev at n t) in
        let rest_shown = fields_shown form key owner (n + (node_count t + 0)) (c + item_cells false (first t no_nodes)) rest oks.1 r.3 (omega arith) z h same own_later in (
          (λ k i. elim i [
            | inl q ↦ ap (λ l. is_some (E.held (register (node_named rev owner) l))) (sym q) ∙ ap is_some held
            | inr j ↦ rest_shown.0 k j
          ]),
          next_member (node_named rev owner) (node_named rev n) key (tree_data t) (keys_of rest) (members_data rest) held
              (tree_shown (types_under form key) at n (c + 0) t (all-parts (verdicts s (types_under form key) t) [] oks.0).0 tree.0 tree.1) rest_shown.1,
        )

    items_shown : (types : List (List ℕ)) (owner : ℕ) (key : List ℕ) (n c : ℕ) (ts : Nodes) → Conforming (items_verdicts s types ts) → owner < n → Own rev xs (items_listed rev owner key true n c ts) n (n + item_count ts)
        → ShowsItems is_array E (item_nodes rev n ts) (trees_data ts)
    items_shown types owner key n c no_nodes ok less own = no_more_items
    items_shown types owner key n c (first t ts) ok less own =
        let oks = all-parts (verdicts s types t) (items_verdicts s types ts) ok in
        let at = FlatAt.Row (node_named rev owner) (cell_named rev c) in
        let later = items_listed rev owner key true (n + node_count t) (c + (1 + cell_count t)) ts in
        let all_later = items_under rev owner key true (n + node_count t) (c + (1 + cell_count t)) ts in
        let tree = first_tree rev xs at owner n (c + 1) t later n (n + (node_count t + item_count ts)) (omega arith) (omega arith) refl less
        (outside_one rev later owner (n + node_count t) (n + node_count t + item_count ts) n (n + node_count t) less (inr (omega arith)) all_later) own in
        next_item (node_named rev n) (tree_data t) (item_nodes rev (n + node_count t) ts) (trees_data ts) (tree_shown types at n (c + 1) t oks.0 tree.0 tree.1)
        (items_shown types owner key (n + node_count t) (c + (1 + cell_count t)) ts oks.1 (omega arith)
        (later_trees rev xs at owner n (c + 1) t later n (n + (node_count t + item_count ts)) (n + node_count t) (n + node_count t + item_count ts) (omega arith) (omega arith) (omega arith) refl less own))

  -- new top items
  pub tops_shown : (types : List (List ℕ)) (n c : ℕ) (ts : Nodes) → Conforming (items_verdicts s types ts) → Own rev xs (tops_listed rev n c ts) n (n + item_count ts) → ShowsItems is_array E (item_nodes rev n ts) (trees_data ts)
  tops_shown types n c no_nodes ok own = no_more_items
  tops_shown types n c (first t ts) ok own =
      let oks = all-parts (verdicts s types t) (items_verdicts s types ts) ok in
      let tree = first_top rev xs n c t ts n (n + (node_count t + item_count ts)) (omega arith) (omega arith) own in
      next_item (node_named rev n) (tree_data t) (item_nodes rev (n + node_count t) ts) (trees_data ts) (tree_shown types (FlatAt.Top (cell_named rev c)) n (c + 1) t oks.0 tree.0 tree.1)
      (tops_shown types (n + node_count t) (c + (1 + cell_count t)) ts oks.1 (later_tops rev xs n c t ts own))
