-- The nodes of trees that a schema allows are as typed.
use Rattle.std.proofs.Common.{◌≡◌, ℕ, ◌+◌, Bool, true, false, List, [], ◌++◌, Option, Some, None, refl, sym, ap, ◌∙◌, subst, inl, inr, ◌⊎◌}
use Rattle.std.specs.List.{list_all}
use Rattle.std.specs.Cmp.Lexicographic.{slice_cmp}
use Rattle.st_ids.specs.Listing.{Has}
use Rattle.st_ids.specs.declared.names.Leaf.{Leaf}
use Rattle.st_ids.specs.declared.names.NodeId.{NodeId}
use Rattle.st_ids.specs.declared.names.Rev.{Rev}
use Rattle.std.specs.Ordering.{nat_cmp, is_lt}
use Rattle.st_tree.specs.Form.{is_row_alone, is_single, keys_rise}
use Rattle.st_tree.specs.Node.{Node, node, Fields, no_fields, field, Nodes, no_nodes, first}
use Rattle.st_tree.specs.Preorder.{node_named, cell_named, cells_taken, cell_count, item_cells, is_array as has_array_fields, at_of, tree_listed, fields_listed, items_listed, tops_listed}
use Rattle.st_tree.specs.Size.{node_count, item_count}
use Rattle.st_tree.specs.declared.flat.FlatAt.{FlatAt}
use Rattle.st_tree.specs.declared.flat.FlatNode.{FlatNode}
use Rattle.st_schema.specs.Conforms.{verdicts, fields_verdicts, items_verdicts, node_fits, is_as_typed, has_none, leaf_type, types_under}
use Rattle.st_schema.specs.Schema.{SchemaView, form_of, same}
use Rattle.st_schema.specs.declared.names.Form.{Form}
use Rattle.st_schema.specs.declared.names.Form.TheVariants.{Array, Map, Object}
use Rattle.st_marks.proofs.Members.{has-append, append_left, append_right}
use Rattle.st_edits.specs.ArrayTypes.{is_array_form}
use Rattle.st_schema_laws.specs.Edited.{TellsRows}
use Rattle.st_schema.proofs.Forms.{text_same}
use Rattle.st_lemmas.proofs.Bools.{and-true}
use Rattle.st_schema.proofs.AllowedForm.{all-parts}

-- a field is a row, or isn't
abbrev HasKind : Bool → Fields → Type 0
HasKind b no_fields = ⊥
HasKind b (field key row items rest) = (row ≡ b) ⊎ HasKind b rest

row_alone_kind : (b : Bool) (fs : Fields) → is_row_alone fs ≡ true → HasKind b fs → b ≡ true
row_alone_kind b no_fields e h = cc
row_alone_kind b (field key true items no_fields) e (inl q) = sym q
row_alone_kind b (field key true items no_fields) e (inr h) = absurd h
row_alone_kind b (field key false items no_fields) e h = cc
row_alone_kind b (field key row items (field key' row' items' rest)) e h = cc

rise_kind : (b : Bool) (before : List ℕ) (fs : Fields) → keys_rise before fs ≡ true → HasKind b fs → b ≡ false
rise_kind b before no_fields e h = absurd h
rise_kind b before (field key true items rest) e h = cc
rise_kind b before (field key false items rest) e (inl q) = sym q
rise_kind b before (field key false items rest) e (inr h) = rise_kind b key rest (and-true (is_lt (slice_cmp nat_cmp before key)) _ (and-true (is_single items) _ e).1).1 h

none_kind : (b : Bool) (fs : Fields) → has_none fs ≡ true → HasKind b fs → ⊥
none_kind b no_fields e h = h
none_kind b (field key row items rest) e h = cc

-- what it says of a node that it has a field of a kind
kind_form : (b : Bool) (form : Option Form) (ty : List ℕ) (leaf : Option Leaf) (fs : Fields) → is_as_typed form ty leaf fs ≡ true → HasKind b fs → (leaf ≡ None) × (is_array_form form ≡ b)
kind_form b form ty (Some v) fs fit h = absurd (none_kind b fs (and-true (same ty (leaf_type v)) (has_none fs) fit).1 h)
kind_form b None ty None fs fit h = absurd (cc)
kind_form b (Some (Array types)) ty None fs fit h = (refl, sym (row_alone_kind b fs fit h))
kind_form b (Some (Map types)) ty None fs fit h = (refl, sym (rise_kind b [] fs (and-true (keys_rise [] fs) _ fit).0 h))
kind_form b (Some (Object defs)) ty None fs fit h = (refl, sym (rise_kind b [] fs (and-true (keys_rise [] fs) _ fit).0 h))

first_kind : (fs : Fields) → has_array_fields fs ≡ true → HasKind true fs
first_kind no_fields e = absurd (cc)
first_kind (field key row items rest) e = inl e

leaf_form : (form : Option Form) (ty : List ℕ) (leaf : Option Leaf) (fs : Fields) (v : Leaf) → is_as_typed form ty leaf fs ≡ true → leaf ≡ Some v → ty ≡ leaf_type v
leaf_form form ty (Some u) fs v fit e = let q : u ≡ v = cc in text_same ty (leaf_type u) (and-true (same ty (leaf_type u)) (has_none fs) fit).0 ∙ ap leaf_type q
leaf_form None ty None fs v fit e = absurd (cc)
leaf_form (Some form) ty None fs v fit e = absurd (let bad : None ≡ Some v = e in cc)

-- beneath which node a place is, in its row (true) or in a register of it (false)
abbrev pub above_at : Bool → FlatAt → Option NodeId
above_at b FlatAt.Root = None
above_at b (FlatAt.Top c) = None
above_at true (FlatAt.Row r c) = Some r
above_at false (FlatAt.Row r c) = None
above_at true (FlatAt.Register f) = None
above_at false (FlatAt.Register f) = Some f.node

above_item : (b : Bool) (rev : Rev) (owner c : ℕ) (key : List ℕ) (row : Bool) (r : NodeId) → above_at b (at_of rev owner key row c) ≡ Some r → (r ≡ node_named rev owner) × (row ≡ b)
above_item true rev owner c key true r e = let q : node_named rev owner ≡ r = cc in (sym q, refl)
above_item false rev owner c key true r e = absurd (cc)
above_item true rev owner c key false r e = absurd (cc)
above_item false rev owner c key false r e = let q : node_named rev owner ≡ r = cc in (sym q, refl)

-- a node is a leaf of its value's type, and has a row only if its type has
pub record IsOwnTyped (is_array : List ℕ → Bool) (y : FlatNode) : Type 0 where
  pub row : y.row ≡ true → (y.leaf ≡ None) × (is_array y.ty ≡ true)
  pub leaf : (v : Leaf) → y.leaf ≡ Some v → y.ty ≡ leaf_type v

-- a node that has a row (true) or registers (false)
abbrev pub HasOwner : (List ℕ → Bool) → Bool → List FlatNode → NodeId → Type 0
HasOwner is_array b xs r = (z : FlatNode) × Has xs z × (z.node ≡ r) × (z.leaf ≡ None) × (is_array z.ty ≡ b)

module _ (s : SchemaView) (is_array : List ℕ → Bool) (tells : TellsRows is_array s) where
  abbrev Conforming : List Bool → Type 0
  Conforming bs = list_all (λ ok. ok) bs ≡ true

  owner_in : (b : Bool) (xs ys : List FlatNode) (r : NodeId) → ((z : FlatNode) → Has xs z → Has ys z) → HasOwner is_array b xs r → HasOwner is_array b ys r
  owner_in b xs ys r inside w = (w.0, inside w.0 w.1, w.2, w.3, w.4)

  mutual
    pub tree_own : (types : List (List ℕ)) (rev : Rev) (at : FlatAt) (n c : ℕ) (t : Node) → Conforming (verdicts s types t) → (y : FlatNode) → Has (tree_listed rev at n c t) y → IsOwnTyped is_array y
    tree_own types rev at n c (node ty leaf fs) ok y (inl e) =
        let fit = (and-true _ (is_as_typed (form_of s.types ty) ty leaf fs) (and-true (node_fits s types ty leaf fs) _ ok).0).1 in
        subst (IsOwnTyped is_array) e (record { row = λ r. (let w = kind_form true (form_of s.types ty) ty leaf fs fit (first_kind fs r) in (w.0, tells ty ∙ w.1)); leaf = λ v q. leaf_form (form_of s.types ty) ty leaf fs v fit q })
    tree_own types rev at n c (node ty leaf fs) ok y (inr h) = fields_own (form_of s.types ty) rev n (n + 1) c fs (and-true (node_fits s types ty leaf fs) _ ok).1 y h

    fields_own : (form : Option Form) (rev : Rev) (owner n c : ℕ) (fs : Fields) → Conforming (fields_verdicts s form fs) → (y : FlatNode) → Has (fields_listed rev owner n c fs) y → IsOwnTyped is_array y
    fields_own form rev owner n c no_fields ok y h = absurd h
    fields_own form rev owner n c (field key row items rest) ok y h =
        let oks = all-parts (items_verdicts s (types_under form key) items) (fields_verdicts s form rest) ok in
        elim (has-append (items_listed rev owner key row n c items) (fields_listed rev owner (n + item_count items) (c + item_cells row items) rest) y h) [
          | inl k ↦ items_own (types_under form key) rev owner key row n c items oks.0 y k
          | inr k ↦ fields_own form rev owner (n + item_count items) (c + item_cells row items) rest oks.1 y k
        ]

    items_own : (types : List (List ℕ)) (rev : Rev) (owner : ℕ) (key : List ℕ) (row : Bool) (n c : ℕ) (ts : Nodes) → Conforming (items_verdicts s types ts) → (y : FlatNode) → Has (items_listed rev owner key row n c ts) y → IsOwnTyped is_array y
    items_own types rev owner key row n c no_nodes ok y h = absurd h
    items_own types rev owner key row n c (first t ts) ok y h =
        let oks = all-parts (verdicts s types t) (items_verdicts s types ts) ok in
        elim (has-append (tree_listed rev (at_of rev owner key row c) n (c + cells_taken row) t) (items_listed rev owner key row (n + node_count t) (c + (cells_taken row + cell_count t)) ts) y h) [
          | inl k ↦ tree_own types rev (at_of rev owner key row c) n (c + cells_taken row) t oks.0 y k
          | inr k ↦ items_own types rev owner key row (n + node_count t) (c + (cells_taken row + cell_count t)) ts oks.1 y k
        ]

  -- a node in a row or register stands where the tree does, or beneath a node of the tree that has a row or registers
  mutual
    pub tree_owner : (b : Bool) (types : List (List ℕ)) (rev : Rev) (at : FlatAt) (n c : ℕ) (t : Node) → Conforming (verdicts s types t) → (y : FlatNode) (r : NodeId) → Has (tree_listed rev at n c t) y → above_at b y.at ≡ Some r
        → (above_at b at ≡ Some r) ⊎ HasOwner is_array b (tree_listed rev at n c t) r
    tree_owner b types rev at n c (node ty leaf fs) ok y r (inl e) q = inl (ap (λ (z : FlatNode). above_at b z.at) e ∙ q)
    tree_owner b types rev at n c (node ty leaf fs) ok y r (inr h) q =
        let parts = and-true (node_fits s types ty leaf fs) _ ok in
        let fit = (and-true _ (is_as_typed (form_of s.types ty) ty leaf fs) parts.0).1 in
        inr (elim (fields_owner b (form_of s.types ty) rev n (n + 1) c fs parts.1 y r h q) [
          | inl own ↦ (let w = kind_form b (form_of s.types ty) ty leaf fs fit own.1 in (record { node = node_named rev n; ty = ty; leaf = leaf; row = has_array_fields fs; at = at }, inl refl, sym own.0, w.0, tells ty ∙ w.1))
          | inr w ↦ owner_in b (fields_listed rev n (n + 1) c fs) (tree_listed rev at n c (node ty leaf fs)) r (λ z k. inr k) w
        ])

    fields_owner : (b : Bool) (form : Option Form) (rev : Rev) (owner n c : ℕ) (fs : Fields) → Conforming (fields_verdicts s form fs) → (y : FlatNode) (r : NodeId) → Has (fields_listed rev owner n c fs) y → above_at b y.at ≡ Some r
        → ((r ≡ node_named rev owner) × HasKind b fs) ⊎ HasOwner is_array b (fields_listed rev owner n c fs) r
    fields_owner b form rev owner n c no_fields ok y r h q = absurd h
    fields_owner b form rev owner n c (field key row items rest) ok y r h q =
        let oks = all-parts (items_verdicts s (types_under form key) items) (fields_verdicts s form rest) ok in
        let here = items_listed rev owner key row n c items in
        let later = fields_listed rev owner (n + item_count items) (c + item_cells row items) rest in
        elim (has-append here later y h) [
          | inl k ↦ elim (items_owner b (types_under form key) rev owner key row n c items oks.0 y r k q) [
            | inl own ↦ inl (own.0, inl own.1)
            | inr w ↦ inr (owner_in b here (here ++ later) r (append_left here later) w)
          ]
          | inr k ↦ elim (fields_owner b form rev owner (n + item_count items) (c + item_cells row items) rest oks.1 y r k q) [
            | inl own ↦ inl (own.0, inr own.1)
            | inr w ↦ inr (owner_in b later (here ++ later) r (append_right here later) w)
          ]
        ]

    items_owner : (b : Bool) (types : List (List ℕ)) (rev : Rev) (owner : ℕ) (key : List ℕ) (row : Bool) (n c : ℕ) (ts : Nodes) → Conforming (items_verdicts s types ts) → (y : FlatNode) (r : NodeId) → Has (items_listed rev owner key row n c ts) y
        → above_at b y.at ≡ Some r → ((r ≡ node_named rev owner) × (row ≡ b)) ⊎ HasOwner is_array b (items_listed rev owner key row n c ts) r
    items_owner b types rev owner key row n c no_nodes ok y r h q = absurd h
    items_owner b types rev owner key row n c (first t ts) ok y r h q =
        let oks = all-parts (verdicts s types t) (items_verdicts s types ts) ok in
        let here = tree_listed rev (at_of rev owner key row c) n (c + cells_taken row) t in
        let later = items_listed rev owner key row (n + node_count t) (c + (cells_taken row + cell_count t)) ts in
        elim (has-append here later y h) [
          | inl k ↦ elim (tree_owner b types rev (at_of rev owner key row c) n (c + cells_taken row) t oks.0 y r k q) [
            | inl own ↦ inl (above_item b rev owner c key row r own)
            | inr w ↦ inr (owner_in b here (here ++ later) r (append_left here later) w)
          ]
          | inr k ↦ elim (items_owner b types rev owner key row (n + node_count t) (c + (cells_taken row + cell_count t)) ts oks.1 y r k q) [
            | inl own ↦ inl own
            | inr w ↦ inr (owner_in b later (here ++ later) r (append_right here later) w)
          ]
        ]

  pub tops_own : (types : List (List ℕ)) (rev : Rev) (n c : ℕ) (ts : Nodes) → Conforming (items_verdicts s types ts) → (y : FlatNode) → Has (tops_listed rev n c ts) y → IsOwnTyped is_array y
  tops_own types rev n c no_nodes ok y h = absurd h
  tops_own types rev n c (first t ts) ok y h =
      let oks = all-parts (verdicts s types t) (items_verdicts s types ts) ok in
      elim (has-append (tree_listed rev (FlatAt.Top (cell_named rev c)) n (c + 1) t) (tops_listed rev (n + node_count t) (c + (1 + cell_count t)) ts) y h) [
        | inl k ↦ tree_own types rev (FlatAt.Top (cell_named rev c)) n (c + 1) t oks.0 y k
        | inr k ↦ tops_own types rev (n + node_count t) (c + (1 + cell_count t)) ts oks.1 y k
      ]

  pub tops_owner : (b : Bool) (types : List (List ℕ)) (rev : Rev) (n c : ℕ) (ts : Nodes) → Conforming (items_verdicts s types ts) → (y : FlatNode) (r : NodeId) → Has (tops_listed rev n c ts) y → above_at b y.at ≡ Some r
      → HasOwner is_array b (tops_listed rev n c ts) r
  tops_owner b types rev n c no_nodes ok y r h q = absurd h
  tops_owner b types rev n c (first t ts) ok y r h q =
      let oks = all-parts (verdicts s types t) (items_verdicts s types ts) ok in
      let here = tree_listed rev (FlatAt.Top (cell_named rev c)) n (c + 1) t in
      let later = tops_listed rev (n + node_count t) (c + (1 + cell_count t)) ts in
      elim (has-append here later y h) [
        | inl k ↦ elim (tree_owner b types rev (FlatAt.Top (cell_named rev c)) n (c + 1) t oks.0 y r k q) [ inl bad ↦ absurd (cc) | inr w ↦ owner_in b here (here ++ later) r (append_left here later) w ]
        | inr k ↦ owner_in b later (here ++ later) r (append_right here later) (tops_owner b types rev (n + node_count t) (c + (1 + cell_count t)) ts oks.1 y r k q)
      ]
