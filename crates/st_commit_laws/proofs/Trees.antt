-- The nodes of trees that a sound schema allows: their values fit their types, and the registers in which they stand have
-- keys of at most 64 bytes. And the names that are given to the nodes of a tree are below the numbers that come after it.
use Rattle.std.proofs.Common.{◌≡◌, ◌<◌, ◌≤◌, ℕ, ◌+◌, Bool, true, false, List, [], length, Option, Some, None, IfSome, is_some, subst, refl, sym, inl, inr, arith}
use Rattle.std.specs.List.{list_all}
use Rattle.st_lemmas.proofs.Bools.{and-true}
use Rattle.st_lemmas.proofs.Lists.{length-zero}
use Rattle.st_ids.specs.Listing.{Has}
use Rattle.st_ids.specs.declared.names.Leaf.{Leaf}
use Rattle.st_ids.specs.declared.names.Rev.{Rev}
use Rattle.st_tree.specs.Form.{is_row_alone, keys_rise}
use Rattle.st_tree.specs.Node.{Node, node, Fields, no_fields, field, Nodes, no_nodes, first}
use Rattle.st_tree.specs.Preorder.{at_of, cell_count, cell_named, cells_taken, field_cells, fields_listed, item_cells, items_listed, tops_listed, tree_listed}
use Rattle.st_tree.specs.Size.{field_count, item_count, node_count}
use Rattle.st_tree.specs.declared.flat.FlatAt.{FlatAt}
use Rattle.st_tree.specs.declared.flat.FlatNode.{FlatNode}
use Rattle.st_schema.specs.Conforms.{fields_verdicts, has_none, have_rules, is_as_typed, items_verdicts, leaf_type, node_fits, types_under, verdicts}
use Rattle.st_schema.specs.Schema.{SchemaView, field_in, form_of, is_among, is_sound, same}
use Rattle.st_schema.specs.declared.names.FieldRule.{FieldRule}
use Rattle.st_schema.specs.declared.names.Form.{Form}
use Rattle.st_schema.specs.declared.names.Form.TheVariants.{Array, Map, Object}
use Rattle.st_schema.proofs.AllowedForm.{all-parts}
use Rattle.st_marks.proofs.Members.{has-append}
use Rattle.st_opening.specs.Start.{register_at}
use Rattle.st_change_laws.specs.Within.{KeyIsShort, LeafFits}
use Rattle.st_commit_laws.specs.Tellable.{AllLeavesAreShort, FieldLeavesAreShort, LeavesAreShort}
use Rattle.st_commit_laws.proofs.Keys.{form_key_short, typed_leaf}

abbrev Conforming : List Bool → Type 0
Conforming bs = list_all (λ ok. ok) bs ≡ true

-- if a node stands in a register, that one's key is short
abbrev pub HasShortKey : FlatAt → Type 0
HasShortKey at = IfSome (register_at at) KeyIsShort

module _ (s : SchemaView) (sound : is_sound s ≡ true) where
  -- ## Values

  mutual
    tree_leaves : (types : List (List ℕ)) (rev : Rev) (at : FlatAt) (n c : ℕ) (t : Node) → Conforming (verdicts s types t) → LeavesAreShort t → (y : FlatNode) → Has (tree_listed rev at n c t) y → LeafFits y.ty y.leaf
    tree_leaves types rev at n c (node ty leaf fs) ok short y (inl e) =
        let fit = (and-true (is_among ty types) (is_as_typed (form_of s.types ty) ty leaf fs) (and-true (node_fits s types ty leaf fs) _ ok).0).1 in
        subst (λ (z : FlatNode). LeafFits z.ty z.leaf) e (typed_leaf s sound ty leaf fs fit short.0)
    tree_leaves types rev at n c (node ty leaf fs) ok short y (inr h) =
        fields_leaves (form_of s.types ty) rev n (n + 1) c fs (and-true (node_fits s types ty leaf fs) _ ok).1 short.1 y h

    fields_leaves : (form : Option Form) (rev : Rev) (owner n c : ℕ) (fs : Fields) → Conforming (fields_verdicts s form fs) → FieldLeavesAreShort fs → (y : FlatNode) → Has (fields_listed rev owner n c fs) y → LeafFits y.ty y.leaf
    fields_leaves form rev owner n c no_fields ok short y h = absurd h
    fields_leaves form rev owner n c (field key row items rest) ok short y h =
        let oks = all-parts (items_verdicts s (types_under form key) items) (fields_verdicts s form rest) ok in
        elim (has-append (items_listed rev owner key row n c items) (fields_listed rev owner (n + item_count items) (c + item_cells row items) rest) y h) [
          | inl k ↦ items_leaves (types_under form key) rev owner key row n c items oks.0 short.0 y k
          | inr k ↦ fields_leaves form rev owner (n + item_count items) (c + item_cells row items) rest oks.1 short.1 y k
        ]

    items_leaves : (types : List (List ℕ)) (rev : Rev) (owner : ℕ) (key : List ℕ) (row : Bool) (n c : ℕ) (ts : Nodes) → Conforming (items_verdicts s types ts) → AllLeavesAreShort ts → (y : FlatNode) → Has (items_listed rev owner key row n c ts) y → LeafFits y.ty y.leaf
    items_leaves types rev owner key row n c no_nodes ok short y h = absurd h
    items_leaves types rev owner key row n c (first t ts) ok short y h =
        let oks = all-parts (verdicts s types t) (items_verdicts s types ts) ok in
        elim (has-append (tree_listed rev (at_of rev owner key row c) n (c + cells_taken row) t) (items_listed rev owner key row (n + node_count t) (c + (cells_taken row + cell_count t)) ts) y h) [
          | inl k ↦ tree_leaves types rev (at_of rev owner key row c) n (c + cells_taken row) t oks.0 short.0 y k
          | inr k ↦ items_leaves types rev owner key row (n + node_count t) (c + (cells_taken row + cell_count t)) ts oks.1 short.1 y k
        ]

  pub tops_leaves : (types : List (List ℕ)) (rev : Rev) (n c : ℕ) (ts : Nodes) → Conforming (items_verdicts s types ts) → AllLeavesAreShort ts → (y : FlatNode) → Has (tops_listed rev n c ts) y → LeafFits y.ty y.leaf
  tops_leaves types rev n c no_nodes ok short y h = absurd h
  tops_leaves types rev n c (first t ts) ok short y h =
      let oks = all-parts (verdicts s types t) (items_verdicts s types ts) ok in
      elim (has-append (tree_listed rev (FlatAt.Top (cell_named rev c)) n (c + 1) t) (tops_listed rev (n + node_count t) (c + (1 + cell_count t)) ts) y h) [
        | inl k ↦ tree_leaves types rev (FlatAt.Top (cell_named rev c)) n (c + 1) t oks.0 short.0 y k
        | inr k ↦ tops_leaves types rev (n + node_count t) (c + (1 + cell_count t)) ts oks.1 short.1 y k
      ]

  -- ## Keys

  -- each key of the fields is short
  abbrev HaveShortKeys : Fields → Type 0
  HaveShortKeys no_fields = Unit {0}
  HaveShortKeys (field key row items rest) = (length key ≤ 64) × HaveShortKeys rest

  ruled_keys : (ty : List ℕ) (form : Form) (fs : Fields) → form_of s.types ty ≡ Some form → have_rules form fs ≡ true → HaveShortKeys fs
  ruled_keys ty form no_fields is e = tt
  ruled_keys ty form (field key row items rest) is e =
      let both = and-true (is_some (field_in form key)) (have_rules form rest) e in
      (go (field_in form key) refl both.0, ruled_keys ty form rest is both.1)
    where
      go : (o : Option FieldRule) → field_in form key ≡ o → is_some o ≡ true → length key ≤ 64
      go None q f = absurd (cc)
      go (Some rule) q f = form_key_short s sound ty key form rule is q

  alone_keys : (fs : Fields) → is_row_alone fs ≡ true → HaveShortKeys fs
  alone_keys no_fields e = tt
  alone_keys (field key row items no_fields) e =
      let none : key ≡ [] = length-zero key (and-true row _ e).1 in
      let short : length key ≤ 64 = subst (λ (k : List ℕ). length k ≤ 64) (sym none) (omega arith) in
      (short, tt)
  alone_keys (field key row items (field key' row' items' rest)) e = absurd (cc)

  none_keys : (fs : Fields) → has_none fs ≡ true → HaveShortKeys fs
  none_keys no_fields e = tt
  none_keys (field key row items rest) e = absurd (cc)

  typed_keys : (ty : List ℕ) (leaf : Option Leaf) (fs : Fields) → is_as_typed (form_of s.types ty) ty leaf fs ≡ true → HaveShortKeys fs
  typed_keys ty (Some v) fs e = none_keys fs (and-true (same ty (leaf_type v)) (has_none fs) e).1
  typed_keys ty None fs e = go (form_of s.types ty) refl e
    where
      go : (o : Option Form) → form_of s.types ty ≡ o → is_as_typed o ty None fs ≡ true → HaveShortKeys fs
      go None q f = absurd (cc)
      go (Some (Array types)) q f = alone_keys fs f
      go (Some (Map types)) q f = ruled_keys ty (Map types) fs q (and-true (keys_rise [] fs) _ f).1
      go (Some (Object defs)) q f = ruled_keys ty (Object defs) fs q (and-true (have_rules (Object defs) fs) _ (and-true (keys_rise [] fs) _ f).1).0

  item_key : (rev : Rev) (owner : ℕ) (key : List ℕ) (row : Bool) (c : ℕ) → length key ≤ 64 → HasShortKey (at_of rev owner key row c)
  item_key rev owner key true c short = tt
  item_key rev owner key false c short = short

  mutual
    pub tree_keys : (types : List (List ℕ)) (rev : Rev) (at : FlatAt) (n c : ℕ) (t : Node) → HasShortKey at → Conforming (verdicts s types t) → (y : FlatNode) → Has (tree_listed rev at n c t) y → HasShortKey y.at
    tree_keys types rev at n c (node ty leaf fs) own ok y (inl e) = subst (λ (z : FlatNode). HasShortKey z.at) e own
    tree_keys types rev at n c (node ty leaf fs) own ok y (inr h) =
        let parts = and-true (node_fits s types ty leaf fs) _ ok in
        let fit = (and-true (is_among ty types) (is_as_typed (form_of s.types ty) ty leaf fs) parts.0).1 in
        fields_keys (form_of s.types ty) rev n (n + 1) c fs (typed_keys ty leaf fs fit) parts.1 y h

    fields_keys : (form : Option Form) (rev : Rev) (owner n c : ℕ) (fs : Fields) → HaveShortKeys fs → Conforming (fields_verdicts s form fs) → (y : FlatNode) → Has (fields_listed rev owner n c fs) y → HasShortKey y.at
    fields_keys form rev owner n c no_fields short ok y h = absurd h
    fields_keys form rev owner n c (field key row items rest) short ok y h =
        let oks = all-parts (items_verdicts s (types_under form key) items) (fields_verdicts s form rest) ok in
        elim (has-append (items_listed rev owner key row n c items) (fields_listed rev owner (n + item_count items) (c + item_cells row items) rest) y h) [
          | inl k ↦ items_keys (types_under form key) rev owner key row n c items short.0 oks.0 y k
          | inr k ↦ fields_keys form rev owner (n + item_count items) (c + item_cells row items) rest short.1 oks.1 y k
        ]

    items_keys : (types : List (List ℕ)) (rev : Rev) (owner : ℕ) (key : List ℕ) (row : Bool) (n c : ℕ) (ts : Nodes) → length key ≤ 64 → Conforming (items_verdicts s types ts) → (y : FlatNode) → Has (items_listed rev owner key row n c ts) y → HasShortKey y.at
    items_keys types rev owner key row n c no_nodes short ok y h = absurd h
    items_keys types rev owner key row n c (first t ts) short ok y h =
        let oks = all-parts (verdicts s types t) (items_verdicts s types ts) ok in
        elim (has-append (tree_listed rev (at_of rev owner key row c) n (c + cells_taken row) t) (items_listed rev owner key row (n + node_count t) (c + (cells_taken row + cell_count t)) ts) y h) [
          | inl k ↦ tree_keys types rev (at_of rev owner key row c) n (c + cells_taken row) t (item_key rev owner key row c short) oks.0 y k
          | inr k ↦ items_keys types rev owner key row (n + node_count t) (c + (cells_taken row + cell_count t)) ts short oks.1 y k
        ]

  pub tops_keys : (types : List (List ℕ)) (rev : Rev) (n c : ℕ) (ts : Nodes) → Conforming (items_verdicts s types ts) → (y : FlatNode) → Has (tops_listed rev n c ts) y → HasShortKey y.at
  tops_keys types rev n c no_nodes ok y h = absurd h
  tops_keys types rev n c (first t ts) ok y h =
      let oks = all-parts (verdicts s types t) (items_verdicts s types ts) ok in
      elim (has-append (tree_listed rev (FlatAt.Top (cell_named rev c)) n (c + 1) t) (tops_listed rev (n + node_count t) (c + (1 + cell_count t)) ts) y h) [
        | inl k ↦ tree_keys types rev (FlatAt.Top (cell_named rev c)) n (c + 1) t tt oks.0 y k
        | inr k ↦ tops_keys types rev (n + node_count t) (c + (1 + cell_count t)) ts oks.1 y k
      ]

-- ## Names

-- the cell in which a node of a row stands is numbered below a number
abbrev pub HasLowCell : ℕ → FlatAt → Type 0
HasLowCell high FlatAt.Root = Unit {0}
HasLowCell high (FlatAt.Top c) = Unit {0}
HasLowCell high (FlatAt.Row n c) = c.0.at < high
HasLowCell high (FlatAt.Register f) = Unit {0}

abbrev pub IsLow : ℕ → FlatNode → Type 0
IsLow high y = (y.node.0.at < high) × HasLowCell high y.at

low_item : (high : ℕ) (rev : Rev) (owner : ℕ) (key : List ℕ) (row : Bool) (c : ℕ) → c + cells_taken row ≤ high → HasLowCell high (at_of rev owner key row c)
low_item high rev owner key true c less = let low : c + 1 ≤ high = less in omega (arith, low)
low_item high rev owner key false c less = tt

mutual
  pub tree_low : (high : ℕ) (rev : Rev) (at : FlatAt) (n c : ℕ) (t : Node) → HasLowCell high at → n + node_count t ≤ high → c + cell_count t ≤ high → (y : FlatNode) → Has (tree_listed rev at n c t) y → IsLow high y
  tree_low high rev at n c (node ty leaf fs) own nodes cells y (inl e) =
      let count : n + (1 + field_count fs) ≤ high = nodes in
      let low : n < high = omega (arith, count) in
      subst (IsLow high) e (low, own)
  tree_low high rev at n c (node ty leaf fs) own nodes cells y (inr h) =
      let count : n + (1 + field_count fs) ≤ high = nodes in
      fields_low high rev n (n + 1) c fs (omega (arith, count)) cells y h

  fields_low : (high : ℕ) (rev : Rev) (owner n c : ℕ) (fs : Fields) → n + field_count fs ≤ high → c + field_cells fs ≤ high → (y : FlatNode) → Has (fields_listed rev owner n c fs) y → IsLow high y
  fields_low high rev owner n c no_fields nodes cells y h = absurd h
  fields_low high rev owner n c (field key row items rest) nodes cells y h =
      let count : n + (item_count items + field_count rest) ≤ high = nodes in
      let taken : c + (item_cells row items + field_cells rest) ≤ high = cells in
      elim (has-append (items_listed rev owner key row n c items) (fields_listed rev owner (n + item_count items) (c + item_cells row items) rest) y h) [
        | inl k ↦ items_low high rev owner key row n c items (omega (arith, count)) (omega (arith, taken)) y k
        | inr k ↦ fields_low high rev owner (n + item_count items) (c + item_cells row items) rest (omega (arith, count)) (omega (arith, taken)) y k
      ]

  items_low : (high : ℕ) (rev : Rev) (owner : ℕ) (key : List ℕ) (row : Bool) (n c : ℕ) (ts : Nodes) → n + item_count ts ≤ high → c + item_cells row ts ≤ high → (y : FlatNode) → Has (items_listed rev owner key row n c ts) y → IsLow high y
  items_low high rev owner key row n c no_nodes nodes cells y h = absurd h
  items_low high rev owner key row n c (first t ts) nodes cells y h =
      let count : n + (node_count t + item_count ts) ≤ high = nodes in
      let taken : c + (cells_taken row + cell_count t + item_cells row ts) ≤ high = cells in
      elim (has-append (tree_listed rev (at_of rev owner key row c) n (c + cells_taken row) t) (items_listed rev owner key row (n + node_count t) (c + (cells_taken row + cell_count t)) ts) y h) [
        | inl k ↦ tree_low high rev (at_of rev owner key row c) n (c + cells_taken row) t (low_item high rev owner key row c (omega (arith, taken))) (omega (arith, count)) (omega (arith, taken)) y k
        | inr k ↦ items_low high rev owner key row (n + node_count t) (c + (cells_taken row + cell_count t)) ts (omega (arith, count)) (omega (arith, taken)) y k
      ]
