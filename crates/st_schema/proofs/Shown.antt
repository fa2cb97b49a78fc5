-- The form of a tree is read as that tree.
use Rattle.std.proofs.Common.{◌≡◌, ◌∙◌, ℕ, ◌+◌, ◌-◌, ◌≤◌, ℤ, pos, negsuc, Bool, true, false, ◌&&◌, ◌||◌, ◌==◌, List, [], ◌∷◌, length, Option, None, Some, option_map, option_and_then, is_some, nat_le, nat_lt, refl, sym, ap, arith}
use Rattle.std.specs.Prelude.{if◌then◌else◌, Result, Ok, Err, is_ok}
use Rattle.std.specs.Cmp.Lexicographic.{slice_cmp}
use Rattle.std.specs.Ordering.{nat_cmp, is_lt}
use Rattle.std.proofs.lemmas.Bool.Decides.{nat_tests}
use Rattle.st_ids.specs.declared.names.Leaf.{Leaf}
use Rattle.st_ids.specs.declared.names.Leaf.TheVariants as leaf
use Rattle.serde_json.specs.Data.{Members}
use Rattle.serde_json.specs.Find.{as_i64, of_integer}
use Rattle.st_tree.specs.Node.{Node, node, Fields, no_fields, field, Nodes, no_nodes, first, FieldNode, nodes_of, fields_of}
use Rattle.st_tree.specs.Size.{node_count, height, fields_height, items_height, check_of}
use Rattle.st_tree.specs.Form.{is_row_alone, is_single, keys_rise}
use Rattle.st_tree.specs.declared.limits.TreeFault.{TreeFault}
use Rattle.st_tree.specs.declared.limits.TreeFault.TheVariants.{TooDeep, TooMany}
use Rattle.st_schema.specs.Schema.{same}
use Rattle.st_schema.specs.Conforms.{leaf_type}
use Rattle.st_schema.specs.Shape.{fields_shaped, has_shape, fields_have_shape, all_have_shape}
use Rattle.st_schema.specs.TreeText.{tree_data, body_data, keyed_data, members_data, trees_data, leaf_of, leaf_node, tree_in, body_in, trees_in, fields_in, within_limits, tree_of, leaf_fits, is_typed, fields_typed, all_typed}
use Rattle.st_ids.specs.LeafText.{leaf_data}
use Rattle.st_tree.proofs.Inverse.{not_alone}
use Rattle.st_lemmas.proofs.Orders.{nat_lt-false}
use Rattle.st_schema.proofs.Forms.{text_same}
use Rattle.st_lemmas.proofs.Bools.{and-true}

-- ---- tests

or_right : (a b : Bool) → a ≡ false → a || b ≡ true → b ≡ true
or_right true b off h = absurd (cc)
or_right false b off h = h

a_level : (n m : ℕ) → 1 + m ≤ n → nat_le 1 n ≡ true
a_level n m h = grind (arith, nat_tests)

not_empty : (b : ℕ) (key : List ℕ) → (length (b ∷ key) == 0) ≡ false
not_empty b key = grind (arith, nat_tests)

empty_key : (key : List ℕ) → (length key == 0) || false ≡ true → [] ≡ key
empty_key [] h = refl
empty_key (b ∷ key) h = let no = sym (ap (λ c. c || false) (not_empty b key)) ∙ h in absurd (cc)

-- ---- leaves

int_kept : (b : Bool) (z : ℤ) → is_some (if b then Some z else None) ≡ true → (if b then Some z else None) ≡ Some z
int_kept true z h = refl
int_kept false z h = absurd (cc)

int_read : (z : ℤ) → is_some (as_i64 (of_integer z)) ≡ true → as_i64 (of_integer z) ≡ Some z
int_read (pos n) h = int_kept _ (pos n) h
int_read (negsuc n) h = refl

leaf_shown : (v : Leaf) → leaf_fits v ≡ true → leaf_of (leaf_data v) ≡ Some v
leaf_shown leaf.Null h = refl
leaf_shown (leaf.Bool b) h = refl
leaf_shown (leaf.Int z) h = ap (option_map leaf.Int) (int_read z h)
leaf_shown (leaf.Words w) h = refl

leaf_at : (v : Leaf) (n : ℕ) → tree_in (leaf_data v) n ≡ (if nat_le 1 n then option_map leaf_node (leaf_of (leaf_data v)) else None)
leaf_at leaf.Null n = refl
leaf_at (leaf.Bool b) n = refl
leaf_at (leaf.Int z) n = refl
leaf_at (leaf.Words w) n = refl

leaf_read : (v : Leaf) (n : ℕ) → leaf_fits v ≡ true → nat_le 1 n ≡ true → tree_in (leaf_data v) n ≡ Some (leaf_node v)
leaf_read v n fits level =
    leaf_at v n
    ∙ ap (λ (b : Bool). if b then option_map leaf_node (leaf_of (leaf_data v)) else None) level
    ∙ ap (option_map leaf_node) (leaf_shown v fits)

-- ---- lists

abbrev nodes_list : Nodes → List Node
nodes_list no_nodes = []
nodes_list (first t ts) = t ∷ nodes_list ts

nodes_of-nodes_list : (ts : Nodes) → nodes_of (nodes_list ts) ≡ ts
nodes_of-nodes_list no_nodes = refl
nodes_of-nodes_list (first t ts) = ap (first t) (nodes_of-nodes_list ts)

abbrev fields_list : Fields → List FieldNode
fields_list no_fields = []
fields_list (field key row items rest) = record { key = key; row = row; items = items } ∷ fields_list rest

fields_of-fields_list : (fs : Fields) → fields_of (fields_list fs) ≡ fs
fields_of-fields_list no_fields = refl
fields_of-fields_list (field key row items rest) = ap (field key row items) (fields_of-fields_list rest)

-- ---- fields

sole : (t : Node) (o : Option Node) → option_and_then (λ u. Some (u ∷ [])) o ≡ Some (t ∷ []) → o ≡ Some t
sole t None h = absurd (cc)
sole t (Some u) h = cc

abbrev one : List ℕ → Node → FieldNode
one key t = record { key = key; row = false; items = first t no_nodes }

-- one field more is read
field_read : (key : List ℕ) (items : Nodes) (ms : Members) (fs : List FieldNode) (n : ℕ) → is_single items ≡ true → nat_le (length key) 64 ≡ true
    → trees_in (trees_data items) n ≡ Some (nodes_list items) → fields_in ms n ≡ Some fs
    → fields_in (keyed_data key items ms) n ≡ Some (record { key = key; row = false; items = items } ∷ fs)
field_read key no_nodes ms fs n single short items later = absurd (cc)
field_read key (first t no_nodes) ms fs n single short items later =
    let r = fields_in ms n in
    ap (λ (b : Bool). if b then option_and_then (λ u. option_map (λ gs. one key u ∷ gs) r) (tree_in (tree_data t) n) else None) short
    ∙ ap (λ (o : Option Node). option_and_then (λ u. option_map (λ gs. one key u ∷ gs) r) o) (sole t (tree_in (tree_data t) n) items)
    ∙ ap (λ (o : Option (List FieldNode)). option_map (λ gs. one key t ∷ gs) o) later
field_read key (first t (first u ts)) ms fs n single short items later = absurd (cc)

-- ---- trees

mutual
  tree_read : (t : Node) (n : ℕ) → has_shape t ≡ true → is_typed t ≡ true → height t ≤ n → tree_in (tree_data t) n ≡ Some t
  tree_read (node ty (Some v) no_fields) n form typed low =
      let parts = and-true (same ty (leaf_type v)) (leaf_fits v && true) typed in
      leaf_read v n (and-true (leaf_fits v) true parts.1).0 (a_level n 0 low) ∙ ap (λ u. Some (node u (Some v) no_fields)) (sym (text_same ty (leaf_type v) parts.0))
  tree_read (node ty (Some v) (field key row items rest)) n form typed low = absurd (cc)
  tree_read (node ty None fields) n form typed low =
      let parts = and-true (fields_shaped None fields) (fields_have_shape fields) form in
      let below : fields_height fields ≤ n - 1 = omega arith in
      ap (λ (b : Bool). if b then option_map (node ty None) (body_in (body_data fields) (n - 1)) else None) (a_level n (fields_height fields) low)
      ∙ ap (option_map (node ty None)) (body_read fields (n - 1) parts.0 parts.1 typed below)

  body_read : (fs : Fields) (n : ℕ) → fields_shaped None fs ≡ true → fields_have_shape fs ≡ true → fields_typed fs ≡ true → fields_height fs ≤ n → body_in (body_data fs) n ≡ Some fs
  body_read no_fields n fits form typed low = refl
  body_read (field key true items no_fields) n fits form typed low =
      let forms = and-true (all_have_shape items) true form in
      let types = and-true (all_typed items) true (and-true (nat_le (length key) 64) (all_typed items && true) typed).1 in
      let below : items_height items ≤ n = omega arith in
      ap (option_map (λ ts. field [] true (nodes_of ts) no_fields)) (trees_read items n forms.0 types.0 below)
      ∙ (λ i. Some (field (empty_key key fits i) true (nodes_of-nodes_list items i) no_fields))
  body_read (field key true items (field k row is rest)) n fits form typed low = absurd (cc)
  body_read (field key false items rest) n fits form typed low =
      let rises = or_right (is_row_alone (field key false items rest)) _ (not_alone key items rest) fits in
      let parts = and-true (is_single items) (keys_rise key rest) rises in
      let forms = and-true (all_have_shape items) (fields_have_shape rest) form in
      let short = and-true (nat_le (length key) 64) (all_typed items && fields_typed rest) typed in
      let types = and-true (all_typed items) (fields_typed rest) short.1 in
      let below : items_height items ≤ n = omega arith in
      let beside : fields_height rest ≤ n = omega arith in
      ap (option_map fields_of) (field_read key items (members_data rest) (fields_list rest) n parts.0 short.0 (trees_read items n forms.0 types.0 below) (members_read key rest n parts.1 forms.1 types.1 beside))
      ∙ ap Some (fields_of-fields_list (field key false items rest))

  members_read : (before : List ℕ) (fs : Fields) (n : ℕ) → keys_rise before fs ≡ true → fields_have_shape fs ≡ true → fields_typed fs ≡ true → fields_height fs ≤ n → fields_in (members_data fs) n ≡ Some (fields_list fs)
  members_read before no_fields n rises form typed low = refl
  members_read before (field key true items rest) n rises form typed low = absurd (cc)
  members_read before (field key false items rest) n rises form typed low =
      let parts = and-true (is_single items) (is_lt (slice_cmp nat_cmp before key) && keys_rise key rest) rises in
      let rise = and-true (is_lt (slice_cmp nat_cmp before key)) (keys_rise key rest) parts.1 in
      let forms = and-true (all_have_shape items) (fields_have_shape rest) form in
      let short = and-true (nat_le (length key) 64) (all_typed items && fields_typed rest) typed in
      let types = and-true (all_typed items) (fields_typed rest) short.1 in
      let below : items_height items ≤ n = omega arith in
      let beside : fields_height rest ≤ n = omega arith in
      field_read key items (members_data rest) (fields_list rest) n parts.0 short.0 (trees_read items n forms.0 types.0 below) (members_read key rest n rise.1 forms.1 types.1 beside)

  trees_read : (ts : Nodes) (n : ℕ) → all_have_shape ts ≡ true → all_typed ts ≡ true → items_height ts ≤ n → trees_in (trees_data ts) n ≡ Some (nodes_list ts)
  trees_read no_nodes n form typed low = refl
  trees_read (first t ts) n form typed low =
      let forms = and-true (has_shape t) (all_have_shape ts) form in
      let types = and-true (is_typed t) (all_typed ts) typed in
      let here : height t ≤ n = omega arith in
      let later : items_height ts ≤ n = omega arith in
      ap (λ (o : Option Node). option_and_then (λ u. option_map (λ us. u ∷ us) (trees_in (trees_data ts) n)) o) (tree_read t n forms.0 types.0 here)
      ∙ ap (λ (o : Option (List Node)). option_map (λ us. t ∷ us) o) (trees_read ts n forms.1 types.1 later)

-- ---- within the limits

not_deep : (a b : Bool) (x y : TreeFault) → ◌≡◌ {A = Result (Unit {0}) TreeFault} (if a then Err x else (if b then Err y else Ok tt)) (Ok tt) → b ≡ false
not_deep true b x y h = absurd (cc)
not_deep false true x y h = absurd (cc)
not_deep false false x y h = refl

pub low_within : (t : Node) → check_of t ≡ Ok tt → height t ≤ 48
low_within t within = nat_lt-false (height t) 48 (not_deep (nat_lt 1024 (node_count t)) (nat_lt 48 (height t)) TooMany TooDeep within)

pub form_read : (t : Node) → check_of t ≡ Ok tt → has_shape t ≡ true → is_typed t ≡ true → tree_of (tree_data t) ≡ Some t
form_read t within form typed =
    ap (option_and_then within_limits) (tree_read t 48 form typed (low_within t within))
    ∙ ap (λ (r : Result (Unit {0}) TreeFault). if is_ok r then Some t else None) within
