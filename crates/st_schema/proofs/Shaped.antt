-- The trees that values show have the shape, and so have trees of the form.
use Rattle.std.proofs.Common.{◌≡◌, ◌∙◌, ℕ, ◌-◌, Bool, true, false, ◌&&◌, ◌||◌, List, [], ◌∷◌, length, Option, None, Some, option_map, option_and_then, is_ok, nat_le, IsTrue, refl, subst}
use Rattle.std.specs.Prelude.{⊤}
use Rattle.std.specs.Ordering.{nat_cmp, is_lt}
use Rattle.std.specs.Cmp.Lexicographic.{slice_cmp}
use Rattle.st_ids.specs.declared.names.Leaf.{Leaf}
use Rattle.serde_json.specs.Data.{Data, null, boolean, number, string, array, object, Items, no_items, item, Members, no_members, member}
use Rattle.serde_json.specs.Read.{read}
use Rattle.st_json.specs.Order.{is_before, NamesRise, ItemsRise, MembersRise}
use Rattle.st_json.proofs.Rising.{read_rises, Holds-map, Holds-and_then, Holds}
use Rattle.st_tree.specs.Form.{is_row_alone, is_single, keys_rise, fields_fit_leaf, has_form, fields_have_form, all_have_form}
use Rattle.st_tree.specs.Node.{Node, node, Fields, no_fields, field, Nodes, no_nodes, first, FieldNode, nodes_of, fields_of}
use Rattle.st_tree.specs.Size.{check_of}
use Rattle.st_schema.specs.Shape.{members_rise, fields_shaped, has_shape, fields_have_shape, all_have_shape}
use Rattle.st_schema.specs.TreeText.{tree_data, leaf_of, leaf_node, leaf_in, tree_in, node_in, body_in, trees_in, fields_in, within_limits, tree_of}
use Rattle.st_schema.proofs.Holds.{Holds-cond}
use Rattle.st_schema.proofs.Sound.{Sound, text_sound, IsTree, tree_back, with_single}
use Rattle.st_lemmas.proofs.Bools.{and-both, and-true}

-- ---- tests

or_kept : (a b c : Bool) → (b ≡ true → c ≡ true) → a || b ≡ true → a || c ≡ true
or_kept true b c f h = refl
or_kept false b c f h = f h

or_last : (a b : Bool) → b ≡ true → a || b ≡ true
or_last true b h = refl
or_last false b h = h

-- ---- trees of the form

rising : (fs : Fields) → keys_rise [] fs ≡ true → members_rise fs ≡ true
rising no_fields h = refl
rising (field key true items rest) h = absurd (cc)
rising (field key false items rest) h =
    let parts = and-true (is_single items) (is_lt (slice_cmp nat_cmp [] key) && keys_rise key rest) h in
    and-both (is_single items) (keys_rise key rest) parts.0 (and-true (is_lt (slice_cmp nat_cmp [] key)) (keys_rise key rest) parts.1).1

fitting : (leaf : Option Leaf) (fs : Fields) → fields_fit_leaf leaf fs ≡ true → fields_shaped leaf fs ≡ true
fitting (Some v) no_fields h = refl
fitting (Some v) (field key row items rest) h = absurd (cc)
fitting None fs h = or_kept (is_row_alone fs) (keys_rise [] fs) (members_rise fs) (rising fs) h

mutual
  pub form_shaped : (t : Node) → has_form t ≡ true → has_shape t ≡ true
  form_shaped (node ty leaf fs) h =
      let parts = and-true (fields_fit_leaf leaf fs) (fields_have_form fs) h in
      and-both (fields_shaped leaf fs) (fields_have_shape fs) (fitting leaf fs parts.0) (fields_form_shaped fs parts.1)

  fields_form_shaped : (fs : Fields) → fields_have_form fs ≡ true → fields_have_shape fs ≡ true
  fields_form_shaped no_fields h = refl
  fields_form_shaped (field key row items rest) h =
      let parts = and-true (all_have_form items) (fields_have_form rest) h in
      and-both (all_have_shape items) (fields_have_shape rest) (all_form_shaped items parts.0) (fields_form_shaped rest parts.1)

  pub all_form_shaped : (ts : Nodes) → all_have_form ts ≡ true → all_have_shape ts ≡ true
  all_form_shaped no_nodes h = refl
  all_form_shaped (first t ts) h =
      let parts = and-true (has_form t) (all_have_form ts) h in
      and-both (has_shape t) (all_have_shape ts) (form_shaped t parts.0) (all_form_shaped ts parts.1)

-- ---- trees that values show

abbrev pub IsShaped : Node → Type 0
IsShaped t = has_shape t ≡ true

abbrev AreShaped : List Node → Type 0
AreShaped ts = all_have_shape (nodes_of ts) ≡ true

-- what is known of the fields under a node that is no leaf
record IsBody (fs : Fields) : Type 0 where
  fits : fields_shaped None fs ≡ true
  below : fields_have_shape fs ≡ true

-- what is known of the fields of members
record AreFields (ms : Members) (fs : Fields) : Type 0 where
  above : (k : List ℕ) → IsTrue (is_before k ms) → keys_rise k fs ≡ true
  rise : members_rise fs ≡ true
  below : fields_have_shape fs ≡ true

abbrev OfMembers : Members → List FieldNode → Type 0
OfMembers ms gs = AreFields ms (fields_of gs)

leaf_shaped : (d : Data) (n : ℕ) → Holds IsShaped (leaf_in d n)
leaf_shaped d n = Holds-cond IsShaped (nat_le 1 n) (option_map leaf_node (leaf_of d)) None (λ _. Holds-map (λ _. ⊤) IsShaped leaf_node (λ v _. refl) (leaf_of d) (any (leaf_of d))) tt
  where
    any : (o : Option Leaf) → Holds (λ _. ⊤) o
    any None = tt
    any (Some v) = tt

row_shaped : (ts : List Node) → AreShaped ts → IsBody (field [] true (nodes_of ts) no_fields)
row_shaped ts h = record { fits = refl; below = and-both (all_have_shape (nodes_of ts)) true h refl }

members_shaped : (ms : Members) (gs : List FieldNode) → OfMembers ms gs → IsBody (fields_of gs)
members_shaped ms gs h = record { fits = or_last (is_row_alone (fields_of gs)) (members_rise (fields_of gs)) h.rise; below = h.below }

more_shaped : (key : List ℕ) (d : Data) (ms : Members) (t : Node) (gs : List FieldNode) → IsTrue (is_before key ms) → IsShaped t → OfMembers ms gs → OfMembers (member key d ms) (with_single key t gs)
more_shaped key d ms t gs before shaped h = record {
  above = λ k lower. and-both (is_lt (slice_cmp nat_cmp k key)) (keys_rise key (fields_of gs)) lower (h.above key before);
  rise = h.above key before;
  below = and-both (has_shape t && true) (fields_have_shape (fields_of gs)) (and-both (has_shape t) true shaped refl) h.below;
}

mutual
  tree_shaped : (d : Data) (n : ℕ) → NamesRise d → Holds IsShaped (tree_in d n)
  tree_shaped null n p = leaf_shaped null n
  tree_shaped (boolean b) n p = leaf_shaped (boolean b) n
  tree_shaped (number x) n p = leaf_shaped (number x) n
  tree_shaped (string s) n p = leaf_shaped (string s) n
  tree_shaped (array ds) n p = tt
  tree_shaped (object ms) n p = Holds-cond IsShaped (nat_le 1 n) (node_in ms (n - 1)) None (λ _. node_shaped ms (n - 1) p) tt

  node_shaped : (ms : Members) (n : ℕ) → MembersRise ms → Holds IsShaped (node_in ms n)
  node_shaped no_members n p = tt
  node_shaped (member ty d no_members) n p =
      Holds-map IsBody IsShaped (node ty None) (λ fs h. and-both (fields_shaped None fs) (fields_have_shape fs) h.fits h.below) (body_in d n) (body_shaped d n p.1)
  node_shaped (member ty d (member k f ms)) n p = tt

  body_shaped : (d : Data) (n : ℕ) → NamesRise d → Holds IsBody (body_in d n)
  body_shaped null n p = tt
  body_shaped (boolean b) n p = tt
  body_shaped (number x) n p = tt
  body_shaped (string s) n p = tt
  body_shaped (array ds) n p = Holds-map AreShaped IsBody (λ (ts : List Node). field [] true (nodes_of ts) no_fields) row_shaped (trees_in ds n) (items_shaped ds n p)
  body_shaped (object ms) n p = Holds-map (OfMembers ms) IsBody fields_of (members_shaped ms) (fields_in ms n) (fields_in_shaped ms n p)

  items_shaped : (ds : Items) (n : ℕ) → ItemsRise ds → Holds AreShaped (trees_in ds n)
  items_shaped no_items n p = refl
  items_shaped (item d ds) n p =
      Holds-and_then IsShaped AreShaped (λ (t : Node). option_map (λ (ts : List Node). t ∷ ts) (trees_in ds n))
      (λ t h. Holds-map AreShaped AreShaped (λ (ts : List Node). t ∷ ts) (λ ts hs. and-both (has_shape t) (all_have_shape (nodes_of ts)) h hs) (trees_in ds n) (items_shaped ds n p.1)) (tree_in d n) (tree_shaped d n p.0)

  fields_in_shaped : (ms : Members) (n : ℕ) → MembersRise ms → Holds (OfMembers ms) (fields_in ms n)
  fields_in_shaped no_members n p = record { above = λ k lower. refl; rise = refl; below = refl }
  fields_in_shaped (member key d ms) n p =
      Holds-cond (OfMembers (member key d ms)) (nat_le (length key) 64) (option_and_then (λ t. option_map (with_single key t) (fields_in ms n)) (tree_in d n)) None
      (λ _. Holds-and_then IsShaped (OfMembers (member key d ms)) (λ t. option_map (with_single key t) (fields_in ms n))
      (λ t h. Holds-map (OfMembers ms) (OfMembers (member key d ms)) (with_single key t) (λ gs hs. more_shaped key d ms t gs p.0 h hs) (fields_in ms n) (fields_in_shaped ms n p.2))
      (tree_in d n) (tree_shaped d n p.1)) tt

pub shaped_at : (d : Data) (t : Node) → NamesRise d → tree_in d 48 ≡ Some t → has_shape t ≡ true
shaped_at d t p is = subst (Holds IsShaped) is (tree_shaped d 48 p)

limited : (P : Node → Type 0) (o : Option Node) → Holds P o → Holds P (option_and_then within_limits o)
limited P None h = tt
limited P (Some t) h = Holds-cond P (is_ok (check_of t)) (Some t) None (λ _. h) tt

-- a tree that such a value shows
pub shown_shaped : (d : Data) → NamesRise d → Holds IsShaped (tree_of d)
shown_shaped d p = limited IsShaped (tree_in d 48) (tree_shaped d 48 p)

pub read_shaped : (d : Data) (t : Node) → NamesRise d → tree_of d ≡ Some t → has_shape t ≡ true
read_shaped d t p is = subst (Holds IsShaped) is (shown_shaped d p)

-- ---- what was read is written as what it was read of

text_back : (text : List ℕ) (d : Data) (t : Node) → read text ≡ Some d → tree_of d ≡ Some t → tree_data t ≡ d
text_back text d t is shows = subst (Holds (IsTree d)) shows (limited (IsTree d) (tree_in d 48) (tree_back d 48 (subst (Holds Sound) is (text_sound text))))

-- a value that is written for a tree
pub written_again : (text : List ℕ) (d v : Data) (t : Node) → (has_shape t ≡ true → v ≡ tree_data t) → read text ≡ Some d → tree_of d ≡ Some t → v ≡ d
written_again text d v t told is shows = told (read_shaped d t (read_rises text d is) shows) ∙ text_back text d t is shows
