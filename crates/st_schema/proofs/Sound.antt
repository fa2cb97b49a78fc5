-- What is read of a text writes each whole number in one form, so the tree that such a value shows has that value as its form.
use Rattle.std.proofs.Common.{◌≡◌, ℕ, zero, suc, ◌-◌, ℤ, pos, negsuc, ◌==◌, nat_lt, nat_le, Bool, true, false, ◌&&◌, List, [], ◌∷◌, length, drop, slice_index, ◌^◌, Option, Some, None, option_map, option_and_then, Ordering, Less, Equal, Greater, refl, ap}
use Rattle.std.specs.Prelude.{⊤}
use Rattle.std.specs.Ordering.{nat_cmp, match_ordering}
use Rattle.std.specs.Str.Lossy.{utf8_valid_len}
use Rattle.std.specs.Cmp.Lexicographic.{slice_cmp}
use Rattle.fast_float.specs.Text.{minus, Parts, scan, digits_of, nearest, with_sign}
use Rattle.std.specs.Float.{binary64, float_is_finite}
use Rattle.json.specs.Token.{Token}
use Rattle.json.specs.Lex.{tokens}
use Rattle.json.specs.Json as json
use Rattle.serde_json.specs.Data.{Num, unsigned, negative, float, Data, null, boolean, number, string, array, object, Items, no_items, item, Members, no_members, member, put}
use Rattle.serde_json.specs.Find.{as_i64, as_array, of_integer, get, get_member}
use Rattle.serde_json.specs.Read.{is_integer, float_of, number_from, number_of, of_json, of_items, of_members, max_depth, read}
use Rattle.st_ids.specs.declared.names.Leaf.{Leaf}
use Rattle.st_ids.specs.declared.names.Leaf.TheVariants as leaf
use Rattle.st_json.specs.Line.{line_value}
use Rattle.st_tree.specs.Node.{Node, node, Fields, no_fields, field, no_nodes, first, FieldNode, nodes_of, fields_of}
use Rattle.st_schema.specs.TreeText.{tree_data, body_data, members_data, trees_data, leaf_of, leaf_node, leaf_in, tree_in, node_in, body_in, trees_in, fields_in}
use Rattle.st_ids.specs.LeafText.{leaf_data}
use Rattle.st_schema.proofs.Holds.{Holds-cond}
use Rattle.st_json.proofs.Rising.{Holds, Holds-map, Holds-and_then}

-- ---- values whose whole numbers below 0 are so

abbrev SoundNum : Num → Type 0
SoundNum (unsigned n) = ⊤
SoundNum (negative (pos n)) = ⊥
SoundNum (negative (negsuc n)) = ⊤
SoundNum (float x) = ⊤

abbrev mutual
  pub Sound : Data → Type 0
  Sound null = ⊤
  Sound (boolean b) = ⊤
  Sound (number x) = SoundNum x
  Sound (string s) = ⊤
  Sound (array ds) = SoundItems ds
  Sound (object ms) = SoundMembers ms

  pub SoundItems : Items → Type 0
  SoundItems no_items = ⊤
  SoundItems (item d ds) = Sound d × SoundItems ds

  pub SoundMembers : Members → Type 0
  SoundMembers no_members = ⊤
  SoundMembers (member k d ms) = Sound d × SoundMembers ms

-- ---- what is read

below_zero : (n : ℕ) → nat_lt 0 n ≡ true → SoundNum (negative (with_sign true n))
below_zero zero h = absurd (cc)
below_zero (suc n) h = tt

middle : (a b c : Bool) → (a && b && c) ≡ true → b ≡ true
middle true true c h = refl
middle true false c h = absurd (cc)
middle false b c h = absurd (cc)

float_sound : (sign : Bool) (p : Parts) → Holds SoundNum (float_of sign p)
float_sound sign p = Holds-cond SoundNum (float_is_finite (nearest binary64 sign p)) (Some (float (nearest binary64 sign p))) None (λ _. tt) tt

from_sound : (sign : Bool) (p : Parts) → Holds SoundNum (number_from sign p)
from_sound false p = Holds-cond SoundNum (is_integer p && nat_lt (digits_of p) (2 ^ 64)) (Some (unsigned (digits_of p))) (float_of false p) (λ _. tt) (float_sound false p)
from_sound true p =
    Holds-cond SoundNum (is_integer p && nat_lt 0 (digits_of p) && nat_le (digits_of p) (2 ^ 63)) (Some (negative (with_sign true (digits_of p)))) (float_of true p)
    (λ h. below_zero (digits_of p) (middle (is_integer p) (nat_lt 0 (digits_of p)) (nat_le (digits_of p) (2 ^ 63)) h)) (float_sound true p)

number_sound : (s : List ℕ) → Holds SoundNum (number_of s)
unfolding number_of
number_sound s = Holds-cond SoundNum (slice_index s 0 == minus) (number_from true (scan (drop 1 s))) (number_from false (scan s)) (λ _. from_sound true (scan (drop 1 s))) (from_sound false (scan s))

put_at_sound : (o : Ordering) (k l : List ℕ) (d e : Data) (ms : Members) → Sound d → SoundMembers (member l e ms) → SoundMembers (put k d ms)
    → SoundMembers (match_ordering o (member k d (member l e ms)) (member l d ms) (member l e (put k d ms)))
put_at_sound Less k l d e ms p q r = (p, q)
put_at_sound Equal k l d e ms p q r = (p, q.1)
put_at_sound Greater k l d e ms p q r = (q.0, r)

put_sound : (k : List ℕ) (d : Data) (ms : Members) → Sound d → SoundMembers ms → SoundMembers (put k d ms)
put_sound k d no_members p q = (p, tt)
put_sound k d (member l e ms) p q = put_at_sound (slice_cmp nat_cmp k l) k l d e ms p q (put_sound k d ms p q.1)

mutual
  json_sound : (j : json.Json) → Holds Sound (of_json j)
  json_sound json.null = tt
  json_sound (json.boolean b) = tt
  json_sound (json.number s) = Holds-map SoundNum Sound number (λ a x. x) (number_of s) (number_sound s)
  json_sound (json.string s) = tt
  json_sound (json.array js) = Holds-map SoundItems Sound array (λ a x. x) _ (items_sound js)
  json_sound (json.object ms) = Holds-map SoundMembers Sound object (λ a x. x) _ (members_sound ms no_members tt)

  items_sound : (js : json.Items) → Holds SoundItems (of_items js)
  items_sound json.no_items = tt
  items_sound (json.item j js) = Holds-and_then Sound SoundItems _ (λ d x. Holds-map SoundItems SoundItems (item d) (λ ds y. (x, y)) _ (items_sound js)) _ (json_sound j)

  members_sound : (ms : json.Members) (so_far : Members) → SoundMembers so_far → Holds SoundMembers (of_members ms so_far)
  members_sound json.no_members so_far p = p
  members_sound (json.member name j ms) so_far p = Holds-and_then Sound SoundMembers _ (λ d x. members_sound ms (put name d so_far) (put_sound name d so_far x p)) _ (json_sound j)

last_sound : (o : Option (json.Json × List Token)) → Holds Sound (option_and_then of_json (option_and_then (λ p. json.if_last p.0 p.1) o))
last_sound None = tt
last_sound (Some (j, [])) = json_sound j
last_sound (Some (j, t ∷ r)) = tt

-- the value of a text
pub text_sound : (text : List ℕ) → Holds Sound (read text)
text_sound text = last_sound (json.value max_depth (tokens text))

-- the value of a line
pub line_sound : (bytes : List ℕ) → Holds Sound (line_value bytes)
line_sound bytes = Holds-cond Sound (utf8_valid_len bytes == length bytes) (read bytes) None (λ _. text_sound bytes) tt

get_at_sound : (o : Ordering) (d : Data) (rest : Option Data) → Sound d → Holds Sound rest → Holds Sound (match_ordering o rest (Some d) rest)
get_at_sound Less d rest p q = q
get_at_sound Equal d rest p q = p
get_at_sound Greater d rest p q = q

member_sound : (k : List ℕ) (ms : Members) → SoundMembers ms → Holds Sound (get_member k ms)
member_sound k no_members p = tt
member_sound k (member l e ms) p = get_at_sound (slice_cmp nat_cmp k l) e (get_member k ms) p.0 (member_sound k ms p.1)

-- a member of a value
pub get_sound : (k : List ℕ) (d : Data) → Sound d → Holds Sound (get k d)
get_sound k null p = tt
get_sound k (boolean b) p = tt
get_sound k (number n) p = tt
get_sound k (string s) p = tt
get_sound k (array ds) p = tt
get_sound k (object ms) p = member_sound k ms p

-- the items of a value
pub array_sound : (d : Data) → Sound d → Holds SoundItems (as_array d)
array_sound null p = tt
array_sound (boolean b) p = tt
array_sound (number n) p = tt
array_sound (string s) p = tt
array_sound (array ds) p = p
array_sound (object ms) p = tt

-- ---- the form of a tree that is read is what it is read of

abbrev IsNumber : Num → ℤ → Type 0
IsNumber x z = number (of_integer z) ≡ number x

abbrev IsLeaf : Data → Leaf → Type 0
IsLeaf d v = leaf_data v ≡ d

abbrev pub IsTree : Data → Node → Type 0
IsTree d t = tree_data t ≡ d

abbrev IsBody : Data → Fields → Type 0
IsBody d fs = body_data fs ≡ d

abbrev AreTrees : Items → List Node → Type 0
AreTrees ds ts = trees_data (nodes_of ts) ≡ ds

abbrev AreFields : Members → List FieldNode → Type 0
AreFields ms gs = (body_data (fields_of gs) ≡ object ms) × (members_data (fields_of gs) ≡ ms)

number_back : (x : Num) → SoundNum x → Holds (IsNumber x) (as_i64 x)
number_back (unsigned n) p = Holds-cond (IsNumber (unsigned n)) (nat_lt n (2 ^ 63)) (Some (pos n)) None (λ _. refl) tt
number_back (negative (pos n)) p = absurd p
number_back (negative (negsuc n)) p = refl
number_back (float x) p = tt

leaf_back : (d : Data) → Sound d → Holds (IsLeaf d) (leaf_of d)
leaf_back null p = refl
leaf_back (boolean b) p = refl
leaf_back (number x) p = Holds-map (IsNumber x) (IsLeaf (number x)) leaf.Int (λ z e. e) (as_i64 x) (number_back x p)
leaf_back (string s) p = refl
leaf_back (array ds) p = tt
leaf_back (object ms) p = tt

leaf_node_back : (d : Data) (n : ℕ) → Sound d → Holds (IsTree d) (leaf_in d n)
leaf_node_back d n p = Holds-cond (IsTree d) (nat_le 1 n) (option_map leaf_node (leaf_of d)) None (λ _. Holds-map (IsLeaf d) (IsTree d) leaf_node (λ v e. e) (leaf_of d) (leaf_back d p)) tt

-- the fields with one more, which holds a single node
abbrev pub with_single : List ℕ → Node → List FieldNode → List FieldNode
with_single key t gs = record { key = key; row = false; items = first t no_nodes } ∷ gs

mutual
  pub tree_back : (d : Data) (n : ℕ) → Sound d → Holds (IsTree d) (tree_in d n)
  tree_back null n p = leaf_node_back null n p
  tree_back (boolean b) n p = leaf_node_back (boolean b) n p
  tree_back (number x) n p = leaf_node_back (number x) n p
  tree_back (string s) n p = leaf_node_back (string s) n p
  tree_back (array ds) n p = tt
  tree_back (object ms) n p = Holds-cond (IsTree (object ms)) (nat_le 1 n) (node_in ms (n - 1)) None (λ _. node_back ms (n - 1) p) tt

  node_back : (ms : Members) (n : ℕ) → SoundMembers ms → Holds (IsTree (object ms)) (node_in ms n)
  node_back no_members n p = tt
  node_back (member ty d no_members) n p =
      Holds-map (IsBody d) (IsTree (object (member ty d no_members))) (node ty None) (λ fs e. ap (λ (x : Data). object (member ty x no_members)) e) (body_in d n) (body_back d n p.0)
  node_back (member ty d (member k f ms)) n p = tt

  body_back : (d : Data) (n : ℕ) → Sound d → Holds (IsBody d) (body_in d n)
  body_back null n p = tt
  body_back (boolean b) n p = tt
  body_back (number x) n p = tt
  body_back (string s) n p = tt
  body_back (array ds) n p = Holds-map (AreTrees ds) (IsBody (array ds)) (λ (ts : List Node). field [] true (nodes_of ts) no_fields) (λ ts e. ap array e) (trees_in ds n) (items_back ds n p)
  body_back (object ms) n p = Holds-map (AreFields ms) (IsBody (object ms)) fields_of (λ gs e. e.0) (fields_in ms n) (fields_back ms n p)

  items_back : (ds : Items) (n : ℕ) → SoundItems ds → Holds (AreTrees ds) (trees_in ds n)
  items_back no_items n p = refl
  items_back (item d ds) n p =
      Holds-and_then (IsTree d) (AreTrees (item d ds)) (λ (t : Node). option_map (λ (ts : List Node). t ∷ ts) (trees_in ds n))
      (λ t e. Holds-map (AreTrees ds) (AreTrees (item d ds)) (λ (ts : List Node). t ∷ ts) (λ ts f. λ i. item (e i) (f i)) (trees_in ds n) (items_back ds n p.1)) (tree_in d n) (tree_back d n p.0)

  fields_back : (ms : Members) (n : ℕ) → SoundMembers ms → Holds (AreFields ms) (fields_in ms n)
  fields_back no_members n p = (refl, refl)
  fields_back (member key d ms) n p =
      Holds-cond (AreFields (member key d ms)) (nat_le (length key) 64) (option_and_then (λ t. option_map (with_single key t) (fields_in ms n)) (tree_in d n)) None
      (λ _. Holds-and_then (IsTree d) (AreFields (member key d ms)) (λ t. option_map (with_single key t) (fields_in ms n))
      (λ t e. Holds-map (AreFields ms) (AreFields (member key d ms)) (with_single key t) (λ gs f. ((λ i. object (member key (e i) (f.1 i))), (λ i. member key (e i) (f.1 i)))) (fields_in ms n) (fields_back ms n p.1))
      (tree_in d n) (tree_back d n p.0)) tt
