-- What a value shows, by what it is.
use Rattle.std.proofs.Common.{◌≡◌, ℕ, ◌-◌, Bool, true, false, Option, None, Some, option_map, option_and_then, is_some, nat_le, refl, ap, ◌∙◌}
use Rattle.std.specs.Prelude.{if◌then◌else◌}
use Rattle.st_ids.specs.declared.names.Leaf.{Leaf}
use Rattle.st_ids.specs.declared.names.Leaf.TheVariants as leaf
use Rattle.serde_json.specs.Data.{Data, null, boolean, number, string, array, object, Members}
use Rattle.serde_json.specs.Find.{as_null, as_bool, as_number, as_str, as_object, as_i64}
use Rattle.st_tree.specs.Node.{Node}
use Rattle.st_schema.specs.Reading.{first_of}
use Rattle.st_schema.specs.TreeText.{leaf_of, leaf_in, node_in, tree_in}

int_first : {A : Type 0} (o : Option A) (f : A → Leaf) → first_of o (λ z. Some (f z)) None ≡ option_map f o
int_first None f = refl
int_first (Some z) f = refl

-- null, a truth value, a whole number or a text
pub leaf_chain : (d : Data) → (if is_some (as_null d) then Some leaf.Null else first_of (as_bool d) (λ b. Some (leaf.Bool b)) (first_of (option_and_then as_i64 (as_number d)) (λ z. Some (leaf.Int z)) (first_of (as_str d) (λ s. Some (leaf.Words s)) None))) ≡ leaf_of d
leaf_chain null = refl
leaf_chain (boolean b) = refl
leaf_chain (number x) = int_first (as_i64 x) leaf.Int
leaf_chain (string s) = refl
leaf_chain (array ds) = refl
leaf_chain (object ms) = refl

pub tree_at_none : (d : Data) → tree_in d 0 ≡ None
tree_at_none null = refl
tree_at_none (boolean b) = refl
tree_at_none (number x) = refl
tree_at_none (string s) = refl
tree_at_none (array ds) = refl
tree_at_none (object ms) = refl

pub tree_at_object : (d : Data) (ms : Members) (n : ℕ) → Some ms ≡ as_object d → nat_le 1 n ≡ true → tree_in d n ≡ node_in ms (n - 1)
tree_at_object null ms n h some = absurd (cc)
tree_at_object (boolean b) ms n h some = absurd (cc)
tree_at_object (number x) ms n h some = absurd (cc)
tree_at_object (string s) ms n h some = absurd (cc)
tree_at_object (array ds) ms n h some = absurd (cc)
tree_at_object (object os) ms n h some = let same : os ≡ ms = cc in ap (λ b. if b then node_in os (n - 1) else None) some ∙ ap (λ x. node_in x (n - 1)) same

neither : (b : Bool) → ◌≡◌ {A = Option Node} None (if b then None else None)
neither true = refl
neither false = refl

pub tree_at_leaf : (d : Data) (n : ℕ) → None ≡ as_object d → tree_in d n ≡ leaf_in d n
tree_at_leaf null n h = refl
tree_at_leaf (boolean b) n h = refl
tree_at_leaf (number x) n h = refl
tree_at_leaf (string s) n h = refl
tree_at_leaf (array ds) n h = neither (nat_le 1 n)
tree_at_leaf (object ms) n h = absurd (cc)
