-- Members that are put into an object, the parts of a step's value, and its trees.
use Rattle.std.proofs.Common.{◌≡◌, ◌∙◌, ℕ, zero, suc, ◌<◌, ◌≤◌, Bool, true, false, nat_lt, List, [], ◌∷◌, length, get_or, if◌then◌else◌, Result, Ok, Err, String, string_bytes, Global, refl, ap, arith}
use Rattle.std.proofs.lemmas.Bool.Decides.{nat_tests}
use Rattle.std.specs.BTreeMap.{insert_entry}
use Rattle.std.specs.String.{string_cmp}
use Rattle.serde_json.specs.Data.{put}
use Rattle.serde_json.specs.View.{view as value_view, members_view}
use Rattle.serde_json.specs.declared.value.Value.{Value}
use Rattle.serde_json.proofs.Views.{members_view-insert_entry}
use Rattle.st_tree.specs.Node.{Node, Nodes, view, trees_view}
use Rattle.st_tree.specs.Size.{node_count, item_count, height, items_height, check_of, check_items}
use Rattle.st_tree.specs.declared.tree.Tree.{Tree}
use Rattle.st_tree.specs.declared.limits.TreeFault.{TreeFault}
use Rattle.st_tree.specs.declared.limits.TreeFault.TheVariants.{TooDeep, TooMany}
use Rattle.st_lemmas.proofs.Orders.{nat_lt-false}

-- one more member
pub member_put : (old new : List (String Global × Value)) (k : String Global) (v : Value) (name : List ℕ) → string_bytes k ≡ name → new ≡ insert_entry string_cmp old k v
    → members_view new ≡ put name (value_view v) (members_view old)
member_put old new k v name key is = ap members_view is ∙ members_view-insert_entry old k v ∙ ap (λ n. put n (value_view v) (members_view old)) key

-- ---- trees within the limits together are within them alone

kept : (a b : Bool) → ◌≡◌ {A = Result (Unit {0}) TreeFault} (if a then Err TooMany else (if b then Err TooDeep else Ok tt)) (Ok tt) → (a ≡ false) × (b ≡ false)
kept true b h = absurd (cc)
kept false true h = absurd (cc)
kept false false h = (refl, refl)

keeps : (a b : Bool) → a ≡ false → b ≡ false → ◌≡◌ {A = Result (Unit {0}) TreeFault} (if a then Err TooMany else (if b then Err TooDeep else Ok tt)) (Ok tt)
keeps true b p q = absurd (cc)
keeps false true p q = absurd (cc)
keeps false false p q = refl

not_more : (n m : ℕ) → n ≤ m → nat_lt m n ≡ false
not_more n m h = grind (arith, nat_tests)

abbrev pub Small : ℕ → ℕ → Type 0
Small nodes levels = (nodes ≤ 1024) × (levels ≤ 48)

pub all_small : (ts : Nodes) → check_items ts ≡ Ok tt → Small (item_count ts) (items_height ts)
all_small ts h = let k = kept (nat_lt 1024 (item_count ts)) (nat_lt 48 (items_height ts)) h in (nat_lt-false (item_count ts) 1024 k.0, nat_lt-false (items_height ts) 48 k.1)

pub one_small : (t : Node) → check_of t ≡ Ok tt → Small (node_count t) (height t)
one_small t h = let k = kept (nat_lt 1024 (node_count t)) (nat_lt 48 (height t)) h in (nat_lt-false (node_count t) 1024 k.0, nat_lt-false (height t) 48 k.1)

one_checked : (t : Node) → node_count t ≤ 1024 → height t ≤ 48 → check_of t ≡ Ok tt
one_checked t few low = keeps (nat_lt 1024 (node_count t)) (nat_lt 48 (height t)) (not_more (node_count t) 1024 few) (not_more (height t) 48 low)

small_at : (ts : List Tree) (i : ℕ) (t : Tree) → item_count (trees_view ts) ≤ 1024 → items_height (trees_view ts) ≤ 48 → i < length ts → check_of (view (get_or ts i t)) ≡ Ok tt
small_at [] i t few low within = absurd (omega arith)
small_at (u ∷ ts) zero t few low within = one_checked (view u) (omega arith) (omega arith)
small_at (u ∷ ts) (suc i) t few low within = small_at ts i t (omega arith) (omega arith) (omega arith)

-- each tree keeps the limits
pub each_within : (ts : List Tree) (i : ℕ) (t : Tree) → check_items (trees_view ts) ≡ Ok tt → i < length ts → t ≡ get_or ts i t → check_of (view t) ≡ Ok tt
each_within ts i t h within is = let s = all_small (trees_view ts) h in ap (λ u. check_of (view u)) is ∙ small_at ts i t s.0 s.1 within
