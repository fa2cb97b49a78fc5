-- Tests, and the facts that they tell.
use Rattle.std.proofs.Common.{◌≡◌, ◌↔◌, IsTrue, Bool, true, false, not, List, [], ◌∷◌, map, length, refl, subst, if◌then◌else◌}
use Rattle.std.specs.List.{AllByRecursion}
use Rattle.st_ids.specs.Order.{same_node, rev_cmp}
use Rattle.st_ids.specs.declared.names.NodeId.{NodeId}
use Rattle.st_ids.specs.declared.names.Rev.{Rev}
use Rattle.std.specs.Ordering.{is_eq}
use Rattle.st_ids.proofs.Orders.{same_node-true, same_node-itself, rev_cmp_exact, rev_cmp_total, is_eq_equal, self_reverse}
use Rattle.st_normal.specs.declared.entries.Found.{Found}
use Rattle.st_normal.specs.Rules.{staying_nodes}
use Rattle.st_marks.specs.How.{is_stay}
use Rattle.st_marks.specs.Listings.{CellView}

-- one fact that follows from another
pub all-along : {A : Type 0} (P Q : A → Type 0) → ((x : A) → P x → Q x) → (xs : List A) → AllByRecursion P xs → AllByRecursion Q xs
all-along P Q f [] p = tt
all-along P Q f (x ∷ xs) p = (f x p.0, all-along P Q f xs p.1)

pub all-iff : {A : Type 0} (P Q : A → Type 0) → ((x : A) → P x ↔ Q x) → (xs : List A) → AllByRecursion P xs ↔ AllByRecursion Q xs
all-iff P Q h xs = (all-along P Q (λ x. (h x).0) xs, all-along Q P (λ x. (h x).1) xs)

-- of what things are mapped to
pub all_map : {A B : Type 0} (f : A → B) (P : B → Type 0) (xs : List A) → AllByRecursion (λ x. P (f x)) xs ↔ AllByRecursion P (map f xs)
all_map f P [] = (λ h. tt, λ h. tt)
all_map f P (x ∷ xs) = let r = all_map f P xs in (λ h. (h.0, r.0 h.1), λ h. (h.0, r.1 h.1))

pub node_same : (a b : NodeId) → IsTrue (same_node a b) ↔ (a ≡ b)
node_same a b = (same_node-true a b, λ e. subst (λ c. same_node a c ≡ true) e (same_node-itself a))

-- no cells
pub no_cells : (xs : List CellView) → length xs ≡ 0 → xs ≡ []
no_cells [] e = refl
no_cells (x ∷ xs) e = cc

pub rev_same : (a b : Rev) → IsTrue (is_eq (rev_cmp a b)) ↔ (a ≡ b)
rev_same a b = (λ e. rev_cmp_exact a b (is_eq_equal _ e), λ e. subst (λ c. is_eq (rev_cmp a c) ≡ true) e (self_reverse (rev_cmp a a) (rev_cmp_total.antisymm a a)))

-- of those that stay
pub all_staying : (P : NodeId → Type 0) (fs : List Found) → AllByRecursion (λ f. IsTrue (is_stay f.how) → P f.node) fs ↔ AllByRecursion P (staying_nodes fs)
all_staying P [] = (λ h. tt, λ h. tt)
all_staying P (f ∷ fs) = go (is_stay f.how) (all_staying P fs)
  where
    go : (b : Bool) → (AllByRecursion (λ f. IsTrue (is_stay f.how) → P f.node) fs ↔ AllByRecursion P (staying_nodes fs))
        → ((IsTrue b → P f.node) × AllByRecursion (λ f. IsTrue (is_stay f.how) → P f.node) fs) ↔ AllByRecursion P (if b then f.node ∷ staying_nodes fs else staying_nodes fs)
    go true r = (λ h. (h.0 refl, r.0 h.1), λ h. (λ _. h.0, r.1 h.1))
    go false r = (λ h. r.0 h.1, λ h. (λ t. absurd (let e : ◌≡◌ {A = Bool} false true = t in cc), r.1 h))

-- the contrary of what a test tells
pub tells_not : (b : Bool) (P Q : Type 0) → (IsTrue b ↔ P) → ((P → ⊥) ↔ Q) → IsTrue (not b) ↔ Q
tells_not true P Q p q = (λ t. cc, λ a. absurd (q.1 a (p.0 refl)))
tells_not false P Q p q = (λ t. q.0 (λ h. let e : ◌≡◌ {A = Bool} false true = p.1 h in cc), λ a. refl)
