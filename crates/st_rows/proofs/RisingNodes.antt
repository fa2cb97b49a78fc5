-- Nodes in rising order.
use Rattle.std.proofs.Common.{◌≡◌, ◌<◌, ◌≤◌, ℕ, zero, suc, length, take, drop, get_or, arith, Bool, true, false, ◌||◌, ◌&&◌, List, [], ◌∷◌, ◌++◌, Some, None, cond, refl, sym, ap, ◌∙◌}
use Rattle.std.specs.declared.cmp.Ordering.{Ordering}
use Rattle.std.specs.declared.cmp.Ordering.TheVariants.{Less, Equal, Greater}
use Rattle.std.specs.Ordering.{is_eq, is_lt, ordering_reverse}
use Rattle.std.specs.FinMap.Entries.{is_sorted, below_all}
use Rattle.std.specs.List.{AllByRecursion, insert}
use Rattle.std.specs.List.Sorted.{IsBinarySearchResult}
use Rattle.std.specs.Prelude.{Err}
use Rattle.std.proofs.lemmas.List.{take-append-drop}
use Rattle.st_rows.proofs.NodeSearch.{rises}
use Rattle.st_ids.specs.Listing.{IsRising, item_of, key_pairs}
use Rattle.st_ids.specs.Order.{node_cmp, same_node}
use Rattle.st_ids.proofs.Orders.{node_cmp_total, node_cmp_exact, same_node-true, same_listing}
use Rattle.st_ids.specs.declared.names.NodeId.{NodeId}
use Rattle.st_marks.specs.Embedding.{is_among}
use Rattle.st_rows.specs.RisingNodes.{below_first}
use Rattle.st_lemmas.proofs.Bools.{and-true, and-both}
use Rattle.st_lemmas.proofs.Orders.{is_lt-Less}

-- a node is found where it is
pub one_way : (a b : NodeId) → is_eq (node_cmp a b) ≡ same_node b a
unfolding same_node
one_way a b = ap is_eq (node_cmp_total.antisymm a b) ∙ turned (node_cmp b a)
  where
    turned : (o : Ordering) → is_eq (ordering_reverse o) ≡ is_eq o
    turned Less = refl
    turned Equal = refl
    turned Greater = refl

item_of-is_among : (xs : List NodeId) (n : NodeId) → item_of node_cmp (λ (x : NodeId). x) xs n ≡ cond (is_among xs n) (Some n) None
item_of-is_among [] n = refl
item_of-is_among (x ∷ xs) n = (λ i. cond (one_way n x i) (Some x) (item_of-is_among xs n i)) ∙ elim (same_node x n) as (λ b. same_node x n ≡ b → cond b (Some x) (cond (is_among xs n) (Some n) None) ≡ cond (b || is_among xs n) (Some n) None) [
  | true ↦ (λ e. ap (λ (y : NodeId). Some y) (same_node-true x n e))
  | false ↦ (λ e. refl)
] refl

-- two rising lists that have the same nodes are one
pub one_rising : (xs ys : List NodeId) → IsRising node_cmp (λ (x : NodeId). x) xs → IsRising node_cmp (λ (x : NodeId). x) ys → ((n : NodeId) → is_among xs n ≡ is_among ys n) → xs ≡ ys
one_rising xs ys r q h = same_listing node_cmp_total node_cmp_exact (λ (x : NodeId). x) xs ys r q (λ n. item_of-is_among xs n ∙ ap (λ b. cond b (Some n) None) (h n) ∙ sym (item_of-is_among ys n))

-- ## Node by node

abbrev Below : NodeId → List NodeId → Type 0
Below a xs = below_all node_cmp a (key_pairs (λ (x : NodeId). x) xs) ≡ true

below_more : (a b : NodeId) (xs : List NodeId) → is_lt (node_cmp a b) ≡ true → Below b xs → Below a xs
below_more a b [] e h = refl
below_more a b (x ∷ xs) e h =
    let r = and-true (is_lt (node_cmp b x)) (below_all node_cmp b (key_pairs (λ (x : NodeId). x) xs)) h in
    and-both (is_lt (node_cmp a x)) (below_all node_cmp a (key_pairs (λ (x : NodeId). x) xs)) (ap is_lt (node_cmp_total.trans a b x (is_lt-Less (node_cmp a b) e) (is_lt-Less (node_cmp b x) r.0))) (below_more a b xs e r.1)

-- whether nodes rise
abbrev pub rising : List NodeId → Bool
rising xs = is_sorted node_cmp (key_pairs (λ (x : NodeId). x) xs)

rising_on : (a b : NodeId) (xs : List NodeId) → is_lt (node_cmp a b) ≡ true → rising (a ∷ (b ∷ xs)) ≡ rising (b ∷ xs)
rising_on a b xs e = elim (rising (b ∷ xs)) as (λ z. rising (b ∷ xs) ≡ z → (below_all node_cmp a (key_pairs (λ (x : NodeId). x) (b ∷ xs)) && z) ≡ z) [
  | true ↦ (λ h. and-both _ true (and-both _ _ e (below_more a b xs e (and-true _ _ h).0)) refl)
  | false ↦ (λ h. none (below_all node_cmp a (key_pairs (λ (x : NodeId). x) (b ∷ xs))))
] refl
  where
    none : (x : Bool) → (x && false) ≡ false
    none true = refl
    none false = refl

rising_not : (a b : NodeId) (xs : List NodeId) → is_lt (node_cmp a b) ≡ false → rising (a ∷ (b ∷ xs)) ≡ false
rising_not a b xs e = ap (λ z. (z && below_all node_cmp a (key_pairs (λ (x : NodeId). x) xs)) && rising (b ∷ xs)) e

pub rising_behind : (a : NodeId) (xs : List NodeId) → below_first a xs ≡ true → rising (a ∷ xs) ≡ rising xs
rising_behind a [] e = refl
rising_behind a (b ∷ xs) e = rising_on a b xs e

pub rising_before : (a : NodeId) (xs : List NodeId) → below_first a xs ≡ false → rising (a ∷ xs) ≡ false
rising_before a [] e = cc
rising_before a (b ∷ xs) e = rising_not a b xs e

-- ## A node more

below_split : (a : NodeId) (xs ys : List NodeId) (x : NodeId) → is_lt (node_cmp a x) ≡ true → Below a (xs ++ ys) → Below a (xs ++ x ∷ ys)
below_split a [] ys x e h = and-both _ _ e h
below_split a (y ∷ xs) ys x e h = let r = and-true _ _ h in and-both _ _ r.0 (below_split a xs ys x e r.1)

-- all stand below a node, or above it
abbrev AllLess : List NodeId → NodeId → Type 0
AllLess xs x = AllByRecursion (λ y. node_cmp y x ≡ Less) xs

abbrev AllGreater : List NodeId → NodeId → Type 0
AllGreater xs x = AllByRecursion (λ y. node_cmp y x ≡ Greater) xs

below_all_greater : (x : NodeId) (ys : List NodeId) → AllGreater ys x → Below x ys
below_all_greater x [] h = refl
below_all_greater x (y ∷ ys) h = and-both _ _ (ap is_lt (node_cmp_total.antisymm x y ∙ ap ordering_reverse h.0)) (below_all_greater x ys h.1)

pub rising_between : (xs ys : List NodeId) (x : NodeId) → AllLess xs x → AllGreater ys x → rising (xs ++ ys) ≡ true → rising (xs ++ x ∷ ys) ≡ true
rising_between [] ys x l g r = and-both _ _ (below_all_greater x ys g) r
rising_between (y ∷ xs) ys x l g r = let p = and-true _ _ r in and-both _ _ (below_split y xs ys x (ap is_lt l.0) p.0) (rising_between xs ys x l.1 g p.1)

among_between : (xs ys : List NodeId) (x n : NodeId) → is_among (xs ++ x ∷ ys) n ≡ (same_node x n || is_among (xs ++ ys) n)
among_between [] ys x n = refl
among_between (y ∷ xs) ys x n = ap (λ b. same_node y n || b) (among_between xs ys x n) ∙ swapped (same_node y n) (same_node x n) (is_among (xs ++ ys) n)
  where
    swapped : (a b c : Bool) → (a || (b || c)) ≡ (b || (a || c))
    swapped true true c = refl
    swapped true false c = refl
    swapped false b c = refl

all_take : (P : NodeId → Type 0) (xs : List NodeId) (i : ℕ) → ((k : ℕ) (d : NodeId) → k < i → k < length xs → P (get_or xs k d)) → AllByRecursion P (take i xs)
all_take P xs zero h = tt
all_take P [] (suc i) h = tt
all_take P (x ∷ xs) (suc i) h = (h 0 x (omega arith) (omega arith), all_take P xs i (λ k d a b. h (suc k) d (omega (arith, a)) (omega (arith, b))))

all_drop : (P : NodeId → Type 0) (xs : List NodeId) (i : ℕ) → ((k : ℕ) (d : NodeId) → i ≤ k → k < length xs → P (get_or xs k d)) → AllByRecursion P (drop i xs)
all_drop P [] zero h = tt
all_drop P (x ∷ xs) zero h = (h 0 x (omega arith) (omega arith), all_drop P xs zero (λ k d a b. h (suc k) d (omega arith) (omega (arith, b))))
all_drop P [] (suc i) h = tt
all_drop P (x ∷ xs) (suc i) h = all_drop P xs i (λ k d a b. h (suc k) d (omega (arith, a)) (omega (arith, b)))

-- a list in which the node is
pub with_itself : (xs : List NodeId) (x n : NodeId) → is_among xs x ≡ true → is_among xs n ≡ (same_node x n || is_among xs n)
with_itself xs x n h = elim (same_node x n) as (λ b. same_node x n ≡ b → is_among xs n ≡ (b || is_among xs n)) [
  | true ↦ (λ e. ap (is_among xs) (sym (same_node-true x n e)) ∙ h)
  | false ↦ (λ e. refl)
] refl

-- the list with the node at the place that a search gives
pub with_another : (xs : List NodeId) (x : NodeId) (i : ℕ) → IsRising node_cmp (λ (y : NodeId). y) xs → i ≤ length xs → IsBinarySearchResult (λ y. node_cmp y x) xs (Err i)
    → IsRising node_cmp (λ (y : NodeId). y) (insert xs i x) × ((n : NodeId) → is_among (insert xs i x) n ≡ (same_node x n || is_among xs n))
with_another xs x i r b s =
    let parts = s (rises xs x r) in
    let less = all_take (λ y. node_cmp y x ≡ Less) xs i (λ k d a l. parts.0 k d (omega arith) a) in
    let greater = all_drop (λ y. node_cmp y x ≡ Greater) xs i (λ k d a l. parts.1 k d a l) in
    let whole = take-append-drop i xs in
    (rising_between (take i xs) (drop i xs) x less greater (ap rising whole ∙ r), λ n. among_between (take i xs) (drop i xs) x n ∙ ap (λ l. same_node x n || is_among l n) whole)
