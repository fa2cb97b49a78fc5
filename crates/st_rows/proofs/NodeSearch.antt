-- A node that is looked for in a rising list.
use Rattle.std.proofs.Common.{◌≡◌, ◌<◌, ◌≤◌, ◌+◌, ℕ, zero, suc, true, false, ◌||◌, List, [], ◌∷◌, length, get_or, refl, sym, ap, ◌∙◌, arith, subst, inl, inr, ◌⊎◌}
use Rattle.std.specs.declared.cmp.Ordering.{Ordering}
use Rattle.std.specs.declared.cmp.Ordering.TheVariants.{Less, Equal, Greater}
use Rattle.std.specs.List.Sorted.{IsBinarySearchResult, IsNonDecreasingBy}
use Rattle.std.specs.Prelude.{Result, Ok, Err, is_ok, MatchResult, IsTrue}
use Rattle.std.proofs.lemmas.List.Sorted.{searchable_from_sorted}
use Rattle.st_ids.specs.Listing.{IsRising, key_pairs}
use Rattle.std.specs.FinMap.Entries.{below_all}
use Rattle.std.specs.Ordering.{is_lt, ordering_reverse, ordering_index, is_eq}
use Rattle.st_ids.proofs.Orders.{node_cmp_total}
use Rattle.st_ids.specs.Order.{node_cmp, same_node}
use Rattle.st_ids.specs.declared.names.NodeId.{NodeId}
use Rattle.st_marks.specs.Embedding.{is_among}
use Rattle.st_lemmas.proofs.Bools.{and-second, and-first}

none_less : (xs : List NodeId) (x : NodeId) → ((k : ℕ) (d : NodeId) → k < length xs → same_node (get_or xs k d) x ≡ false) → is_among xs x ≡ false
none_less [] x h = refl
none_less (y ∷ ys) x h = rw (h 0 y (omega arith)) (none_less ys x (λ k d l. h (suc k) d (omega (arith, l))))

some_there : (xs : List NodeId) (x : NodeId) (k : ℕ) → ((d : NodeId) → same_node (get_or xs k d) x ≡ true) → k < length xs → is_among xs x ≡ true
some_there [] x k h l = absurd (omega (arith, l))
some_there (y ∷ ys) x zero h l = rw (h y) refl
some_there (y ∷ ys) x (suc k) h l = elim (same_node y x) as (λ b. (b || is_among ys x) ≡ true) [ true ↦ refl | false ↦ some_there ys x k h (omega (arith, l)) ]

-- ## A rising list

abbrev below : NodeId → List NodeId → Type 0
below x ys = IsTrue (below_all node_cmp x (key_pairs (λ (n : NodeId). n) ys))

not_after : (a b : NodeId) → is_lt (node_cmp a b) ≡ true → is_lt (node_cmp b a) ≡ false
not_after a b h = ap is_lt (node_cmp_total.antisymm b a) ∙ turned (node_cmp a b) h
  where
    turned : (o : Ordering) → is_lt o ≡ true → is_lt (ordering_reverse o) ≡ false
    turned Less h = refl
    turned Equal h = cc
    turned Greater h = cc

adjacent : (xs : List NodeId) → IsRising node_cmp (λ (n : NodeId). n) xs → (k : ℕ) (d : NodeId) → k + 1 < length xs → is_lt (node_cmp (get_or xs (k + 1) d) (get_or xs k d)) ≡ false
adjacent [] h k d l = absurd (omega (arith, l))
adjacent (x ∷ []) h k d l = absurd (omega (arith, l))
adjacent (x ∷ (y ∷ zs)) h zero d l = not_after x y (and-first _ _ (and-first _ _ h))
adjacent (x ∷ (y ∷ zs)) h (suc k) d l =
    let e : suc k + 1 ≡ suc (k + 1) = omega arith in
    subst (λ i. is_lt (node_cmp (get_or (x ∷ (y ∷ zs)) i d) (get_or (x ∷ (y ∷ zs)) (suc k) d)) ≡ false) (sym e) (adjacent (y ∷ zs) (and-second _ _ h) k d (omega (arith, l)))

pub rises : (xs : List NodeId) (x : NodeId) → IsRising node_cmp (λ (n : NodeId). n) xs → IsNonDecreasingBy (λ y. ordering_index (node_cmp y x)) xs
rises xs x h = searchable_from_sorted node_cmp_total (λ y. y) xs x (λ k d a b. adjacent xs h k d b)

not_equal : (o : Ordering) → (o ≡ Less) ⊎ (o ≡ Greater) → is_eq o ≡ false
not_equal o (inl e) = ap is_eq e
not_equal o (inr e) = ap is_eq e

-- what a binary search tells
pub found_or_not : (xs : List NodeId) (x : NodeId) (r : Result ℕ ℕ) → IsRising node_cmp (λ (n : NodeId). n) xs → MatchResult r (λ i. i < length xs) (λ i. i ≤ length xs) → IsBinarySearchResult (λ y. node_cmp y x) xs r → is_ok r ≡ is_among xs x
unfolding same_node
found_or_not xs x (Ok i) h b s = sym (some_there xs x i (λ d. ap is_eq (s d)) b)
found_or_not xs x (Err i) h b s =
    let parts = s (rises xs x h) in
    sym (none_less xs x (λ k d l. elim (order k i) [ inl e ↦ not_equal _ (inl (parts.0 k d (omega arith) e)) | inr e ↦ not_equal _ (inr (parts.1 k d e l)) ]))
  where
    order : (k i : ℕ) → (k < i) ⊎ (i ≤ k)
    order k zero = inr (omega arith)
    order zero (suc i) = inl (omega arith)
    order (suc k) (suc i) = elim (order k i) [ inl e ↦ inl (omega (arith, e)) | inr e ↦ inr (omega (arith, e)) ]
