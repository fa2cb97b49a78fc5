-- All rows of the table.
use Rattle.std.proofs.Common.{◌≡◌, ◌↔◌, Bool, false, IsTrue, List, [], ◌∷◌, Option, Some, None, IfSome, unwrap_or, sym, subst}
use Rattle.std.specs.BTreeMap.{BTreeMap, get, is_at, IsOrdered, keys, values}
use Rattle.std.specs.List.{AllByRecursion}
use Rattle.std.proofs.lemmas.Cmp.{eq_by_cmp_equiv}
use Rattle.std.proofs.lemmas.List.Elements.{All-from_recursion, recursion_from_All}
use Rattle.std.proofs.lemmas.Map.Keys.{IsDistinct-from_sorted}
use Rattle.std.proofs.lemmas.Map.Views.{All-values_from_lookup, IfSome-lookup_from_All}
use Rattle.st_ids.proofs.Orders.{node_cmp_total}
use Rattle.st_ids.specs.Order.{node_cmp}
use Rattle.st_ids.specs.declared.names.NodeId.{NodeId}
use Rattle.st_lemmas.proofs.Bools.{true-false}

module _ {A : Type 0} (P : A → Type 0) where
  in_found : (o : Option (List A)) → IfSome o (AllByRecursion P) → AllByRecursion P (unwrap_or o [])
  in_found None h = tt
  in_found (Some x) h = h

  found_in : (o : Option (List A)) → AllByRecursion P (unwrap_or o []) → IfSome o (AllByRecursion P)
  found_in None h = tt
  found_in (Some x) h = h

  -- of each row by its name, where one that isn't there is empty, and of each as it is stored
  each_stored : (m : BTreeMap NodeId (List A)) → IsOrdered node_cmp m → AllByRecursion (AllByRecursion P) (values m) ↔ ((n : NodeId) → AllByRecursion P (unwrap_or (get node_cmp m n) []))
  each_stored m ordered = (
    λ h n. in_found (get node_cmp m n) (IfSome-lookup_from_All (AllByRecursion P) (is_at (node_cmp n)) m.entries (All-from_recursion (AllByRecursion P) (values m) h)),
    λ f. recursion_from_All (AllByRecursion P) (values m)
        (All-values_from_lookup (eq_by_cmp_equiv node_cmp_total) (AllByRecursion P) m.entries (IsDistinct-from_sorted node_cmp (keys m) ordered) (λ q. found_in (get node_cmp m q) (f q))),
  )

  module _ (m : BTreeMap NodeId (List A)) (ordered : IsOrdered node_cmp m) (left : List (List A)) (so_far : AllByRecursion (AllByRecursion P) left ↔ AllByRecursion (AllByRecursion P) (values m)) where
    pub not_in_one : (row : List A) (rest : List (List A)) (b : Bool) → left ≡ row ∷ rest → IsTrue b ↔ AllByRecursion P row → b ≡ false → ((n : NodeId) → AllByRecursion P (unwrap_or (get node_cmp m n) [])) → ⊥
    not_in_one row rest b at test fails h = true-false (test.1 (subst (AllByRecursion (AllByRecursion P)) at (so_far.1 ((each_stored m ordered).1 h))).0) fails

    pub in_all : left ≡ [] → (n : NodeId) → AllByRecursion P (unwrap_or (get node_cmp m n) [])
    in_all at = (each_stored m ordered).0 (so_far.0 (subst (AllByRecursion (AllByRecursion P)) (sym at) tt))
