-- What holds of each thing that is gone through.
use Rattle.std.proofs.Common.{◌≡◌, ◌≤◌, ◌+◌, ℕ, zero, suc, ◌↔◌, Bool, List, [], ◌∷◌, Some, IsTrue, drop, length, slice_get, refl, sym, subst, arith, get_or, inl, inr, ◌<◌, ap, ◌∙◌, false}
use Rattle.std.specs.List.{AllByRecursion}
use Rattle.st_ids.specs.Listing.{Has}
use Rattle.st_ids.specs.Order.{same_node}
use Rattle.st_ids.specs.declared.names.NodeId.{NodeId}
use Rattle.st_ids.proofs.Orders.{same_node-itself}
use Rattle.st_marks.specs.declared.changes.NewNode.{NewNode}
use Rattle.st_marks.specs.Listings.{nodes_new}
use Rattle.st_lemmas.proofs.Bools.{true-false}
use Rattle.st_lemmas.proofs.Lists.{drop-slice_get}

-- a test of each, told in other words
pub along : {A : Type 0} (Q : A → Type 0) (R : Type 0) (b : Bool) (xs ys : List A) → xs ≡ ys → IsTrue b ↔ AllByRecursion Q xs → AllByRecursion Q ys ↔ R → IsTrue b ↔ R
along Q R b xs ys e test told = (λ t. told.0 (subst (AllByRecursion Q) e (test.0 t)), λ h. test.1 (subst (AllByRecursion Q) (sym e) (told.1 h)))

module _ {A : Type 0} (P : A → Type 0) (xs : List A) (i : ℕ) (left : AllByRecursion P (drop i xs) ↔ AllByRecursion P xs) where
  pub one_more : (x : A) → slice_get xs i ≡ Some x → P x → AllByRecursion P (drop (i + 1) xs) ↔ AllByRecursion P xs
  one_more x at p =
      let e = drop-slice_get xs i x at in
      (λ h. left.0 (subst (AllByRecursion P) (sym e) (p, h)), λ w. (subst (AllByRecursion P) e (left.1 w)).1)

  pub to_the_end : length xs ≤ i → AllByRecursion P xs
  to_the_end l = left.0 (subst (AllByRecursion P) (sym (past xs i l)) tt)
    where
      past : (ys : List A) (k : ℕ) → length ys ≤ k → drop k ys ≡ []
      past [] zero q = refl
      past [] (suc k) q = refl
      past (y ∷ ys) zero q = absurd (let z : suc (length ys) ≤ 0 = q in omega (arith, z))
      past (y ∷ ys) (suc k) q = past ys k (let z : suc (length ys) ≤ suc k = q in omega (arith, z))

-- what is at a place is in the list
pub has_at : {A : Type 0} (xs : List A) (i : ℕ) (x : A) → i < length xs → x ≡ get_or xs i x → Has xs x
has_at xs i x l e = subst (Has xs) (sym e) (go xs i x l)
  where
    go : {A : Type 0} (ys : List A) (k : ℕ) (d : A) → k < length ys → Has ys (get_or ys k d)
    go [] k d q = absurd (let z : k < 0 = q in omega (arith, z))
    go (y ∷ ys) zero d q = inl refl
    go (y ∷ ys) (suc k) d q = inr (go ys k d (let z : suc k < suc (length ys) = q in omega (arith, z)))

-- ## A node that is looked for

drop_at : {A : Type 0} (xs : List A) (i : ℕ) (x : A) → i < length xs → x ≡ get_or xs i x → drop i xs ≡ x ∷ drop (i + 1) xs
drop_at xs i x l e = go xs i x l ∙ ap (λ y. y ∷ drop (i + 1) xs) (sym e)
  where
    go : {A : Type 0} (ys : List A) (k : ℕ) (d : A) → k < length ys → drop k ys ≡ get_or ys k d ∷ drop (k + 1) ys
    go [] k d q = absurd (let z : k < 0 = q in omega (arith, z))
    go (y ∷ ys) zero d q = refl
    go (y ∷ ys) (suc k) d q =
        let n : suc k + 1 ≡ suc (k + 1) = omega arith in
        go ys k d (let z : suc k < suc (length ys) = q in omega (arith, z)) ∙ ap (λ j. get_or ys k d ∷ drop j (y ∷ ys)) (sym n)

pub not_yet : (new : List NewNode) (i : ℕ) (m : NewNode) (n : NodeId) (b : Bool) → i < length new → m ≡ get_or new i m → b ≡ same_node m.node n → b ≡ false
    → Has (nodes_new (drop i new)) n ↔ Has (nodes_new new) n → Has (nodes_new (drop (i + 1) new)) n ↔ Has (nodes_new new) n
not_yet new i m n b l at is other left =
    let e = drop_at new i m l at in (
      λ h. left.0 (subst (λ (k : List NewNode). Has (nodes_new k) n) (sym e) (inr h)),
      λ w. rest (subst (λ (k : List NewNode). Has (nodes_new k) n) e (left.1 w)),
    )
  where
    rest : Has (nodes_new (m ∷ drop (i + 1) new)) n → Has (nodes_new (drop (i + 1) new)) n
    rest (inl q) = absurd (true-false (is ∙ ap (same_node m.node) (sym q) ∙ same_node-itself m.node) other)
    rest (inr h) = h
