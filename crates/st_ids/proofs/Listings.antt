-- The item that a rising listing has at a name.
use Rattle.std.proofs.Common.{◌≡◌, Bool, true, false, List, [], ◌∷◌, Some, cond, refl, sym, ap, ◌∙◌, subst, inl, inr}
use Rattle.std.specs.Cmp.{IsTotalOrder}
use Rattle.std.specs.FinMap.Entries.{below_all}
use Rattle.std.specs.Ordering.{is_eq, is_lt, ordering_reverse}
use Rattle.std.specs.declared.cmp.Ordering.{Ordering}
use Rattle.std.specs.declared.cmp.Ordering.TheVariants.{Less, Equal, Greater}
use Rattle.std.proofs.lemmas.Map.Lookups.{CmpEqualImpliesEq}
use Rattle.st_ids.specs.Listing.{Has, IsRising, item_of, key_pairs}
use Rattle.st_ids.proofs.Orders.{is_eq_equal, self_reverse}
use Rattle.st_ids.proofs.Rising.{parts_true}

module _ {K A : Type 0} (R : K → K → Ordering) (t : IsTotalOrder R) (exact : CmpEqualImpliesEq R) (key : A → K) where
  apart : (o q : Ordering) → is_lt o ≡ true → q ≡ ordering_reverse o → is_eq q ≡ false
  apart Less q e f = ap is_eq f
  apart Equal q e f = cc
  apart Greater q e f = cc

  below-has : (k : K) (xs : List A) (x : A) → below_all R k (key_pairs key xs) ≡ true → Has xs x → is_lt (R k (key x)) ≡ true
  below-has k [] x b h = absurd h
  below-has k (y ∷ ys) x b (inl e) = subst (λ z. is_lt (R k (key z)) ≡ true) e (parts_true _ _ b).0
  below-has k (y ∷ ys) x b (inr h) = below-has k ys x (parts_true _ _ b).1 h

  pub has-item_of : (xs : List A) (x : A) → IsRising R key xs → Has xs x → item_of R key xs (key x) ≡ Some x
  has-item_of [] x r h = absurd h
  has-item_of (y ∷ ys) x r (inl e) = subst (λ z. cond (is_eq (R (key z) (key y))) (Some y) (item_of R key ys (key z)) ≡ Some z) e
      (ap (λ b. cond b (Some y) (item_of R key ys (key y))) (self_reverse (R (key y) (key y)) (t.antisymm (key y) (key y))))
  has-item_of (y ∷ ys) x r (inr h) = let p = parts_true _ _ r in
      ap (λ b. cond b (Some y) (item_of R key ys (key x))) (apart (R (key y) (key x)) (R (key x) (key y)) (below-has (key y) ys x p.0 h) (t.antisymm (key x) (key y)))
      ∙ has-item_of ys x p.1 h

  pub item_of-has : (xs : List A) (k : K) (x : A) → item_of R key xs k ≡ Some x → Has xs x × (key x ≡ k)
  item_of-has [] k x e = cc
  item_of-has (y ∷ ys) k x e = go (is_eq (R k (key y))) refl (λ f. item_of-has ys k x f) e
    where
      go : (b : Bool) → is_eq (R k (key y)) ≡ b → (item_of R key ys k ≡ Some x → Has ys x × (key x ≡ k)) → cond b (Some y) (item_of R key ys k) ≡ Some x → Has (y ∷ ys) x × (key x ≡ k)
      go true f rest g = let q : y ≡ x = cc in (inl q, ap key (sym q) ∙ sym (exact k (key y) (is_eq_equal _ f)))
      go false f rest g = let r = rest g in (inr r.0, r.1)
