-- What a partial function picks from items that are distinct by a key.
use Rattle.std.proofs.Common.{◌≡◌, ◌≢◌, List, [], ◌∷◌, Option, Some, None, refl, ap, ◌∙◌, inl, inr}
use Rattle.std.specs.List.{cons_option, filter_map}
use Rattle.st_ids.specs.Listing.{AreDistinct, Has}
use Rattle.st_marks.proofs.Members.{all-has, has-all}

-- keys that tell their items apart are distinct
module _ {A K : Type 0} (g : A → Option K) where
  pub has-picked : (xs : List A) (k : K) → Has (filter_map g xs) k → (x : A) × Has xs x × (g x ≡ Some k)
  has-picked [] k h = absurd h
  has-picked (x ∷ xs) k h = go (g x) refl (has-picked xs k) h
    where
      go : (o : Option K) → g x ≡ o → (Has (filter_map g xs) k → (x : A) × Has xs x × (g x ≡ Some k)) → Has (cons_option o (filter_map g xs)) k → (y : A) × Has (x ∷ xs) y × (g y ≡ Some k)
      go None e rest h = let r = rest h in (r.0, inr r.1, r.2)
      go (Some l) e rest (inl q) = (x, inl refl, e ∙ ap (λ k. Some k) q)
      go (Some l) e rest (inr h) = let r = rest h in (r.0, inr r.1, r.2)

  pub picked_distinct : {N : Type 0} (key : A → N) (xs : List A) → AreDistinct key xs → ((x y : A) (k : K) → Has xs x → Has xs y → g x ≡ Some k → g y ≡ Some k → key x ≡ key y) → AreDistinct (λ k. k) (filter_map g xs)
  picked_distinct key [] a one = tt
  picked_distinct key (x ∷ xs) a one = go (g x) refl (picked_distinct key xs a.1 (λ y z k h i e f. one y z k (inr h) (inr i) e f))
    where
      go : (o : Option K) → g x ≡ o → AreDistinct (λ k. k) (filter_map g xs) → AreDistinct (λ k. k) (cons_option o (filter_map g xs))
      go None e rest = rest
      go (Some k) e rest = (
        has-all (λ l. l ≢ k) (filter_map g xs) (λ l h q.
            let r = has-picked xs l h in
            all-has (λ y. key y ≢ key x) xs r.0 a.0 r.1 (one r.0 x k (inr r.1) (inl refl) (r.2 ∙ ap (λ l. Some l) q) e)),
        rest,
      )
