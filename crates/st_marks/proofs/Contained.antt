-- Distinct items that another list has are no more than its items.
use Rattle.std.proofs.Common.{◌≡◌, ◌≢◌, ◌≤◌, suc, length, List, [], ◌∷◌, refl, sym, ap, ◌∙◌, inl, inr, arith}
use Rattle.st_ids.specs.Listing.{AreDistinct, Has}
use Rattle.st_marks.proofs.Members.{all-has}

-- the items but the one
abbrev others : {A : Type 0} (ys : List A) (x : A) → Has ys x → List A
others [] x h = []
others (y ∷ ys) x (inl e) = ys
others (y ∷ ys) x (inr h) = y ∷ others ys x h

others_length : {A : Type 0} (ys : List A) (x : A) (h : Has ys x) → length ys ≡ suc (length (others ys x h))
others_length [] x h = absurd h
others_length (y ∷ ys) x (inl e) = refl
others_length (y ∷ ys) x (inr h) = ap suc (others_length ys x h)

others_stay : {A : Type 0} (ys : List A) (x z : A) (h : Has ys x) → Has ys z → z ≢ x → Has (others ys x h) z
others_stay [] x z h i apart = absurd h
others_stay (y ∷ ys) x z (inl e) (inl f) apart = absurd (apart (sym f ∙ e))
others_stay (y ∷ ys) x z (inl e) (inr i) apart = i
others_stay (y ∷ ys) x z (inr h) (inl f) apart = inl f
others_stay (y ∷ ys) x z (inr h) (inr i) apart = inr (others_stay ys x z h i apart)

pub no_longer : {A K : Type 0} (key : A → K) (xs ys : List A) → AreDistinct key xs → ((x : A) → Has xs x → Has ys x) → length xs ≤ length ys
no_longer key [] ys d h = omega arith
no_longer key (x ∷ xs) ys d h =
    let i = h x (inl refl) in
    let rest = no_longer key xs (others ys x i) d.1 (λ z j. others_stay ys x z i (h z (inr j)) (λ e. all-has (λ y. key y ≢ key x) xs z d.0 j (ap key e))) in
    omega (arith, rest, others_length ys x i)
