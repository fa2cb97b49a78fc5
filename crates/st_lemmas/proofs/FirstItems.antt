-- The first items of a list that is gone through, with one more.
use Rattle.std.proofs.Common.{◌≡◌, ℕ, ◌+◌, ◌<◌, Bool, true, false, ◌||◌, List, [], ◌∷◌, ◌++◌, length, take, get_or, refl, sym, ap, ◌∙◌}
use Rattle.std.specs.List.{list_any}
use Rattle.std.proofs.lemmas.List.{take_more}

-- one more item
pub take_one : {A : Type 0} (xs : List A) (i : ℕ) (d x : A) → i < length xs → get_or xs i d ≡ x → take (i + 1) xs ≡ take i xs ++ x ∷ []
take_one xs i d x l e = take_more xs i d l ∙ ap (λ y. take i xs ++ y ∷ []) e

pub list_any-push : {A : Type 0} (p : A → Bool) (xs : List A) (x : A) → list_any p (xs ++ x ∷ []) ≡ (list_any p xs || p x)
list_any-push p [] x = elim (p x) as (λ b. (b || false) ≡ b) [ true ↦ refl | false ↦ refl ]
list_any-push p (y ∷ xs) x = elim (p y) as (λ b. (b || list_any p (xs ++ x ∷ [])) ≡ ((b || list_any p xs) || p x)) [ true ↦ refl | false ↦ list_any-push p xs x ]

-- whether a test finds one of them
pub any_more : {A : Type 0} (p : A → Bool) (xs : List A) (i : ℕ) (d x : A) → i < length xs → get_or xs i d ≡ x → list_any p (take (i + 1) xs) ≡ (list_any p (take i xs) || p x)
any_more p xs i d x l e = ap (list_any p) (take_one xs i d x l e) ∙ list_any-push p (take i xs) x

-- the same beside what was found before
pub found_more : {A : Type 0} (p : A → Bool) (old before now : Bool) (xs : List A) (i : ℕ) (d x : A) → i < length xs → get_or xs i d ≡ x
    → before ≡ (old || list_any p (take i xs)) → now ≡ (before || p x) → now ≡ (old || list_any p (take (i + 1) xs))
found_more p old before now xs i d x l e b h =
    h ∙ ap (λ c. c || p x) b ∙ both old (list_any p (take i xs)) (p x) ∙ ap (λ c. old || c) (sym (any_more p xs i d x l e))
  where
    both : (a b c : Bool) → ((a || b) || c) ≡ (a || (b || c))
    both true b c = refl
    both false b c = refl
