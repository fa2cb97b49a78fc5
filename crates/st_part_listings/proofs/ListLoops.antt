-- Lists that are made of the items of another one by one.
use Rattle.std.proofs.Common.{◌≡◌, ◌+◌, ◌<◌, ℕ, List, [], ◌∷◌, ◌++◌, map, length, take, get_or, Option, Some, None, refl, sym, ap, ◌∙◌, append_assoc}
use Rattle.std.specs.List.{filter_map}
use Rattle.std.specs.Option.{option_to_list}
use Rattle.st_lemmas.proofs.FirstItems.{take_one}
use Rattle.st_lemmas.proofs.Lists.{filter_map-append, map-append}

-- one copy more behind others
pub copied_more : {A : Type 0} (start out new xs : List A) (i : ℕ) (x y : A) → i < length xs → get_or xs i x ≡ x → y ≡ x → new ≡ out ++ y ∷ [] → out ≡ start ++ take i xs → new ≡ start ++ take (i + 1) xs
copied_more start out new xs i x y inside at same pushed so_far =
    pushed ∙ (λ j. so_far j ++ same j ∷ []) ∙ append_assoc start (take i xs) (x ∷ []) ∙ ap (λ l. start ++ l) (sym (take_one xs i x x inside at))

-- one item more is mapped
pub mapped_more : {A B : Type 0} (f : A → B) (xs : List A) (i : ℕ) (x : A) (y : B) (out new : List B) → i < length xs → get_or xs i x ≡ x → y ≡ f x → new ≡ out ++ y ∷ [] → out ≡ map f (take i xs) → new ≡ map f (take (i + 1) xs)
mapped_more f xs i x y out new inside at made pushed so_far =
    pushed ∙ (λ j. so_far j ++ made j ∷ []) ∙ sym (map-append f (take i xs) (x ∷ [])) ∙ ap (map f) (sym (take_one xs i x x inside at))

-- one item more is kept or left out
pub filtered_more : {A B : Type 0} (f : A → Option B) (xs : List A) (i : ℕ) (d x : A) (o : Option B) (out new : List B) → i < length xs → get_or xs i d ≡ x → o ≡ f x → new ≡ out ++ option_to_list o → out ≡ filter_map f (take i xs) → new ≡ filter_map f (take (i + 1) xs)
filtered_more {B = B} f xs i d x o out new inside at made pushed so_far =
    pushed ∙ (λ j. so_far j ++ option_to_list (made j)) ∙ ap (λ l. filter_map f (take i xs) ++ l) (one (f x) refl) ∙ sym (filter_map-append f (take i xs) (x ∷ []))
    ∙ ap (filter_map f) (sym (take_one xs i d x inside at))
  where
    one : (p : Option B) → f x ≡ p → option_to_list p ≡ filter_map f (x ∷ [])
    one None e = rw e refl
    one (Some y) e = rw e refl
