-- On lists.
use Rattle.std.proofs.Common.{◌≡◌, ◌+◌, ℕ, zero, suc, List, [], ◌∷◌, drop, Some, refl, arith, ◌++◌, Option, None, ap, ◌∙◌, Bool, true, false, not, ◌==◌, length, map, ◌≤◌}
use Rattle.std.specs.List.{slice_get, filter_map, cons_option, list_all, position_from, flat_map, AllByRecursion}
use Rattle.std.proofs.lemmas.Bool.Decides.{nat_tests}

pub drop-slice_get : {X : Type 0} (xs : List X) (i : ℕ) (x : X) → slice_get xs i ≡ Some x → drop i xs ≡ x ∷ drop (i + 1) xs
drop-slice_get [] i x e = cc
drop-slice_get (y ∷ ys) zero x e = let same : y ≡ x = cc in rw same refl
drop-slice_get (y ∷ ys) (suc i) x e =
    let one : suc i + 1 ≡ suc (i + 1) = omega arith in
    rw one (drop-slice_get ys i x e)

pub filter_map-append : {A B : Type 0} (f : A → Option B) (xs ys : List A) → filter_map f (xs ++ ys) ≡ filter_map f xs ++ filter_map f ys
filter_map-append f [] ys = refl
filter_map-append {A} {B} f (x ∷ xs) ys = ap (cons_option (f x)) (filter_map-append f xs ys) ∙ go (f x)
  where
    go : (o : Option B) → cons_option o (filter_map f xs ++ filter_map f ys) ≡ cons_option o (filter_map f xs) ++ filter_map f ys
    go None = refl
    go (Some y) = refl

pub position_from-None : (k : ℕ) (bs : List Bool) → position_from (λ ok. not ok) k bs ≡ None → list_all (λ ok. ok) bs ≡ true
position_from-None k [] e = refl
position_from-None k (true ∷ bs) e = position_from-None (k + 1) bs e
position_from-None k (false ∷ bs) e = absurd (cc)

pub length-zero : (k : List ℕ) → (length k == 0) ≡ true → k ≡ []
length-zero [] e = refl
length-zero (b ∷ k) e = let bad : suc (length k) ≡ 0 = grind (arith, nat_tests) in absurd (omega (arith, bad))

pub length-append : {A : Type 0} (xs ys : List A) → length (xs ++ ys) ≡ length xs + length ys
length-append [] ys = omega arith
length-append (x ∷ xs) ys = omega (arith, length-append xs ys)

pub map-append : {A B : Type 0} (f : A → B) (xs ys : List A) → map f (xs ++ ys) ≡ map f xs ++ map f ys
map-append f [] ys = refl
map-append f (x ∷ xs) ys = ap (λ l. f x ∷ l) (map-append f xs ys)

pub flat_map-same : {A B : Type 0} (f g : A → List B) → ((x : A) → f x ≡ g x) → (xs : List A) → flat_map f xs ≡ flat_map g xs
flat_map-same f g e [] = refl
flat_map-same f g e (x ∷ xs) = ap (λ l. l ++ flat_map f xs) (e x) ∙ ap (λ l. g x ++ l) (flat_map-same f g e xs)

pub flat_map-map : {A B E : Type 0} (f : B → List E) (g : A → B) (xs : List A) → flat_map f (map g xs) ≡ flat_map (λ x. f (g x)) xs
flat_map-map f g [] = refl
flat_map-map f g (x ∷ xs) = ap (λ l. f (g x) ++ l) (flat_map-map f g xs)

pub filter_map-length : {A B : Type 0} (f : A → Option B) (xs : List A) → length (filter_map f xs) ≤ length xs
filter_map-length f [] = omega arith
filter_map-length {A} {B} f (x ∷ xs) = go (f x) (filter_map-length f xs)
  where
    go : (o : Option B) → length (filter_map f xs) ≤ length xs → length (cons_option o (filter_map f xs)) ≤ suc (length xs)
    go None h = omega arith
    go (Some y) h = omega arith

pub AllByRecursion-append : {A : Type 0} (P : A → Type 0) (xs ys : List A) → AllByRecursion P xs → AllByRecursion P ys → AllByRecursion P (xs ++ ys)
AllByRecursion-append P [] ys p q = q
AllByRecursion-append P (x ∷ xs) ys p q = (p.0, AllByRecursion-append P xs ys p.1 q)
