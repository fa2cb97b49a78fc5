-- Lists of nodes, and of what is made of items.
use Rattle.std.proofs.Common.{◌≡◌, true, List, [], ◌∷◌, ◌++◌, map, Option, Some, None, option_map, refl, ap, ◌∙◌, subst, inl, inr}
use Rattle.std.specs.List.{flat_map}
use Rattle.st_ids.specs.Listing.{Has}
use Rattle.st_ids.specs.Order.{same_node}
use Rattle.st_ids.specs.declared.names.NodeId.{NodeId}
use Rattle.st_ids.proofs.Orders.{same_node-itself, same_node-true}
use Rattle.st_lemmas.proofs.Bools.{or-cases, or-left, or-right}
use Rattle.st_marks.specs.Embedding.{is_among}

pub among-has : (ns : List NodeId) (n : NodeId) → is_among ns n ≡ true → Has ns n
among-has [] n e = cc
among-has (m ∷ ns) n e = elim (or-cases (same_node m n) (is_among ns n) e) [ inl p ↦ inl (same_node-true m n p) | inr p ↦ inr (among-has ns n p) ]

pub has-among : (ns : List NodeId) (n : NodeId) → Has ns n → is_among ns n ≡ true
has-among [] n h = absurd h
has-among (m ∷ ns) n (inl e) = or-left (same_node m n) (is_among ns n) (subst (λ k. same_node m k ≡ true) e (same_node-itself m))
has-among (m ∷ ns) n (inr h) = or-right (same_node m n) (is_among ns n) (has-among ns n h)

pub mapped : {A B : Type 0} (g : A → B) (o : Option A) (b : B) → option_map g o ≡ Some b → (a : A) × (o ≡ Some a) × (g a ≡ b)
mapped g None b e = cc
mapped g (Some a) b e = (a, refl, let q : g a ≡ b = cc in q)

pub flat_of_map : {A B C : Type 0} (f : B → List C) (g : A → B) (xs : List A) → flat_map f (map g xs) ≡ flat_map (λ x. f (g x)) xs
flat_of_map f g [] = refl
flat_of_map f g (x ∷ xs) = ap (λ l. f (g x) ++ l) (flat_of_map f g xs)

pub map_of_append : {A B : Type 0} (f : A → B) (xs ys : List A) → map f (xs ++ ys) ≡ map f xs ++ map f ys
map_of_append f [] ys = refl
map_of_append f (x ∷ xs) ys = ap (λ l. f x ∷ l) (map_of_append f xs ys)

pub map_of_flat : {A B C : Type 0} (f : B → C) (g : A → List B) (xs : List A) → map f (flat_map g xs) ≡ flat_map (λ x. map f (g x)) xs
map_of_flat f g [] = refl
map_of_flat f g (x ∷ xs) = map_of_append f (g x) (flat_map g xs) ∙ ap (λ l. map f (g x) ++ l) (map_of_flat f g xs)

pub flat_alike : {A B : Type 0} (f g : A → List B) → ((x : A) → f x ≡ g x) → (xs : List A) → flat_map f xs ≡ flat_map g xs
flat_alike f g same [] = refl
flat_alike f g same (x ∷ xs) = λ i. same x i ++ flat_alike f g same xs i
