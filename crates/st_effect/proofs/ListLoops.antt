-- One more item of a list.
use Rattle.std.proofs.Common.{◌≡◌, ◌<◌, ◌+◌, ◌||◌, ℕ, zero, suc, Bool, true, false, List, [], ◌∷◌, ◌++◌, map, length, take, get_or, refl, sym, ap, ◌∙◌, subst, arith}
use Rattle.std.proofs.lemmas.List.{take_more}
use Rattle.std.specs.List.{AllByRecursion, list_any}
use Rattle.st_ids.specs.Order.{same_node}
use Rattle.st_ids.specs.declared.names.NodeId.{NodeId}
use Rattle.st_lemmas.proofs.FirstItems.{list_any-push}
use Rattle.st_lemmas.proofs.Lists.{map-append}
use Rattle.st_marks.specs.declared.changes.NewNode.{NewNode}
use Rattle.st_marks.specs.Embedding.{is_among}
use Rattle.st_marks.specs.Listings.{nodes_new}

-- what holds of each item holds of that at a place
pub all_at : {A : Type 0} (P : A → Type 0) (xs : List A) (i : ℕ) (x : A) → i < length xs → x ≡ get_or xs i x → AllByRecursion P xs → P x
all_at P [] i x l e a = let bad : ⊥ = omega (arith, l) in absurd bad
all_at P (y ∷ ys) zero x l e a = subst P (sym e) a.0
all_at P (y ∷ ys) (suc i) x l e a = all_at P ys i x (omega (arith, l)) e a.1

front : {A : Type 0} (xs : List A) (i : ℕ) (x : A) → i < length xs → x ≡ get_or xs i x → take (i + 1) xs ≡ take i xs ++ x ∷ []
front xs i x l e = take_more xs i x l ∙ ap (λ z. take i xs ++ z ∷ []) (sym e)

-- a list that is mapped grows by what the next item is mapped to
pub each_more : {A B : Type 0} (f : A → B) (xs : List A) (i : ℕ) (x : A) (out new : List B) (y : B) → i < length xs → x ≡ get_or xs i x → out ≡ map f (take i xs) → y ≡ f x → new ≡ out ++ y ∷ [] → new ≡ map f (take (i + 1) xs)
each_more f xs i x out new y l e h g n = n ∙ (λ j. h j ++ g j ∷ []) ∙ sym (map-append f (take i xs) (x ∷ [])) ∙ ap (map f) (sym (front xs i x l e))

turned : (a b : Bool) → (a || b) ≡ (b || a)
turned true true = refl
turned true false = refl
turned false true = refl
turned false false = refl

-- the names of one more new node
pub among_more : (xs : List NewNode) (i : ℕ) (x : NewNode) (before now : Bool) (n : NodeId) → i < length xs → x ≡ get_or xs i x → before ≡ is_among (nodes_new (take i xs)) n → now ≡ (same_node x.node n || before) → now ≡ is_among (nodes_new (take (i + 1) xs)) n
among_more xs i x before now n l e h g =
    g ∙ turned (same_node x.node n) before ∙ ap (λ b. b || same_node x.node n) h
    ∙ sym (list_any-push (λ m. same_node m n) (nodes_new (take i xs)) x.node)
    ∙ ap (list_any (λ m. same_node m n)) (sym (map-append (λ (m : NewNode). m.node) (take i xs) (x ∷ [])))
    ∙ ap (λ l. is_among (nodes_new l) n) (sym (front xs i x l e))
