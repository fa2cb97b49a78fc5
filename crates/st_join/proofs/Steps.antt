-- One more item of a list that is gone through from the first.
use Rattle.std.proofs.Common.{◌≡◌, ℕ, ◌+◌, ◌<◌, Bool, true, false, cond, ◌&&◌, ◌||◌, List, [], ◌∷◌, ◌++◌, length, take, get_or, Option, Some, None, refl, sym, ap, ◌∙◌, append_assoc, option_map, is_some}
use Rattle.std.specs.List.{find, list_any}
use Rattle.std.specs.Option.{option_or, option_cmp}
use Rattle.std.specs.Ordering.{is_eq, ordering_then}
use Rattle.std.specs.declared.cmp.Ordering.{Ordering}
use Rattle.std.proofs.lemmas.List.Folds.{find-append}
use Rattle.st_ids.specs.Order.{cell_cmp, node_cmp, same_cell, same_node}
use Rattle.st_ids.specs.declared.names.CellId.{CellId}
use Rattle.st_ids.specs.declared.names.NodeId.{NodeId}
use Rattle.st_marks.specs.Intent.{same_anchor}
use Rattle.st_join.specs.inside.Places.{place_cmp}
use Rattle.st_lemmas.proofs.FirstItems.{take_one, any_more}

-- what a list became by the first items, with what one more adds
pub list_more : {A B : Type 0} (F : List A → List B) → ((xs ys : List A) → F (xs ++ ys) ≡ F xs ++ F ys)
    → (old before now : List B) (xs : List A) (i : ℕ) (d x : A) → i < length xs → get_or xs i d ≡ x
    → before ≡ old ++ F (take i xs) → now ≡ before ++ F (x ∷ []) → now ≡ old ++ F (take (i + 1) xs)
list_more F joins old before now xs i d x l e b h =
    h ∙ ap (λ ys. ys ++ F (x ∷ [])) b ∙ append_assoc old (F (take i xs)) (F (x ∷ []))
    ∙ ap (λ ys. old ++ ys) (sym (joins (take i xs) (x ∷ [])) ∙ ap F (sym (take_one xs i d x l e)))

-- ## Sets

pub or_last : (a b : Bool) → cond b true a ≡ (a || b)
or_last true true = refl
or_last true false = refl
or_last false true = refl
or_last false false = refl

-- a name is among the first items, or is that of one more
pub set_more : {A : Type 0} (p : A → Bool) (before now : Bool) (xs : List A) (i : ℕ) (d x : A) → i < length xs → get_or xs i d ≡ x
    → before ≡ list_any p (take i xs) → now ≡ (before || p x) → now ≡ list_any p (take (i + 1) xs)
set_more p before now xs i d x l e b h = h ∙ ap (λ c. c || p x) b ∙ sym (any_more p xs i d x l e)

-- one of the items has the name, or one is found
pub any_found : {A : Type 0} (p : A → Bool) (xs : List A) → list_any p xs ≡ is_some (find p xs)
any_found p [] = refl
any_found {A} p (x ∷ xs) = go (p x) (any_found p xs)
  where
    go : (b : Bool) → list_any p xs ≡ is_some (find p xs) → (b || list_any p xs) ≡ is_some (cond b (Some x) (find p xs))
    go true e = refl
    go false e = e

-- ## Maps

-- a value is kept where none was, after the first items
pub map_more : {A B : Type 0} (p : A → Bool) (f : A → B) (before now : Option B) (xs : List A) (i : ℕ) (d x : A) → i < length xs → get_or xs i d ≡ x
    → before ≡ option_map f (find p (take i xs)) → now ≡ option_or before (cond (p x) (Some (f x)) None)
    → now ≡ option_map f (find p (take (i + 1) xs))
map_more {A} {B} p f before now xs i d x l e b h =
    h ∙ ap (λ o. option_or o (cond (p x) (Some (f x)) None)) b ∙ both (find p (take i xs)) (p x)
    ∙ ap (option_map f) (sym (find-append p (take i xs) (x ∷ [])) ∙ ap (find p) (sym (take_one xs i d x l e)))
  where
    both : (q : Option A) (c : Bool) → option_or (option_map f q) (cond c (Some (f x)) None) ≡ option_map f (option_or q (cond c (Some x) None))
    both (Some y) c = refl
    both None true = refl
    both None false = refl

-- ## Places

then_eq : (a b : Ordering) → is_eq (ordering_then a b) ≡ (is_eq a && is_eq b)
then_eq Ordering.Less b = refl
then_eq Ordering.Equal b = refl
then_eq Ordering.Greater b = refl

anchor_eq : (a b : Option CellId) → is_eq (option_cmp cell_cmp a b) ≡ same_anchor a b
unfolding same_cell
anchor_eq None None = refl
anchor_eq None (Some d) = refl
anchor_eq (Some c) None = refl
anchor_eq (Some c) (Some d) = refl

-- two places are the same where the nodes and the anchors are
pub place_eq : (m n : NodeId) (a b : Option CellId) → is_eq (place_cmp (m, a) (n, b)) ≡ (same_node m n && same_anchor a b)
unfolding same_node
place_eq m n a b = then_eq (node_cmp m n) (option_cmp cell_cmp a b) ∙ ap (λ c. is_eq (node_cmp m n) && c) (anchor_eq a b)

-- a place is taken by a group where it is the group's, or after a cell of it
pub taken_by : (old same here after : Bool) → ((cond (same && here) true old) || (same && after)) ≡ (old || (same && (here || after)))
taken_by true true true after = refl
taken_by true true false after = refl
taken_by true false here after = refl
taken_by false true true after = refl
taken_by false true false after = refl
taken_by false false here after = refl

-- the same node for all items
pub any_same : {A : Type 0} (b : Bool) (q : A → Bool) (xs : List A) → list_any (λ x. b && q x) xs ≡ (b && list_any q xs)
any_same true q [] = refl
any_same true q (x ∷ xs) = ap (λ c. q x || c) (any_same true q xs)
any_same false q [] = refl
any_same false q (x ∷ xs) = any_same false q xs
