-- One more item of a list that is gone through from the first, kept by name.
use Rattle.std.proofs.Common.{◌≡◌, ℕ, ◌+◌, ◌<◌, Bool, true, false, cond, ◌&&◌, ◌||◌, List, [], ◌∷◌, ◌++◌, length, take, get_or, Option, Some, None, refl, sym, ap, ◌∙◌, append_assoc, is_some, option_map}
use Rattle.std.specs.List.{filter_map, find, list_any}
use Rattle.std.specs.Option.{option_or, option_cmp, option_to_list}
use Rattle.std.specs.Ordering.{is_eq, ordering_then}
use Rattle.std.specs.declared.cmp.Ordering.{Ordering}
use Rattle.std.proofs.lemmas.List.Folds.{find-append}
use Rattle.st_ids.specs.Order.{cell_cmp, node_cmp, same_cell, same_node}
use Rattle.st_ids.specs.declared.names.CellId.{CellId}
use Rattle.st_ids.specs.declared.names.NodeId.{NodeId}
use Rattle.st_marks.specs.Intent.{same_anchor}
use Rattle.st_embed.specs.inside.Places.{place_cmp}
use Rattle.std.proofs.lemmas.List.{append-nil}
use Rattle.st_lemmas.proofs.Bools.{or-false}
use Rattle.st_lemmas.proofs.FirstItems.{take_one, any_more}

pub or_last : (a b : Bool) → cond b true a ≡ (a || b)
or_last true true = refl
or_last true false = refl
or_last false true = refl
or_last false false = refl

-- a name is among the first items, or is that of one more
pub set_more : {A : Type 0} (p : A → Bool) (before now : Bool) (xs : List A) (i : ℕ) (d x : A) → i < length xs → get_or xs i d ≡ x
    → before ≡ list_any p (take i xs) → now ≡ (before || p x) → now ≡ list_any p (take (i + 1) xs)
set_more p before now xs i d x l e b h = h ∙ ap (λ c. c || p x) b ∙ sym (any_more p xs i d x l e)

-- a value is kept where none was, after the first items
pub map_more : {A B : Type 0} (p : A → Bool) (f : A → B) (before now : Option B) (xs : List A) (i : ℕ) (d x : A) → i < length xs → get_or xs i d ≡ x
    → before ≡ option_map f (find p (take i xs)) → now ≡ option_or before (cond (p x) (Some (f x)) None)
    → now ≡ option_map f (find p (take (i + 1) xs))
map_more {A} {B} p f before now xs i d x l e b h =
    h ∙ ap (λ o. option_or o (cond (p x) (Some (f x)) None)) b ∙ both (find p (take i xs)) (p x)
    ∙ ap (option_map f) (sym (find-append p (take i xs) (x ∷ [])) ∙ ap (find p) (sym (take_one xs i d x l e)))
  where
    both : (q : Option A) (c : Bool) → option_or (option_map f q) (cond c (Some (f x)) None) ≡ option_map f (option_or q (cond c (Some x) None))
    both (Some y) c = refl
    both None true = refl
    both None false = refl

then_eq : (a b : Ordering) → is_eq (ordering_then a b) ≡ (is_eq a && is_eq b)
then_eq Ordering.Less b = refl
then_eq Ordering.Equal b = refl
then_eq Ordering.Greater b = refl

anchor_eq : (a b : Option CellId) → is_eq (option_cmp cell_cmp a b) ≡ same_anchor a b
unfolding same_cell
anchor_eq None None = refl
anchor_eq None (Some d) = refl
anchor_eq (Some c) None = refl
anchor_eq (Some c) (Some d) = refl

-- two places are the same where the nodes and the anchors are
pub place_eq : (m n : NodeId) (a b : Option CellId) → is_eq (place_cmp (m, a) (n, b)) ≡ (same_node m n && same_anchor a b)
unfolding same_node
place_eq m n a b = then_eq (node_cmp m n) (option_cmp cell_cmp a b) ∙ ap (λ c. is_eq (node_cmp m n) && c) (anchor_eq a b)

-- one of the items has the name, or one is found
pub any_found : {A : Type 0} (p : A → Bool) (xs : List A) → list_any p xs ≡ is_some (find p xs)
any_found p [] = refl
any_found {A} p (x ∷ xs) = go (p x) (any_found p xs)
  where
    go : (b : Bool) → list_any p xs ≡ is_some (find p xs) → (b || list_any p xs) ≡ is_some (cond b (Some x) (find p xs))
    go true e = refl
    go false e = e

-- ## What is left to be gone through

or_shift : (a b c : Bool) → ((a || b) || c) ≡ (a || (b || c))
or_shift true b c = refl
or_shift false b c = refl

pub set_left : {A : Type 0} (p : A → Bool) (old new whole : Bool) (items left : List A) (k : A) → items ≡ k ∷ left → new ≡ (old || p k) → (old || list_any p items) ≡ whole → (new || list_any p left) ≡ whole
set_left p old new whole items left k opened more so_far =
    ap (λ b. b || list_any p left) more ∙ or_shift old (p k) (list_any p left) ∙ ap (λ l. old || list_any p l) (sym opened) ∙ so_far

pub set_all : {A : Type 0} (p : A → Bool) (has whole : Bool) (items : List A) → items ≡ [] → (has || list_any p items) ≡ whole → has ≡ whole
set_all p has whole items none so_far = sym (or-false has) ∙ ap (λ l. has || list_any p l) (sym none) ∙ so_far

pub listed_left : {K A : Type 0} (f : K → Option A) (before now whole : List A) (items left : List K) (k : K) → items ≡ k ∷ left → now ≡ before ++ option_to_list (f k)
    → before ++ filter_map f items ≡ whole → now ++ filter_map f left ≡ whole
listed_left {A = A} f before now whole items left k opened pushed so_far =
    ap (λ l. l ++ filter_map f left) pushed ∙ append_assoc before (option_to_list (f k)) (filter_map f left) ∙ ap (λ l. before ++ l) (one (f k) refl)
    ∙ ap (λ l. before ++ filter_map f l) (sym opened) ∙ so_far
  where
    one : (o : Option A) → f k ≡ o → option_to_list o ++ filter_map f left ≡ filter_map f (k ∷ left)
    one None e = rw e refl
    one (Some x) e = rw e refl

pub listed_all : {K A : Type 0} (f : K → Option A) (out whole : List A) (items : List K) → items ≡ [] → out ++ filter_map f items ≡ whole → out ≡ whole
listed_all f out whole items none so_far = sym (append-nil out) ∙ ap (λ l. out ++ filter_map f l) (sym none) ∙ so_far
