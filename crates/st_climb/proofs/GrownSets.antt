-- Sets that gain the nodes of lists.
use Rattle.std.proofs.Common.{◌≡◌, ℕ, ◌+◌, ◌<◌, Bool, true, false, cond, ◌||◌, ◌&&◌, not, List, [], ◌∷◌, ◌++◌, length, map, take, get_or, refl, sym, ap, ◌∙◌, subst}
use Rattle.std.specs.List.{flat_map, list_any}
use Rattle.std.proofs.lemmas.Grind.{flat_map-append}
use Rattle.std.proofs.lemmas.List.{append-nil}
use Rattle.st_ids.specs.Order.{same_node}
use Rattle.st_ids.specs.declared.names.NodeId.{NodeId}
use Rattle.st_ids.proofs.Orders.{same_node-itself, same_node-true}
use Rattle.st_lemmas.proofs.Bools.{both-ways-same, or-false}
use Rattle.st_lemmas.proofs.FirstItems.{take_one}
use Rattle.st_lemmas.proofs.Lists.{map-append}
use Rattle.st_marks.specs.Embedding.{is_among}

pub or_shift : (a b c : Bool) → ((a || b) || c) ≡ (a || (b || c))
or_shift true b c = refl
or_shift false b c = refl

pub among-append : (xs ys : List NodeId) (n : NodeId) → is_among (xs ++ ys) n ≡ (is_among xs n || is_among ys n)
among-append [] ys n = refl
among-append (x ∷ xs) ys n = ap (λ b. same_node x n || b) (among-append xs ys n) ∙ sym (or_shift (same_node x n) (is_among xs n) (is_among ys n))

pub or_last : (a b : Bool) → cond b true a ≡ (a || (b || false))
or_last true true = refl
or_last true false = refl
or_last false true = refl
or_last false false = refl

pub added_then : (old before now : Bool) (xs ys : List NodeId) (n : NodeId) → before ≡ (old || is_among xs n) → now ≡ (before || is_among ys n) → now ≡ (old || is_among (xs ++ ys) n)
added_then old before now xs ys n so_far h =
    h ∙ ap (λ b. b || is_among ys n) so_far ∙ or_shift old (is_among xs n) (is_among ys n) ∙ ap (λ b. old || b) (sym (among-append xs ys n))

pub added_more : {A : Type 0} (f : A → List NodeId) (old before now : Bool) (n : NodeId) (xs : List A) (i : ℕ) (d x : A) → i < length xs → get_or xs i d ≡ x
    → before ≡ (old || is_among (flat_map f (take i xs)) n) → now ≡ (before || is_among (f x) n)
    → now ≡ (old || is_among (flat_map f (take (i + 1) xs)) n)
added_more f old before now n xs i d x inside at so_far h =
    added_then old before now (flat_map f (take i xs)) (f x) n so_far h
    ∙ ap (λ l. old || is_among l n) (ap (λ l. flat_map f (take i xs) ++ l) (sym (append-nil (f x))) ∙ sym (flat_map-append f (take i xs) (x ∷ [])) ∙ ap (flat_map f) (sym (take_one xs i d x inside at)))

pub added_mapped : {A : Type 0} (f : A → NodeId) (old before now : Bool) (n : NodeId) (xs : List A) (i : ℕ) (d x : A) → i < length xs → get_or xs i d ≡ x
    → before ≡ (old || is_among (map f (take i xs)) n) → now ≡ (before || is_among (f x ∷ []) n)
    → now ≡ (old || is_among (map f (take (i + 1) xs)) n)
added_mapped f old before now n xs i d x inside at so_far h =
    added_then old before now (map f (take i xs)) (f x ∷ []) n so_far h
    ∙ ap (λ l. old || is_among l n) (sym (map-append f (take i xs) (x ∷ [])) ∙ ap (map f) (sym (take_one xs i d x inside at)))

pub added_one : (old before now : Bool) (n : NodeId) (xs : List NodeId) (i : ℕ) (d x : NodeId) → i < length xs → get_or xs i d ≡ x
    → before ≡ (old || is_among (take i xs) n) → now ≡ (before || is_among (x ∷ []) n)
    → now ≡ (old || is_among (take (i + 1) xs) n)
added_one old before now n xs i d x inside at so_far h =
    added_then old before now (take i xs) (x ∷ []) n so_far h ∙ ap (λ l. old || is_among l n) (sym (take_one xs i d x inside at))

-- ## What is left to be gone through

pub set_left : {A : Type 0} (p : A → Bool) (old new whole : Bool) (items left : List A) (k : A) → items ≡ k ∷ left → new ≡ (old || p k) → (old || list_any p items) ≡ whole → (new || list_any p left) ≡ whole
set_left p old new whole items left k opened more so_far =
    ap (λ b. b || list_any p left) more ∙ or_shift old (p k) (list_any p left) ∙ ap (λ l. old || list_any p l) (sym opened) ∙ so_far

pub set_all : {A : Type 0} (p : A → Bool) (has whole : Bool) (items : List A) → items ≡ [] → (has || list_any p items) ≡ whole → has ≡ whole
set_all p has whole items none so_far = sym (or-false has) ∙ ap (λ l. has || list_any p l) (sym none) ∙ so_far

-- ## One set without another

same_both : (a b : NodeId) → same_node a b ≡ same_node b a
same_both a b = both-ways-same (same_node a b) (same_node b a)
    (λ e. subst (λ c. same_node c a ≡ true) (same_node-true a b e) (same_node-itself a))
    (λ e. subst (λ c. same_node c b ≡ true) (same_node-true b a e) (same_node-itself b))

pub any_without : (has : NodeId → Bool) (ks : List NodeId) (n : NodeId) → list_any (λ k. same_node k n && not (has k)) ks ≡ (list_any (λ k. same_node n k) ks && not (has n))
any_without has [] n = refl
any_without has (k ∷ ks) n =
    ap (λ b. same_node k n && not (has k) || b) (any_without has ks n) ∙ go (same_node k n) refl
  where
    here : (b c : Bool) → (b || (c && b)) ≡ b
    here true c = refl
    here false true = refl
    here false false = refl

    go : (b : Bool) → same_node k n ≡ b → (b && not (has k) || (list_any (λ k. same_node n k) ks && not (has n))) ≡ ((same_node n k || list_any (λ k. same_node n k) ks) && not (has n))
    go true e =
        ap (λ j. not (has j) || (list_any (λ k. same_node n k) ks && not (has n))) (same_node-true k n e) ∙ here (not (has n)) (list_any (λ k. same_node n k) ks)
        ∙ ap (λ b. (b || list_any (λ k. same_node n k) ks) && not (has n)) (sym (same_both n k ∙ e))
    go false e = ap (λ b. (b || list_any (λ k. same_node n k) ks) && not (has n)) (sym (same_both n k ∙ e))
