-- The opening document of a tree, node by node.
use Rattle.std.proofs.Common.{◌≡◌, ℕ, ◌+◌, ◌<◌, Bool, true, false, cond, List, [], ◌∷◌, ◌++◌, length, take, get_or, Option, Some, None, unwrap_or, refl, sym, ap, ◌∙◌}
use Rattle.std.specs.List.{filter_map, cons_option}
use Rattle.std.specs.Option.{option_or, option_to_list}
use Rattle.std.proofs.lemmas.List.{append-nil}
use Rattle.st_ids.specs.Order.{same_node}
use Rattle.st_ids.specs.declared.names.NodeId.{NodeId}
use Rattle.st_marks.specs.declared.changes.NewNode.{NewNode}
use Rattle.st_tree.specs.declared.flat.FlatNode.{FlatNode}
use Rattle.st_doc.specs.Nodes.{type_of}
use Rattle.st_opening.specs.Start.{first_said, type_at}
use Rattle.st_lemmas.proofs.FirstItems.{take_one}
use Rattle.st_lemmas.proofs.Lists.{filter_map-append}
use Rattle.st_lemmas.proofs.Options.{option_or-assoc, option_or-None}

said_append : {A B : Type 0} (say : A → Option B) (xs ys : List A) → first_said say (xs ++ ys) ≡ option_or (first_said say xs) (first_said say ys)
said_append say [] ys = refl
said_append say (x ∷ xs) ys = ap (option_or (say x)) (said_append say xs ys) ∙ sym (option_or-assoc (say x) (first_said say xs) (first_said say ys))

-- what is said with one item more
pub said_more : {A B : Type 0} (say : A → Option B) (before now : Option B) (xs : List A) (i : ℕ) (d x : A) → i < length xs → get_or xs i d ≡ x
    → before ≡ first_said say (take i xs) → now ≡ option_or before (say x) → now ≡ first_said say (take (i + 1) xs)
said_more say before now xs i d x l e b h =
    h ∙ ap (λ o. option_or o (say x)) b ∙ ap (option_or (first_said say (take i xs))) (sym (option_or-None (say x)))
    ∙ sym (said_append say (take i xs) (x ∷ [])) ∙ ap (first_said say) (sym (take_one xs i d x l e))

-- the same of what is kept
pub filtered_more : {A B : Type 0} (f : A → Option B) (before now : List B) (xs : List A) (i : ℕ) (d x : A) → i < length xs → get_or xs i d ≡ x
    → before ≡ filter_map f (take i xs) → now ≡ before ++ option_to_list (f x) → now ≡ filter_map f (take (i + 1) xs)
filtered_more {A} {B} f before now xs i d x l e b h =
    h ∙ ap (λ ys. ys ++ option_to_list (f x)) b ∙ ap (λ ys. filter_map f (take i xs) ++ ys) (one (f x))
    ∙ sym (filter_map-append f (take i xs) (x ∷ [])) ∙ ap (filter_map f) (sym (take_one xs i d x l e))
  where
    one : (o : Option B) → option_to_list o ≡ cons_option o []
    one None = refl
    one (Some y) = refl

-- what a node is, if it is not there yet
pub added_type : (n : NodeId) (x : FlatNode) (m : NewNode) (old : Option NewNode) → m.ty ≡ x.ty → m.leaf ≡ x.leaf
    → type_of (option_or old (cond (same_node x.node n) (Some m) None)) ≡ option_or (type_of old) (type_at n x)
added_type n x m (Some y) p q = refl
added_type n x m None p q = elim (same_node x.node n) as (λ b. type_of (cond b (Some m) None) ≡ cond b (Some (record { ty = x.ty; leaf = x.leaf })) None) [
  | true ↦ λ j. Some (record { ty = p j; leaf = q j })
  | false ↦ refl
]

-- a row with one cell more, taken out and put back
pub pushed : {A : Type 0} (node n : NodeId) (owned : A) (row new : List A) (old between here : Option (List A))
    → (same_node node n ≡ true → here ≡ old) → row ≡ unwrap_or here [] → new ≡ row ++ owned ∷ [] → (same_node node n ≡ false → between ≡ old)
    → unwrap_or (cond (same_node node n) (Some new) between) [] ≡ unwrap_or old [] ++ cond (same_node node n) (owned ∷ []) []
pushed node n owned row new old between here e r p apart = go (same_node node n) refl
  where
    go : (b : Bool) → same_node node n ≡ b → unwrap_or (cond b (Some new) between) [] ≡ unwrap_or old [] ++ cond b (owned ∷ []) []
    go true s = p ∙ ap (λ ys. ys ++ owned ∷ []) (r ∙ ap (λ o. unwrap_or o []) (e s))
    go false s = ap (λ o. unwrap_or o []) (apart s) ∙ sym (append-nil (unwrap_or old []))
