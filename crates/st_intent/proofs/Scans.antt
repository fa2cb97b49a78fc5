-- Look-ups by a scan.
use Rattle.std.proofs.Common.{◌≡◌, ◌||◌, ℕ, ◌+◌, ◌<◌, Bool, true, false, cond, List, ◌∷◌, [], length, drop, get_or, Some, refl, sym, ap, ◌∙◌, is_some, suc, drop-cons, add-one}
use Rattle.std.specs.List.{find, list_any}
use Rattle.st_ids.specs.Order.{same_node}
use Rattle.st_ids.specs.declared.names.NodeId.{NodeId}
use Rattle.st_marks.specs.declared.changes.NewNode.{NewNode}
use Rattle.st_marks.specs.declared.intents.Intent.{Intent}
use Rattle.st_marks.specs.Intent.{is_new}
use Rattle.st_lemmas.proofs.Options.{is_some-option_map}

pub is_some-find : {A : Type 0} (p : A → Bool) (xs : List A) → is_some (find p xs) ≡ list_any p xs
is_some-find p [] = refl
is_some-find p (x ∷ xs) = elim (p x) as (λ b. is_some (cond b (Some x) (find p xs)) ≡ (b || list_any p xs)) [ true ↦ refl | false ↦ is_some-find p xs ]

pub is_new-listed : (N : Intent) (n : NodeId) → is_new N n ≡ list_any (λ (m : NewNode). same_node m.node n) N.new
is_new-listed N n = is_some-option_map (λ (m : NewNode). record { ty = m.ty; leaf = m.leaf }) _ ∙ is_some-find (λ (m : NewNode). same_node m.node n) N.new

-- the rest of a scan, opened
rest_is : {A : Type 0} (xs : List A) (i : ℕ) (x : A) → i < length xs → get_or xs i x ≡ x → drop i xs ≡ x ∷ drop (i + 1) xs
rest_is xs i x l e = drop-cons xs i x l ∙ ap (λ y. y ∷ drop (suc i) xs) e ∙ ap (λ k. x ∷ drop k xs) (sym (add-one i))

pub found_here : {A : Type 0} (p : A → Bool) (xs : List A) (i : ℕ) (x : A) → i < length xs → get_or xs i x ≡ x → p x ≡ true → Some x ≡ find p (drop i xs)
found_here p xs i x l e h = sym (ap (find p) (rest_is xs i x l e) ∙ ap (λ b. cond b (Some x) (find p (drop (i + 1) xs))) h)

pub found_later : {A : Type 0} (p : A → Bool) (xs : List A) (i : ℕ) (x : A) → i < length xs → get_or xs i x ≡ x → p x ≡ false → find p (drop (i + 1) xs) ≡ find p (drop i xs)
found_later p xs i x l e h = sym (ap (find p) (rest_is xs i x l e) ∙ ap (λ b. cond b (Some x) (find p (drop (i + 1) xs))) h)
