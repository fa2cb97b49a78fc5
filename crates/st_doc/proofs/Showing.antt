-- What a row shows, cell by cell.
use Rattle.std.proofs.Common.{◌≡◌, ℕ, ◌+◌, ◌<◌, Bool, true, false, cond, List, [], ◌∷◌, ◌++◌, length, drop, get_or, map, filter, sym, ap, ◌∙◌, append_assoc}
use Rattle.st_doc.proofs.Look.{drop_one}

module _ {A B : Type 0} (f : A → B) (p : B → Bool) (xs : List A) (i : ℕ) (d x : A) (inside : i < length xs) (at : get_or xs i d ≡ x) where
  abbrev rest : List B
  rest = filter p (map f (drop (i + 1) xs))

  pub opened : filter p (map f (drop i xs)) ≡ cond (p (f x)) (f x ∷ rest) rest
  opened = ap (λ l. filter p (map f l)) (drop_one xs i d x inside at)

  -- an item that passes is put behind the others
  pub kept_more : (out next whole : List B) (y : B) → p (f x) ≡ true → y ≡ f x → next ≡ out ++ y ∷ [] → out ++ filter p (map f (drop i xs)) ≡ whole → next ++ filter p (map f (drop (i + 1) xs)) ≡ whole
  kept_more out next whole y passes is pushed so_far =
      ap (λ l. l ++ rest) (pushed ∙ ap (λ z. out ++ z ∷ []) is) ∙ append_assoc out (f x ∷ []) rest
      ∙ ap (λ l. out ++ l) (sym (opened ∙ ap (λ b. cond b (f x ∷ rest) rest) passes)) ∙ so_far

  -- another is left out
  pub left_more : (out whole : List B) → p (f x) ≡ false → out ++ filter p (map f (drop i xs)) ≡ whole → out ++ filter p (map f (drop (i + 1) xs)) ≡ whole
  left_more out whole fails so_far = ap (λ l. out ++ l) (sym (opened ∙ ap (λ b. cond b (f x ∷ rest) rest) fails)) ∙ so_far
