-- Cells of one revision, none of which some rows name.
use Rattle.std.proofs.Common.{◌≡◌, ◌<◌, ◌≤◌, ◌+◌, ◌||◌, ℕ, Bool, true, false, cond, List, [], ◌∷◌, ◌++◌, length, take, get_or, refl, sym, ap, ◌∙◌, subst}
use Rattle.std.proofs.lemmas.List.{take_all}
use Rattle.std.specs.List.{flat_map, list_all, list_any}
use Rattle.st_ids.specs.Listing.{Has}
use Rattle.st_ids.specs.Order.{same_cell}
use Rattle.st_ids.specs.declared.names.CellId.{CellId}
use Rattle.st_ids.specs.declared.names.Rev.{Rev}
use Rattle.st_ids.proofs.Orders.{same_cell-true}
use Rattle.st_lemmas.proofs.Bools.{and-first, and-second, true-false}
use Rattle.st_marks.specs.Listings.{is_among_cells}
use Rattle.st_marks.proofs.Members.{any-has, flat_map-has, has-any}
use Rattle.st_clash.specs.inside.Made.{is_of, only_if}
use Rattle.st_clash.proofs.LeastFields.{flat_more, there}
use Rattle.st_clash.proofs.Names.{any-append}

-- ## A test of all cells that items name, item by item

pub any-inside : {A : Type 0} (p : CellId → Bool) (f : A → List CellId) (xs : List A) (i : ℕ) (d x : A) → i < length xs → get_or xs i d ≡ x → list_any p (f x) ≡ true → list_any p (flat_map f xs) ≡ true
any-inside p f xs i d x l e t =
    let w = there xs i l in
    let c = any-has p (f x) t in
    has-any p (flat_map f xs) c.0 (flat_map-has f xs x c.0 (subst (Has xs) (sym (w.3 d) ∙ e) w.2) c.1) c.2

pub none-inside : {A : Type 0} (p : CellId → Bool) (f : A → List CellId) (xs : List A) (i : ℕ) (d x : A) → i < length xs → get_or xs i d ≡ x → list_any p (f x) ≡ false → list_any p (flat_map f (take i xs)) ≡ false
    → list_any p (flat_map f (take (i + 1) xs)) ≡ false
none-inside p f xs i d x l e t so_far =
    ap (list_any p) (sym (flat_more f [] (flat_map f (take i xs)) (flat_map f (take i xs) ++ f x) xs i d x l e refl refl))
    ∙ any-append p (flat_map f (take i xs)) (f x) ∙ (λ k. so_far k || t k)

pub no-more : {A : Type 0} (p : CellId → Bool) (f : A → List CellId) (xs : List A) (i : ℕ) → length xs ≤ i → list_any p (flat_map f (take i xs)) ≡ false → list_any p (flat_map f xs) ≡ false
no-more p f xs i l h = ap (λ ys. list_any p (flat_map f ys)) (sym (take_all i xs l)) ∙ h

-- ## What is of a revision isn't among what isn't

neither : (a b : Bool) → (a || b) ≡ false → (a ≡ false) × (b ≡ false)
neither true b e = cc
neither false b e = (refl, e)

stranger : (v : Rev) (made : List CellId) (c : CellId) → list_all (is_of v) made ≡ true → is_of v c ≡ false → is_among_cells made c ≡ false
stranger v [] c a n = refl
stranger v (d ∷ made) c a n = (λ k. other (same_cell d c) refl k || stranger v made c (and-second _ _ a) n k)
  where
    other : (b : Bool) → same_cell d c ≡ b → same_cell d c ≡ false
    other true e = absurd (true-false (and-first _ _ a) (ap (is_of v) (same_cell-true d c e) ∙ n))
    other false e = e

pub none_again : (v : Rev) (made names : List CellId) → list_all (is_of v) made ≡ true → list_any (is_of v) names ≡ false → flat_map (only_if (is_among_cells made)) names ≡ []
none_again v made [] a n = refl
none_again v made (c ∷ names) a n =
    let both = neither (is_of v c) (list_any (is_of v) names) n in
    ap (λ b. cond b (c ∷ []) [] ++ flat_map (only_if (is_among_cells made)) names) (stranger v made c a both.0) ∙ none_again v made names a both.1

pub none_made : (made names : List CellId) → length made ≡ 0 → flat_map (only_if (is_among_cells made)) names ≡ []
none_made [] [] e = refl
none_made [] (c ∷ names) e = none_made [] names e
none_made (d ∷ made) names e = cc
