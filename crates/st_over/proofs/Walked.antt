-- What is left to be gone through of the names of a set.
use Rattle.std.proofs.Common.{◌≡◌, List, ◌∷◌, ◌++◌, Option, Some, None, refl, sym, ap, ◌∙◌, append_assoc}
use Rattle.std.specs.List.{filter_map}
use Rattle.st_marks.specs.Listings.{one_or_none}

pub one_left : {K A : Type 0} (f : K → Option A) (before now whole : List A) (items left : List K) (k : K) → items ≡ k ∷ left → now ≡ before ++ one_or_none (f k)
    → before ++ filter_map f items ≡ whole → now ++ filter_map f left ≡ whole
one_left {A = A} f before now whole items left k opened pushed so_far =
    ap (λ l. l ++ filter_map f left) pushed ∙ append_assoc before (one_or_none (f k)) (filter_map f left) ∙ ap (λ l. before ++ l) (one (f k) refl)
    ∙ ap (λ l. before ++ filter_map f l) (sym opened) ∙ so_far
  where
    one : (o : Option A) → f k ≡ o → one_or_none o ++ filter_map f left ≡ filter_map f (k ∷ left)
    one None e = rw e refl
    one (Some x) e = rw e refl
