-- What is left to be gone through of the names of a set.
use Rattle.std.proofs.Common.{◌≡◌, Bool, cond, true, false, ◌||◌, List, [], ◌∷◌, ◌++◌, Option, Some, None, refl, sym, ap, ◌∙◌, append_assoc}
use Rattle.std.specs.List.{filter_map}
use Rattle.std.specs.Option.{option_to_list}
use Rattle.std.proofs.lemmas.List.{append-nil}

pub listed_left : {K A : Type 0} (f : K → Option A) (before now whole : List A) (items left : List K) (k : K) → items ≡ k ∷ left → now ≡ before ++ option_to_list (f k)
    → before ++ filter_map f items ≡ whole → now ++ filter_map f left ≡ whole
listed_left {A = A} f before now whole items left k opened pushed so_far =
    ap (λ l. l ++ filter_map f left) pushed ∙ append_assoc before (option_to_list (f k)) (filter_map f left) ∙ ap (λ l. before ++ l) (one (f k) refl)
    ∙ ap (λ l. before ++ filter_map f l) (sym opened) ∙ so_far
  where
    one : (o : Option A) → f k ≡ o → option_to_list o ++ filter_map f left ≡ filter_map f (k ∷ left)
    one None e = rw e refl
    one (Some x) e = rw e refl

pub listed_all : {K A : Type 0} (f : K → Option A) (out whole : List A) (items : List K) → items ≡ [] → out ++ filter_map f items ≡ whole → out ≡ whole
listed_all f out whole items none so_far = sym (append-nil out) ∙ ap (λ l. out ++ filter_map f l) (sym none) ∙ so_far

-- one more name in a set
pub or_last : (a b : Bool) → cond b true a ≡ (a || b)
or_last true true = refl
or_last true false = refl
or_last false true = refl
or_last false false = refl
