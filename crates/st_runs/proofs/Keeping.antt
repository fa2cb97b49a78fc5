-- A list that is cut off, and the runs that it is kept as.
use Rattle.std.proofs.Common.{◌≡◌, ◌<◌, ◌≤◌, ◌+◌, ℕ, zero, suc, List, [], ◌∷◌, ◌++◌, length, get_or, set, take, drop, Option, Some, IfSome, slice_get, sym, subst, ◌∙◌, ap, arith, length-append}
use Rattle.std.specs.List.{flat_map}
use Rattle.std.proofs.Math.Seq.{take-append_seam, take-append-add}
use Rattle.std.proofs.lemmas.List.{append-nil, get_or-take, take-append-le, take-append-drop}
use Rattle.std.proofs.lemmas.Option.{slice_get-get_or}
use Rattle.std.proofs.lemmas.Grind.{flat_map-append}

-- the runs before one
pub kept_before : {R A : Type 0} (f : R → List A) (xs : List R) (i n : ℕ) → n ≡ 0 → flat_map f (take i xs) ≡ take (length (flat_map f (take i xs)) + n) (flat_map f xs)
kept_before {R = R} {A = A} f xs i n none =
    let whole : flat_map f xs ≡ flat_map f (take i xs) ++ flat_map f (drop i xs) = ap (λ (l : List R). flat_map f l) (sym (take-append-drop i xs)) ∙ flat_map-append f (take i xs) (drop i xs) in
    let e : length (flat_map f (take i xs)) + n ≡ length (flat_map f (take i xs)) = omega (arith, none) in
    rw e (sym (ap (λ (l : List A). take (length (flat_map f (take i xs))) l) whole ∙ take-append_seam (flat_map f (take i xs)) (flat_map f (drop i xs))))

-- the runs before one, and the front of that one
pub kept_upto : {R A : Type 0} (f : R → List A) (xs : List R) (i n : ℕ) (d new : R) → i < length xs → n ≤ length (f (get_or xs i d)) → f new ≡ take n (f (get_or xs i d)) → flat_map f (set (take (suc i) xs) i new) ≡ take (length (flat_map f (take i xs)) + n) (flat_map f xs)
kept_upto f [] i n d new within inside cut = absurd (omega (arith, within))
kept_upto f (x ∷ xs) zero n d new within inside cut =
    let e : 0 + n ≡ n = omega arith in
    rw e (append-nil (f new) ∙ cut ∙ sym (take-append-le n (f x) (flat_map f xs) inside))
kept_upto {A = A} f (x ∷ xs) (suc i) n d new within inside cut =
    let ih : flat_map f (set (take (suc i) xs) i new) ≡ take (length (flat_map f (take i xs)) + n) (flat_map f xs) = kept_upto f xs i n d new (omega (arith, within)) inside cut in
    let more : length (f x ++ flat_map f (take i xs)) ≡ length (f x) + length (flat_map f (take i xs)) = length-append (f x) (flat_map f (take i xs)) in
    let e : length (f x ++ flat_map f (take i xs)) + n ≡ length (f x) + (length (flat_map f (take i xs)) + n) = omega (arith, more) in
    ap (λ (l : List A). f x ++ l) ih
    ∙ sym (take-append-add (f x) (flat_map f xs) (length (flat_map f (take i xs)) + n))
    ∙ ap (λ (k : ℕ). take k (f x ++ flat_map f xs)) (sym e)

some_is : {R : Type 0} (P : R → Type 0) (o : Option R) (x : R) → o ≡ Some x → IfSome o P → P x
some_is P o x e h = subst (λ q. IfSome q P) e h

-- the last of the runs that are left is the one that stood there
left_is : {R : Type 0} (xs left : List R) (i : ℕ) (x : R) → left ≡ take (i + 1) xs → x ≡ get_or left i x → x ≡ get_or xs i x
left_is {R = R} xs left i x kept is = is ∙ ap (λ (l : List R). get_or l i x) kept ∙ get_or-take (i + 1) xs i x (omega arith)

pub kept_inside : {R A : Type 0} (f : R → List A) (xs left : List R) (i n : ℕ) (x : R) → left ≡ take (i + 1) xs → x ≡ get_or left i x → i < length xs → IfSome (slice_get xs i) (λ r. n < length (f r)) → n < length (f x)
kept_inside {R = R} f xs left i n x kept is within inside =
    let same : Some (get_or xs i x) ≡ Some x = ap (λ (r : R). Some r) (sym (left_is xs left i x kept is)) in
    some_is (λ r. n < length (f r)) (slice_get xs i) x (slice_get-get_or xs i x within ∙ same) inside

pub kept_through : {R A : Type 0} (f : R → List A) (xs left : List R) (i n : ℕ) (x new : R) → left ≡ take (i + 1) xs → x ≡ get_or left i x → i < length xs → IfSome (slice_get xs i) (λ r. n < length (f r)) → f new ≡ take n (f x) → flat_map f (set left i new) ≡ take (length (flat_map f (take i xs)) + n) (flat_map f xs)
kept_through {R = R} f xs left i n x new kept is within inside cut =
    let next : i + 1 ≡ suc i = omega arith in
    let same : x ≡ get_or xs i x = left_is xs left i x kept is in
    let less : n < length (f x) = kept_inside f xs left i n x kept is within inside in
    let sized : length (f x) ≡ length (f (get_or xs i x)) = ap (λ (r : R). length (f r)) same in
    ap (λ (l : List R). flat_map f (set l i new)) (kept ∙ ap (λ (k : ℕ). take k xs) next)
    ∙ kept_upto f xs i n x new within (omega (arith, less, sized)) (cut ∙ ap (λ (r : R). take n (f r)) same)
