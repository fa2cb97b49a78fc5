-- Entries of schemas: some of the last taken away, others put behind, and the last one.
use Rattle.std.proofs.Common.{◌≡◌, ℕ, ◌+◌, ◌-◌, ◌<◌, ◌≤◌, List, [], ◌∷◌, ◌++◌, length, take, get_or, Some, map, option_map, refl, sym, ap, ◌∙◌, arith, append_assoc}
use Rattle.std.proofs.lemmas.List.{length-take-le, take_all, take-take}
use Rattle.std.specs.Prelude.{slice_get}
use Rattle.std.specs.List.{last_or}
use Rattle.st_lemmas.proofs.FirstItems.{take_one}
use Rattle.st_marks.specs.declared.schemas.SchemaEntry.{SchemaEntry}
use Rattle.st_marks.specs.Document.{last_of, revs}

pub all_taken : {A : Type 0} (xs : List A) → xs ≡ take (length xs - 0) xs
all_taken xs = let n : length xs - 0 ≡ length xs = omega arith in sym (ap (λ m. take m xs) n ∙ take_all (length xs) xs (omega arith))

pub cut_more : {A : Type 0} (xs now new : List A) (k : ℕ) → now ≡ take (length xs - k) xs → new ≡ take (length now - 1) now → new ≡ take (length xs - (k + 1)) xs
cut_more xs now new k e f =
    let within : length xs - k ≤ length xs = omega arith in
    let long : length now ≡ length xs - k = ap length e ∙ length-take-le (length xs - k) xs within in
    let one : length now - 1 ≡ length xs - (k + 1) = omega arith in
    let fewer : length xs - (k + 1) ≤ length xs - k = omega arith in
    f ∙ (λ i. take (one i) (e i)) ∙ take-take (length xs - (k + 1)) (length xs - k) xs fewer

pub put_more : {A : Type 0} (old now new xs : List A) (i : ℕ) (d x y : A) → i < length xs → get_or xs i d ≡ x → now ≡ old ++ take i xs → new ≡ now ++ y ∷ [] → y ≡ x → new ≡ old ++ take (i + 1) xs
put_more old now new xs i d x y l e b h s =
    h ∙ (λ j. b j ++ s j ∷ []) ∙ append_assoc old (take i xs) (x ∷ []) ∙ ap (λ ys. old ++ ys) (sym (take_one xs i d x l e))

last_read : {A : Type 0} (x : A) (xs : List A) (k : ℕ) → k ≡ length xs → slice_get (x ∷ xs) k ≡ last_or (Some x) xs
last_read x [] k e = rw e refl
last_read x (y ∷ xs) k e = rw e (last_read y xs (length xs) refl)

last_map : {A B : Type 0} (f : A → B) (x : A) (xs : List A) → last_or (Some (f x)) (map f xs) ≡ option_map f (last_or (Some x) xs)
last_map f x [] = refl
last_map f x (y ∷ xs) = last_map f y xs

pub last_entry : (es : List SchemaEntry) → option_map (λ (e : SchemaEntry). e.rev) (slice_get es (length es - 1)) ≡ last_of (revs es)
last_entry [] = refl
last_entry (x ∷ xs) = ap (option_map (λ (e : SchemaEntry). e.rev)) (last_read x xs (length (x ∷ xs) - 1) (omega arith)) ∙ sym (last_map (λ (e : SchemaEntry). e.rev) x xs)
