-- A list that is cut, and the runs that it is kept as.
use Rattle.std.proofs.Common.{◌≡◌, ◌<◌, ℕ, List, [], ◌∷◌, ◌++◌, length, get_or, set, take, drop, sym, ◌∙◌, ap, arith}
use Rattle.std.specs.List.{flat_map}
use Rattle.std.proofs.Math.Seq.{take-append_seam, drop-append_seam}
use Rattle.std.proofs.lemmas.List.{append_assoc, take-append-drop}
use Rattle.std.proofs.lemmas.Grind.{flat_map-append}
use Rattle.st_runs.specs.Places.{IsCut}

-- two parts that are the whole
pub is_cut : {A : Type 0} (whole : List A) (place : ℕ) (front rest : List A) → whole ≡ front ++ rest → length front ≡ place → IsCut whole place front rest
is_cut {A = A} whole place front rest e n = record {
  kept = sym (take-append_seam front rest) ∙ ap (λ (k : ℕ). take k (front ++ rest)) n ∙ ap (λ (l : List A). take place l) (sym e);
  given = sym (drop-append_seam front rest) ∙ ap (λ (k : ℕ). drop k (front ++ rest)) n ∙ ap (λ (l : List A). drop place l) (sym e);
}

-- the first run is replaced by its rest
pub first_cut : {R A : Type 0} (f : R → List A) (xs : List R) (first front found back rest left : R) (at : ℕ) → 0 < length xs → first ≡ get_or xs 0 first → f front ≡ take at (f first) → f rest ≡ drop at (f first) → found ≡ get_or (set xs 0 front) 0 found → back ≡ found → left ≡ rest → flat_map f xs ≡ f back ++ flat_map f (set (set xs 0 front) 0 left)
first_cut f [] first front found back rest left at some is kept given is_front same put = absurd (omega (arith, some))
first_cut {A = A} f (x ∷ xs) first front found back rest left at some is kept given is_front same put =
    let whole : take at (f first) ++ drop at (f first) ≡ f first = take-append-drop at (f first) in
    let parts : f x ≡ f back ++ f left = cc (whole, is, kept, given, is_front, same, put) in
    ap (λ (l : List A). l ++ flat_map f xs) parts ∙ append_assoc (f back) (f left) (flat_map f xs)

-- the runs before one, and those from it on
pub runs_apart : {R A : Type 0} (f : R → List A) (xs before rest : List R) (at : ℕ) → before ≡ take at xs → rest ≡ drop at xs → flat_map f xs ≡ flat_map f before ++ flat_map f rest
runs_apart {R = R} f xs before rest at kept given =
    let whole : take at xs ++ drop at xs ≡ xs = take-append-drop at xs in
    let same : xs ≡ before ++ rest = cc (whole, kept, given) in
    ap (λ (l : List R). flat_map f l) same ∙ flat_map-append f before rest

-- the same where the front of the first of these goes to the runs before it
pub runs_cut : {R A : Type 0} (f : R → List A) (xs before tail after rest : List R) (front : R) (at : ℕ) → before ≡ take at xs → tail ≡ drop at xs → flat_map f tail ≡ f front ++ flat_map f rest → after ≡ before ++ front ∷ [] → flat_map f xs ≡ flat_map f after ++ flat_map f rest
runs_cut {R = R} {A = A} f xs before tail after rest front at kept given cut put =
    let more : flat_map f after ≡ flat_map f before ++ (f front ++ []) = ap (λ (l : List R). flat_map f l) put ∙ flat_map-append f before (front ∷ []) in
    let end : (f front ++ []) ++ flat_map f rest ≡ f front ++ flat_map f rest = append_assoc (f front) [] (flat_map f rest) in
    runs_apart f xs before tail at kept given
    ∙ ap (λ (l : List A). flat_map f before ++ l) (cut ∙ sym end)
    ∙ sym (append_assoc (flat_map f before) (f front ++ []) (flat_map f rest))
    ∙ ap (λ (l : List A). l ++ flat_map f rest) (sym more)

pub more_than : {m n : ℕ} → m ≡ n → 0 < m → 0 < n
more_than e h = omega (arith, e, h)

pub within_items : {i m n : ℕ} → m ≡ n → i < m → i < n
within_items e h = omega (arith, e, h)
