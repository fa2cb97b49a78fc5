-- Blocks that are put in the place of others.
use Rattle.std.proofs.Common.{◌≡◌, ◌<◌, ◌≤◌, ◌+◌, ℕ, zero, suc, List, [], ◌∷◌, ◌++◌, length, get_or, take, drop, refl, sym, ap, ◌∙◌, arith}
use Rattle.std.proofs.Math.Seq.{drop-append-add, drop-nil}
use Rattle.std.proofs.lemmas.List.{append_assoc, take-append-drop}
use Rattle.st_marks.specs.declared.places.Slot.{Slot}
use Rattle.st_chunks.specs.Slots.{all_slots}
use Rattle.st_chunks.proofs.Gaps.{all-append, before_gap, drop_gap, take_gap}

pub drop-drop : {A : Type 0} (i j : ℕ) (xs : List A) → drop j (drop i xs) ≡ drop (i + j) xs
drop-drop zero j xs = let e : 0 + j ≡ j = omega arith in rw e refl
drop-drop {A = A} (suc i) j [] = drop-nil {A = A} j ∙ sym (drop-nil {A = A} (suc i + j))
drop-drop (suc i) j (x ∷ xs) = let e : suc i + j ≡ suc (i + j) = omega arith in rw e (drop-drop i j xs)

-- the blocks from one on: a gap of what they hold is a gap of the whole
pub gap_further : (bs : List (List Slot)) (i o count j q : ℕ) (d : List Slot) → i < length bs → o ≤ length (get_or bs i d)
    → before_gap (drop i bs) j q ≡ o + count
    → drop (before_gap bs i o + count) (all_slots bs) ≡ drop (before_gap (drop i bs) j q) (all_slots (drop i bs))
gap_further bs i o count j q d h k e =
    let n : before_gap bs i o + count ≡ length (all_slots (take i bs)) + (o + count) = omega arith in
    let w : all_slots bs ≡ all_slots (take i bs) ++ all_slots (drop i bs) = ap all_slots (sym (take-append-drop i bs)) ∙ all-append (take i bs) (drop i bs) in
    (λ t. drop (n t) (w t)) ∙ drop-append-add (all_slots (take i bs)) (all_slots (drop i bs)) (o + count) ∙ ap (λ (m : ℕ). drop m (all_slots (drop i bs))) (sym e)

pub spliced : (bs new : List (List Slot)) (i o place count j q : ℕ) (d d' with : List Slot) → i < length bs → o ≤ length (get_or bs i d) → before_gap bs i o ≡ place
    → j < length (drop i bs) → q ≤ length (get_or (drop i bs) j d') → before_gap (drop i bs) j q ≡ o + count
    → all_slots new ≡ take o (get_or bs i d) ++ (with ++ drop q (get_or (drop i bs) j d'))
    → all_slots (take i bs ++ (new ++ drop (i + (j + 1)) bs)) ≡ take place (all_slots bs) ++ (with ++ drop (place + count) (all_slots bs))
spliced bs new i o place count j q d d' with h k p h' k' p' e =
    let A = all_slots (take i bs) in
    let front = take o (get_or bs i d) in
    let tail = drop q (get_or (drop i bs) j d') in
    let rest = all_slots (drop (suc j) (drop i bs)) in
    let n : i + (j + 1) ≡ i + suc j = omega arith in
    let further : drop (place + count) (all_slots bs) ≡ tail ++ rest = ap (λ (m : ℕ). drop (m + count) (all_slots bs)) (sym p) ∙ gap_further bs i o count j q d h k p' ∙ drop_gap (drop i bs) j q d' h' k' in
    all-append (take i bs) (new ++ drop (i + (j + 1)) bs)
    ∙ ap (λ (l : List Slot). A ++ l) (all-append new (drop (i + (j + 1)) bs)
    ∙ (λ t. e t ++ all_slots ((ap (λ (m : ℕ). drop m bs) n ∙ sym (drop-drop i (suc j) bs)) t))
    ∙ append_assoc front (with ++ tail) rest ∙ ap (λ (l : List Slot). front ++ l) (append_assoc with tail rest))
    ∙ sym (append_assoc A front (with ++ (tail ++ rest)))
    ∙ (λ t. (sym (take_gap bs i o d h k) ∙ ap (λ (m : ℕ). take m (all_slots bs)) p) t ++ (with ++ sym further t))
