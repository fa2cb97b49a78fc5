-- How many slots are full.
use Rattle.std.proofs.Common.{◌≡◌, ◌<◌, ◌≤◌, ◌+◌, ℕ, zero, suc, Bool, true, false, List, [], ◌∷◌, ◌++◌, length, get_or, set, take, drop, sym, ap, ◌∙◌, arith}
use Rattle.std.specs.List.{insert}
use Rattle.std.proofs.lemmas.List.{length-set, take-append-drop}
use Rattle.st_marks.specs.declared.places.Slot.{Slot}
use Rattle.st_chunks.specs.Slots.{count_full, one_if, with_full}

pub at_most_one : (b : Bool) → one_if b ≤ 1
at_most_one true = omega arith
at_most_one false = omega arith

pub count-append : (c d : List Slot) → count_full (c ++ d) ≡ count_full c + count_full d
count-append [] d = omega arith
count-append (s ∷ c) d = omega (arith, count-append c d)

pub count-length : (c : List Slot) → count_full c ≤ length c
count-length [] = omega arith
count-length (s ∷ c) = omega (arith, count-length c, at_most_one s.full)

pub count-insert : (c : List Slot) (k : ℕ) (s : Slot) → count_full (insert c k s) ≡ count_full c + one_if s.full
count-insert c k s =
    let e : count_full (take k c ++ s ∷ drop k c) ≡ count_full (take k c) + count_full (s ∷ drop k c) = count-append (take k c) (s ∷ drop k c) in
    let f : count_full c ≡ count_full (take k c) + count_full (drop k c) = ap count_full (sym (take-append-drop k c)) ∙ count-append (take k c) (drop k c) in
    omega (arith, e, f)

-- one slot more
pub count-next : (c : List Slot) (k : ℕ) (d : Slot) → k < length c → count_full (take (suc k) c) ≡ count_full (take k c) + one_if (get_or c k d).full
count-next [] k d h = absurd (omega (arith, h))
count-next (s ∷ c) zero d h = omega arith
count-next (s ∷ c) (suc k) d h = omega (arith, count-next c k d (omega (arith, h)))

pub count-take : (c : List Slot) (k : ℕ) → count_full (take k c) ≤ length c
count-take c k =
    let f : count_full c ≡ count_full (take k c) + count_full (drop k c) = ap count_full (sym (take-append-drop k c)) ∙ count-append (take k c) (drop k c) in
    omega (arith, f, count-length c)

-- a slot that is written
pub count-set : (c : List Slot) (k : ℕ) (r d : Slot) → k < length c → count_full (set c k r) + one_if (get_or c k d).full ≡ count_full c + one_if r.full
count-set [] k r d h = absurd (omega (arith, h))
count-set (s ∷ c) zero r d h = omega arith
count-set (s ∷ c) (suc k) r d h = omega (arith, count-set c k r d (omega (arith, h)))

pub one_counts : (c : List Slot) (k : ℕ) (d : Slot) → k < length c → one_if (get_or c k d).full ≤ count_full c
one_counts [] k d h = absurd (omega (arith, h))
one_counts (s ∷ c) zero d h = omega arith
one_counts (s ∷ c) (suc k) d h = omega (arith, one_counts c k d (omega (arith, h)))

pub set-full : (c : List Slot) (k : ℕ) (b : Bool) (s d : Slot) → k < length c → s ≡ get_or c k d → set c k (record { cell = s.cell; node = s.node; full = b }) ≡ with_full c k b
set-full [] k b s d h e = absurd (omega (arith, h))
set-full (x ∷ c) zero b s d h e = λ i. record { cell = (e i).cell; node = (e i).node; full = b } ∷ c
set-full (x ∷ c) (suc k) b s d h e = ap (λ l. x ∷ l) (set-full c k b s d (omega (arith, h)) e)

pub count-set-length : (c : List Slot) (k : ℕ) (r : Slot) → count_full (set c k r) ≤ length c
count-set-length c k r = let n : length (set c k r) ≡ length c = length-set c k r in omega (arith, n, count-length (set c k r))
