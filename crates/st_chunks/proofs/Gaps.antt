-- The list on both sides of a gap, and the blocks that it is kept in.
use Rattle.std.proofs.Common.{◌≡◌, ◌<◌, ◌≤◌, ◌+◌, ℕ, zero, suc, Bool, List, [], ◌∷◌, ◌++◌, length, get_or, set, take, drop, refl, sym, ap, ◌∙◌, arith, length-append}
use Rattle.std.specs.List.{insert}
use Rattle.std.proofs.Math.Seq.{take-append-add, drop-append-add}
use Rattle.std.proofs.lemmas.List.{append_assoc, take-append-le, drop-append-le}
use Rattle.std.proofs.lemmas.Grind.{flat_map-append}
use Rattle.st_marks.specs.declared.places.Slot.{Slot}
use Rattle.st_chunks.specs.Slots.{all_slots, with_full}

pub all-append : (bs cs : List (List Slot)) → all_slots (bs ++ cs) ≡ all_slots bs ++ all_slots cs
all-append bs cs = flat_map-append (λ (b : List Slot). b) bs cs

-- how many slots stand before a gap
abbrev pub before_gap : List (List Slot) → ℕ → ℕ → ℕ
before_gap bs i o = length (all_slots (take i bs)) + o

next_block : (b : List Slot) (l : List Slot) (o : ℕ) → length (b ++ l) + o ≡ length b + (length l + o)
next_block b l o = omega (arith, length-append b l)

pub take_gap : (bs : List (List Slot)) (i o : ℕ) (d : List Slot) → i < length bs → o ≤ length (get_or bs i d)
    → take (before_gap bs i o) (all_slots bs) ≡ all_slots (take i bs) ++ take o (get_or bs i d)
take_gap [] i o d h k = absurd (omega (arith, h))
take_gap (b ∷ bs) zero o d h k = let e : 0 + o ≡ o = omega arith in rw e (take-append-le o b (all_slots bs) k)
take_gap (b ∷ bs) (suc i) o d h k =
    ap (λ (j : ℕ). take j (b ++ all_slots bs)) (next_block b (all_slots (take i bs)) o)
    ∙ take-append-add b (all_slots bs) (before_gap bs i o)
    ∙ ap (λ (l : List Slot). b ++ l) (take_gap bs i o d (omega (arith, h)) k)
    ∙ sym (append_assoc b (all_slots (take i bs)) (take o (get_or bs i d)))

pub drop_gap : (bs : List (List Slot)) (i o : ℕ) (d : List Slot) → i < length bs → o ≤ length (get_or bs i d)
    → drop (before_gap bs i o) (all_slots bs) ≡ drop o (get_or bs i d) ++ all_slots (drop (suc i) bs)
drop_gap [] i o d h k = absurd (omega (arith, h))
drop_gap (b ∷ bs) zero o d h k = let e : 0 + o ≡ o = omega arith in rw e (drop-append-le o b (all_slots bs) k)
drop_gap (b ∷ bs) (suc i) o d h k =
    ap (λ (j : ℕ). drop j (b ++ all_slots bs)) (next_block b (all_slots (take i bs)) o)
    ∙ drop-append-add b (all_slots bs) (before_gap bs i o)
    ∙ drop_gap bs i o d (omega (arith, h)) k

-- another block in the place of one
pub set_block : (bs : List (List Slot)) (i : ℕ) (x : List Slot) → i < length bs
    → all_slots (set bs i x) ≡ all_slots (take i bs) ++ (x ++ all_slots (drop (suc i) bs))
set_block [] i x h = absurd (omega (arith, h))
set_block (b ∷ bs) zero x h = refl
set_block (b ∷ bs) (suc i) x h =
    ap (λ (l : List Slot). b ++ l) (set_block bs i x (omega (arith, h))) ∙ sym (append_assoc b (all_slots (take i bs)) (x ++ all_slots (drop (suc i) bs)))

-- a slot that is put into a block is put into the list
pub insert_gap : (bs : List (List Slot)) (i o place : ℕ) (d x : List Slot) (s : Slot) → i < length bs → o ≤ length (get_or bs i d) → before_gap bs i o ≡ place
    → x ≡ insert (get_or bs i d) o s
    → all_slots (set bs i x) ≡ take place (all_slots bs) ++ (s ∷ drop place (all_slots bs))
insert_gap bs i o place d x s h k p e =
    set_block bs i x h ∙ ap (λ (y : List Slot). all_slots (take i bs) ++ (y ++ all_slots (drop (suc i) bs))) e
    ∙ ap (λ (l : List Slot). all_slots (take i bs) ++ l) (append_assoc (take o (get_or bs i d)) (s ∷ drop o (get_or bs i d)) (all_slots (drop (suc i) bs)))
    ∙ sym (append_assoc (all_slots (take i bs)) (take o (get_or bs i d)) (s ∷ (drop o (get_or bs i d) ++ all_slots (drop (suc i) bs))))
    ∙ (λ j. sym (take_gap bs i o d h k) j ++ (s ∷ sym (drop_gap bs i o d h k) j))
    ∙ ap (λ (n : ℕ). take n (all_slots bs) ++ (s ∷ drop n (all_slots bs))) p

-- ## A slot that becomes full or empty

with_full-left : (c d : List Slot) (k : ℕ) (b : Bool) → k < length c → with_full (c ++ d) k b ≡ with_full c k b ++ d
with_full-left [] d k b h = absurd (omega (arith, h))
with_full-left (s ∷ c) d zero b h = refl
with_full-left (s ∷ c) d (suc k) b h = ap (λ (l : List Slot). s ∷ l) (with_full-left c d k b (omega (arith, h)))

with_full-right : (c d : List Slot) (k : ℕ) (b : Bool) → with_full (c ++ d) (length c + k) b ≡ c ++ with_full d k b
with_full-right [] d k b = let e : 0 + k ≡ k = omega arith in rw e refl
with_full-right (s ∷ c) d k b = let e : suc (length c) + k ≡ suc (length c + k) = omega arith in rw e (ap (λ (l : List Slot). s ∷ l) (with_full-right c d k b))

whole : (bs : List (List Slot)) (i : ℕ) (d : List Slot) → i < length bs → all_slots bs ≡ all_slots (take i bs) ++ (get_or bs i d ++ all_slots (drop (suc i) bs))
whole [] i d h = absurd (omega (arith, h))
whole (b ∷ bs) zero d h = refl
whole (b ∷ bs) (suc i) d h = ap (λ (l : List Slot). b ++ l) (whole bs i d (omega (arith, h))) ∙ sym (append_assoc b (all_slots (take i bs)) (get_or bs i d ++ all_slots (drop (suc i) bs)))

pub flip_gap : (bs : List (List Slot)) (i o place : ℕ) (d x : List Slot) (b : Bool) → i < length bs → o < length (get_or bs i d) → before_gap bs i o ≡ place
    → x ≡ with_full (get_or bs i d) o b → all_slots (set bs i x) ≡ with_full (all_slots bs) place b
flip_gap bs i o place d x b h k p e =
    set_block bs i x h ∙ ap (λ (y : List Slot). all_slots (take i bs) ++ (y ++ all_slots (drop (suc i) bs))) e
    ∙ ap (λ (l : List Slot). all_slots (take i bs) ++ l) (sym (with_full-left (get_or bs i d) (all_slots (drop (suc i) bs)) o b k))
    ∙ sym (with_full-right (all_slots (take i bs)) (get_or bs i d ++ all_slots (drop (suc i) bs)) o b)
    ∙ (λ j. with_full (sym (whole bs i d h) j) (p j) b)
