-- What a gap or an item tells of its block.
use Rattle.std.proofs.Common.{◌≡◌, ◌<◌, ◌≤◌, ◌+◌, ◌-◌, ℕ, zero, suc, Bool, true, false, List, [], ◌∷◌, ◌++◌, length, get_or, set, take, drop, refl, sym, ap, ◌∙◌, subst, arith, length-append}
use Rattle.std.specs.List.{insert}
use Rattle.std.proofs.lemmas.Option.{get_or_from_slice_get, slice_get-get_or}
use Rattle.std.proofs.lemmas.List.{append-nil, get_or_append_left, get_or-append-add, length-drop, length-take-le, take-append-drop, take_all}
use Rattle.std.specs.Prelude.{Result, Ok, Err, OnOk, Some, slice_get}
use Rattle.std.proofs.lemmas.List.Folds.{length-flat_map-take}
use Rattle.st_marks.specs.declared.places.Slot.{Slot}
use Rattle.st_chunks.specs.Slots.{all_slots, with_full}
use Rattle.st_chunks.specs.inside.Gaps.{IsGap, IsItem}
use Rattle.st_chunks.proofs.Gaps.{all-append, before_gap, flip_gap, insert_gap}
use Rattle.st_chunks.proofs.Splicing.{spliced}

pub within_all : (bs : List (List Slot)) (i : ℕ) (d : List Slot) → i < length bs → length (all_slots (take i bs)) + length (get_or bs i d) ≤ length (all_slots bs)
within_all bs i d h = length-flat_map-take (λ (b : List Slot). b) bs i d h

pub gap_inside : (bs : List (List Slot)) (p i o : ℕ) → IsGap bs p i o → i < length bs
gap_inside bs p i o g = omega (arith, g.inside)

pub gap_within : (bs : List (List Slot)) (p i o : ℕ) (d : List Slot) → IsGap bs p i o → o ≤ length (get_or bs i d)
gap_within bs p i o d g = subst (λ (x : List Slot). o ≤ length x) (sym (get_or_from_slice_get bs i g.kept d g.named)) g.within

pub item_inside : (bs : List (List Slot)) (p i o : ℕ) → IsItem bs p i o → i < length bs
item_inside bs p i o g = omega (arith, g.inside)

pub item_within : (bs : List (List Slot)) (p i o : ℕ) (d : List Slot) → IsItem bs p i o → o < length (get_or bs i d)
item_within bs p i o d g = let h = subst (λ (x : List Slot). o + 1 ≤ length x) (sym (get_or_from_slice_get bs i g.kept d g.named)) g.within in omega (arith, h)

-- a block is no longer than the whole
pub block_short : (bs : List (List Slot)) (i : ℕ) (d : List Slot) → i < length bs → length (get_or bs i d) ≤ length (all_slots bs)
block_short bs i d h = omega (arith, within_all bs i d h)

pub inserted : (bs : List (List Slot)) (p i o : ℕ) (d x : List Slot) (s : Slot) → IsGap bs p i o → d ≡ get_or bs i d → x ≡ insert d o s
    → all_slots (set bs i x) ≡ take p (all_slots bs) ++ (s ∷ drop p (all_slots bs))
inserted bs p i o d x s g e f = insert_gap bs i o p d x s (gap_inside bs p i o g) (gap_within bs p i o d g) g.before (f ∙ ap (λ (y : List Slot). insert y o s) e)

pub flipped : (bs : List (List Slot)) (p i o : ℕ) (d x : List Slot) (b : Bool) → IsItem bs p i o → d ≡ get_or bs i d → x ≡ with_full d o b
    → all_slots (set bs i x) ≡ with_full (all_slots bs) p b
flipped bs p i o d x b g e f = flip_gap bs i o p d x b (item_inside bs p i o g) (item_within bs p i o d g) g.before (f ∙ ap (λ (y : List Slot). with_full y o b) e)

pub not_past : (total place : ℕ) → place < total → (false ≡ true → total ≤ place) × (total ≤ place → false ≡ true)
not_past total place h = (λ e. grind (arith, e), λ p. absurd (omega (arith, h, p)))

-- the place of an item is in the list
pub item_before : (bs : List (List Slot)) (i o p size : ℕ) (x : List Slot) → i < length bs → x ≡ get_or bs i x → length (all_slots (take i bs)) + o ≡ p → size ≡ length x → o < size → p < length (all_slots bs)
item_before bs i o p size x h e b s l =
    let u = within_all bs i x h in
    let n : length (get_or bs i x) ≡ length x = ap length (sym e) in
    omega (arith, u, n, b, s, l)

-- ## What is put between two gaps

later_get : (bs : List (List Slot)) (i j : ℕ) (d : List Slot) → get_or (drop i bs) j d ≡ get_or bs (i + j) d
later_get bs zero j d = let e : 0 + j ≡ j = omega arith in rw e refl
later_get [] (suc i) j d = refl
later_get (b ∷ bs) (suc i) j d = let e : suc i + j ≡ suc (i + j) = omega arith in rw e (later_get bs i j d)

pub drop_shorter : (bs : List (List Slot)) (i : ℕ) → length (all_slots (drop i bs)) ≤ length (all_slots bs)
drop_shorter bs i =
    let e : length (all_slots bs) ≡ length (all_slots (take i bs)) + length (all_slots (drop i bs)) = ap length (ap all_slots (sym (take-append-drop i bs)) ∙ all-append (take i bs) (drop i bs)) ∙ length-append (all_slots (take i bs)) (all_slots (drop i bs)) in
    omega (arith, e)

-- what stays of the blocks at both gaps is no longer than the whole
pub joined_short : (bs : List (List Slot)) (i o count j q : ℕ) (d : List Slot) → IsGap (drop i bs) (o + count) j q
    → o + count + (length (get_or (drop i bs) j d) - q) ≤ length (all_slots bs)
joined_short bs i o count j q d g =
    let u = within_all (drop i bs) j d (gap_inside (drop i bs) (o + count) j q g) in
    let w = gap_within (drop i bs) (o + count) j q d g in
    omega (arith, u, w, drop_shorter bs i, g.before)

pub put_between : (bs new after : List (List Slot)) (p i o count j q last : ℕ) (x y with slots : List Slot) → IsGap bs p i o → IsGap (drop i bs) (o + count) j q
    → last ≡ i + j → x ≡ get_or bs i x → y ≡ get_or bs last y → slots ≡ take o x ++ (with ++ drop q y) → all_slots new ≡ slots
    → after ≡ take i bs ++ (new ++ drop (last + 1) bs)
    → all_slots after ≡ take p (all_slots bs) ++ (with ++ drop (p + count) (all_slots bs))
put_between bs new after p i o count j q last x y with slots g h l ex ey e f r =
    let yy : y ≡ get_or (drop i bs) j y = ey ∙ ap (λ (k : ℕ). get_or bs k y) l ∙ sym (later_get bs i j y) in
    let n : last + 1 ≡ i + (j + 1) = omega (arith, l) in
    ap all_slots (r ∙ ap (λ (k : ℕ). take i bs ++ (new ++ drop k bs)) n)
    ∙ spliced bs new i o p count j q x y with (gap_inside bs p i o g) (gap_within bs p i o x g) g.before (gap_inside (drop i bs) (o + count) j q h) (gap_within (drop i bs) (o + count) j q y h) h.before
    (f ∙ e ∙ (λ t. take o (ex t) ++ (with ++ drop q (yy t))))

-- the slots that are put there are few enough
pub joined_fit : (bs : List (List Slot)) (i o count j q last : ℕ) (x y with tail slots : List Slot) → IsGap (drop i bs) (o + count) j q
    → last ≡ i + j → y ≡ get_or bs last y → slots ≡ take o x ++ (with ++ tail) → tail ≡ drop q y
    → length slots + count ≤ length (all_slots bs) + length with
joined_fit bs i o count j q last x y with tail slots h l ey e t =
    let yy : y ≡ get_or (drop i bs) j y = ey ∙ ap (λ (k : ℕ). get_or bs k y) l ∙ sym (later_get bs i j y) in
    let a = joined_short bs i o count j q y h in
    let b : length (get_or (drop i bs) j y) ≡ length y = ap length (sym yy) in
    let n : length slots ≡ length (take o x) + (length with + length tail) = ap length e ∙ length-append (take o x) (with ++ tail) ∙ ap (λ (k : ℕ). length (take o x) + k) (length-append with tail) in
    let m : length tail ≡ length y - q = ap length t ∙ length-drop q y in
    let f : length (take o x) ≤ o = at_most o x in
    omega (arith, a, b, n, m, f)
  where
    at_most : (o : ℕ) (x : List Slot) → length (take o x) ≤ o
    at_most zero x = omega arith
    at_most (suc o) [] = omega arith
    at_most (suc o) (s ∷ x) = omega (arith, at_most o x)

pub rest_of : (q : ℕ) (y : List Slot) → take (length y - q) (drop q y) ≡ drop q y
rest_of q y = let n : length (drop q y) ≡ length y - q = length-drop q y in take_all (length y - q) (drop q y) (omega (arith, n))

pub on_ok : {T E : Type 0} {A B : Type 0} (r : Result T E) → (A → B) → OnOk r A → OnOk r B
on_ok (Ok v) f h = f h
on_ok (Err e) f h = h

-- ## An item

get_gap : (bs : List (List Slot)) (i o : ℕ) (e : List Slot) (d : Slot) → i < length bs → o < length (get_or bs i e)
    → get_or (all_slots bs) (before_gap bs i o) d ≡ get_or (get_or bs i e) o d
get_gap [] i o e d h k = absurd (omega (arith, h))
get_gap (b ∷ bs) zero o e d h k = let z : 0 + o ≡ o = omega arith in rw z (get_or_append_left b (all_slots bs) d o k)
get_gap (b ∷ bs) (suc i) o e d h k =
    let n : length (b ++ all_slots (take i bs)) + o ≡ length b + before_gap bs i o = omega (arith, length-append b (all_slots (take i bs))) in
    ap (λ (j : ℕ). get_or (b ++ all_slots bs) j d) n ∙ get_or-append-add b (all_slots bs) (before_gap bs i o) d ∙ get_gap bs i o e d (omega (arith, h)) k

pub item_is : (bs : List (List Slot)) (p i o : ℕ) (x : List Slot) (d : Slot) → IsItem bs p i o → x ≡ get_or bs i x → slice_get (all_slots bs) p ≡ Some (get_or x o d)
item_is bs p i o x d g e =
    let h = item_inside bs p i o g in
    let k = item_within bs p i o x g in
    let l : o < length x = subst (λ (y : List Slot). o < length y) (sym e) k in
    slice_get-get_or (all_slots bs) p d (item_before bs i o p (length x) x h e g.before refl l)
    ∙ ap (λ (s : Slot). Some s) (ap (λ (j : ℕ). get_or (all_slots bs) j d) (sym g.before) ∙ get_gap bs i o x d h k ∙ ap (λ (y : List Slot). get_or y o d) (sym e))

pub length-full : (c : List Slot) (k : ℕ) (b : Bool) → length (with_full c k b) ≡ length c
length-full [] k b = refl
length-full (s ∷ c) zero b = refl
length-full (s ∷ c) (suc k) b = ap suc (length-full c k b)

-- ## Where no gap is found

pub no_gap : (bs tail : List (List Slot)) (i o count : ℕ) → i + 1 ≤ length bs → tail ≡ take (length bs - i) (drop i bs)
    → o + count ≤ length (all_slots (drop i bs)) → (0 < length tail → length (all_slots tail) < o + count) → ⊥
no_gap bs tail i o count h e w n =
    let f : tail ≡ drop i bs = e ∙ take_all (length bs - i) (drop i bs) (let m : length (drop i bs) ≡ length bs - i = length-drop i bs in omega (arith, m)) in
    let m : length tail ≡ length bs - i = ap length f ∙ length-drop i bs in
    let k : length (all_slots tail) ≡ length (all_slots (drop i bs)) = ap (λ (l : List (List Slot)). length (all_slots l)) f in
    let l = n (omega (arith, m, h)) in
    omega (arith, l, k, w)

-- where there are no blocks, what is put there is all
pub put_first : (bs new after : List (List Slot)) (p count : ℕ) (with : List Slot) → (0 < length bs → length (all_slots bs) < p) → p + count ≤ length (all_slots bs)
    → all_slots new ≡ with → after ≡ bs ++ new → all_slots after ≡ take p (all_slots bs) ++ (with ++ drop (p + count) (all_slots bs))
put_first [] new after p count with n w e r =
    let z : p ≡ 0 = omega (arith, w) in
    let y : p + count ≡ 0 = omega (arith, w) in
    ap all_slots r ∙ e ∙ sym (append-nil with) ∙ (λ t. take (sym z t) (all_slots []) ++ (with ++ drop (sym y t) (all_slots [])))
put_first (b ∷ bs) new after p count with n w e r = let h = n (omega arith) in absurd (omega (arith, h, w))

-- one slot
pub one_put : (c d : List Slot) (p count : ℕ) (with : List Slot) (s x : Slot) → count ≡ 0 → length with ≡ 1 → s ≡ get_or with 0 x
    → d ≡ take p c ++ (s ∷ drop p c) → d ≡ take p c ++ (with ++ drop (p + count) c)
one_put c d p count [] s x z n e r = absurd (omega (arith, n))
one_put c d p count (y ∷ []) s x z n e r = let q : p ≡ p + count = omega (arith, z) in r ∙ (λ t. take p c ++ (e t ∷ drop (q t) c))
one_put c d p count (y ∷ u ∷ ys) s x z n e r = absurd (omega (arith, n))

pub length-spliced : (c d with : List Slot) (p count : ℕ) → p + count ≤ length c → d ≡ take p c ++ (with ++ drop (p + count) c) → length d ≡ length c - count + length with
length-spliced c d with p count h e =
    let a : length d ≡ length (take p c) + (length with + length (drop (p + count) c)) = ap length e ∙ length-append (take p c) (with ++ drop (p + count) c) ∙ ap (λ (k : ℕ). length (take p c) + k) (length-append with (drop (p + count) c)) in
    let b : length (take p c) ≡ p = length-take-le p c (omega (arith, h)) in
    let f : length (drop (p + count) c) ≡ length c - (p + count) = length-drop (p + count) c in
    omega (arith, a, b, f, h)

pub gap_count : (bs : List (List Slot)) (p i o count : ℕ) → IsGap bs p i o → p + count ≤ length (all_slots bs) → o + count ≤ length (all_slots (drop i bs))
gap_count bs p i o count g w =
    let e : length (all_slots bs) ≡ length (all_slots (take i bs)) + length (all_slots (drop i bs)) = ap length (ap all_slots (sym (take-append-drop i bs)) ∙ all-append (take i bs) (drop i bs)) ∙ length-append (all_slots (take i bs)) (all_slots (drop i bs)) in
    omega (arith, e, w, g.before)
