-- Groups over blocks that change.
use Rattle.std.proofs.Common.{◌≡◌, ◌<◌, ◌≤◌, ◌+◌, ◌-◌, ◌*◌, ℕ, zero, suc, List, [], ◌∷◌, ◌++◌, length, set, take, drop, refl, sym, ap, ◌∙◌, subst, arith, length-append}
use Rattle.std.proofs.lemmas.List.{length-set, length-drop, length-take-le, take-append-le, drop-append-le, take-set-le, drop-set-lt, drop-set-add, take_all}
use Rattle.std.proofs.lemmas.List.Sums.{sum_by-cons}
use Rattle.std.proofs.Math.Seq.{take-add}
use Rattle.st_chunks.proofs.Splicing.{drop-drop as drop-add}
use Rattle.st_marks.specs.declared.places.Slot.{Slot}
use Rattle.st_chunks.specs.declared.group.Group.{Group}
use Rattle.st_chunks.specs.Slots.{all_slots, count_full}
use Rattle.st_chunks.specs.inside.Groups.{AreGroups, AreGroupsBut, IsCountOf, fulls, sizes}
use Rattle.st_chunks.proofs.Counting.{count-append}
use Rattle.st_chunks.proofs.Gaps.{all-append}

abbrev pub Blocks : Type 0
Blocks = List (List Slot)

-- the blocks of all groups are there
pub groups_within : (gs : List Group) (bs : Blocks) → AreGroups gs bs → length gs * 64 ≤ length bs
groups_within [] bs a = omega arith
groups_within (g ∷ gs) bs a =
    let n : length (drop 64 bs) ≡ length bs - 64 = length-drop 64 bs in
    omega (arith, groups_within gs (drop 64 bs) a.2, n, a.0)

-- blocks behind those that are counted don't matter
pub groups_append : (gs : List Group) (bs cs : Blocks) → AreGroups gs bs → AreGroups gs (bs ++ cs)
groups_append [] bs cs a = tt
groups_append (g ∷ gs) bs cs a =
    let n : length (bs ++ cs) ≡ length bs + length cs = length-append bs cs in (
      omega (arith, n, a.0),
      subst (IsCountOf g) (sym (take-append-le 64 bs cs a.0)) a.1,
      subst (AreGroups gs) (sym (drop-append-le 64 bs cs a.0)) (groups_append gs (drop 64 bs) cs a.2),
    )

-- groups of the blocks before one stay, whatever comes behind
pub groups_front : (gs : List Group) (bs cs : Blocks) (k i : ℕ) → k * 64 ≤ i → i ≤ length bs → AreGroups gs bs → AreGroups (take k gs) (take i bs ++ cs)
groups_front gs bs cs zero i h w a = tt
groups_front [] bs cs (suc k) i h w a = tt
groups_front (g ∷ gs) bs cs (suc k) i h w a =
    let l : 64 ≤ i = omega (arith, h) in
    let n : length (take i bs) ≡ i = length-take-le i bs w in
    let m : length (drop 64 bs) ≡ length bs - 64 = length-drop 64 bs in
    let e : i ≡ 64 + (i - 64) = omega (arith, l) in
    let t : take i bs ≡ take 64 bs ++ take (i - 64) (drop 64 bs) = ap (λ j. take j bs) e ∙ take-add 64 (i - 64) bs in
    let q : length (take 64 bs) ≡ 64 = length-take-le 64 bs a.0 in
    let s : take 64 (take i bs ++ cs) ≡ take 64 bs = take-append-le 64 (take i bs) cs (omega (arith, n, l)) ∙ front_of (take 64 bs) (take (i - 64) (drop 64 bs)) (take i bs) q t in
    let r : drop 64 (take i bs ++ cs) ≡ take (i - 64) (drop 64 bs) ++ cs = drop-append-le 64 (take i bs) cs (omega (arith, n, l)) ∙ ap (λ x. x ++ cs) (rest_of (take 64 bs) (take (i - 64) (drop 64 bs)) (take i bs) q t) in
    let u : length (take i bs ++ cs) ≡ i + length cs = length-append (take i bs) cs ∙ ap (λ j. j + length cs) n in (
      omega (arith, u, l),
      subst (IsCountOf g) (sym s) a.1,
      subst (AreGroups (take k gs)) (sym r) (groups_front gs (drop 64 bs) cs k (i - 64) (omega (arith, h)) (omega (arith, m, w)) a.2),
    )
  where
    front_of : (x y z : Blocks) → length x ≡ 64 → z ≡ x ++ y → take 64 z ≡ x
    front_of x y z q e = ap (take 64) e ∙ take-append-le 64 x y (omega (arith, q)) ∙ take_all 64 x (omega (arith, q))

    gone : (j : ℕ) (x : Blocks) → length x ≤ j → drop j x ≡ []
    gone zero [] h = refl
    gone (suc j) [] h = refl
    gone zero (b ∷ x) h = absurd (omega (arith, h))
    gone (suc j) (b ∷ x) h = gone j x (omega (arith, h))

    rest_of : (x y z : Blocks) → length x ≡ 64 → z ≡ x ++ y → drop 64 z ≡ y
    rest_of x y z q e = ap (drop 64) e ∙ drop-append-le 64 x y (omega (arith, q)) ∙ ap (λ d. d ++ y) (gone 64 x (omega (arith, q)))

-- one more group, of the blocks that come next
pub groups_pushed : (gs : List Group) (g : Group) (bs : Blocks) → AreGroups gs bs → length gs * 64 + 64 ≤ length bs
    → IsCountOf g (take 64 (drop (length gs * 64) bs)) → AreGroups (gs ++ g ∷ []) bs
groups_pushed [] g bs a w c = (omega (arith, w), c, tt)
groups_pushed (h ∷ gs) g bs a w c =
    let n : length (drop 64 bs) ≡ length bs - 64 = length-drop 64 bs in
    let e : suc (length gs) * 64 ≡ 64 + length gs * 64 = omega arith in
    (a.0, a.1, groups_pushed gs g (drop 64 bs) a.2 (omega (arith, n, w)) (subst (λ x. IsCountOf g (take 64 x)) (ap (λ j. drop j bs) e ∙ sym (drop-add 64 (length gs * 64) bs)) c))

-- a block that changes leaves all groups but its own
pub groups_but : (gs : List Group) (bs : Blocks) (k i : ℕ) (x : List Slot) → k * 64 ≤ i → i < k * 64 + 64 → AreGroups gs bs → AreGroupsBut k gs (set bs i x)
groups_but [] bs k i x h l a = tt
groups_but (g ∷ gs) bs zero i x h l a =
    let n : length (set bs i x) ≡ length bs = length-set bs i x in
    (omega (arith, n, a.0), subst (AreGroups gs) (sym (drop-set-lt 64 bs i x (omega (arith, l)))) a.2)
groups_but (g ∷ gs) bs (suc k) i x h l a =
    let n : length (set bs i x) ≡ length bs = length-set bs i x in
    let e : i ≡ 64 + (i - 64) = omega (arith, h) in (
      omega (arith, n, a.0),
      subst (IsCountOf g) (sym (take-set-le 64 bs i x (omega (arith, h)))) a.1,
      subst (AreGroupsBut k gs) (sym (ap (λ j. drop 64 (set bs j x)) e ∙ drop-set-add 64 bs (i - 64) x)) (groups_but gs (drop 64 bs) k (i - 64) x (omega (arith, h)) (omega (arith, l, h)) a.2),
    )

-- that one counted anew, all are right
pub recounted : (gs : List Group) (g : Group) (bs : Blocks) (k : ℕ) → k < length gs → AreGroupsBut k gs bs → IsCountOf g (take 64 (drop (k * 64) bs)) → AreGroups (set gs k g) bs
recounted [] g bs k h a c = absurd (omega (arith, h))
recounted (f ∷ gs) g bs zero h a c = (a.0, c, a.1)
recounted (f ∷ gs) g bs (suc k) h a c =
    let e : suc k * 64 ≡ 64 + k * 64 = omega arith in
    (a.0, a.1, recounted gs g (drop 64 bs) k (omega (arith, h)) a.2 (subst (λ x. IsCountOf g (take 64 x)) (ap (λ j. drop j bs) e ∙ sym (drop-add 64 (k * 64) bs)) c))

-- where there is no such group, none is left out
pub none_left_out : (gs : List Group) (bs : Blocks) (k : ℕ) → length gs ≤ k → AreGroupsBut k gs bs → AreGroups gs bs
none_left_out [] bs k h a = tt
none_left_out (g ∷ gs) bs zero h a = absurd (omega (arith, h))
none_left_out (g ∷ gs) bs (suc k) h a = (a.0, a.1, none_left_out gs (drop 64 bs) k (omega (arith, h)) a.2)

-- the blocks of a group that may be counted wrong are there too
pub but_within : (gs : List Group) (bs : Blocks) (k : ℕ) → AreGroupsBut k gs bs → length gs * 64 ≤ length bs
but_within [] bs k a = omega arith
but_within (g ∷ gs) bs zero a =
    let n : length (drop 64 bs) ≡ length bs - 64 = length-drop 64 bs in
    omega (arith, groups_within gs (drop 64 bs) a.1, n, a.0)
but_within (g ∷ gs) bs (suc k) a =
    let n : length (drop 64 bs) ≡ length bs - 64 = length-drop 64 bs in
    omega (arith, but_within gs (drop 64 bs) k a.2, n, a.0)

-- ## What front groups count

pub sizes_before : (gs : List Group) (bs : Blocks) (k : ℕ) → k ≤ length gs → AreGroups gs bs → sizes (take k gs) ≡ length (all_slots (take (k * 64) bs))
sizes_before gs bs zero h a = refl
sizes_before [] bs (suc k) h a = absurd (omega (arith, h))
sizes_before (g ∷ gs) bs (suc k) h a =
    let e : suc k * 64 ≡ 64 + k * 64 = omega arith in
    let t : take (suc k * 64) bs ≡ take 64 bs ++ take (k * 64) (drop 64 bs) = ap (λ j. take j bs) e ∙ take-add 64 (k * 64) bs in
    let l : length (all_slots (take (suc k * 64) bs)) ≡ length (all_slots (take 64 bs)) + length (all_slots (take (k * 64) (drop 64 bs))) =
    ap (λ x. length (all_slots x)) t ∙ ap length (all-append (take 64 bs) (take (k * 64) (drop 64 bs))) ∙ length-append (all_slots (take 64 bs)) (all_slots (take (k * 64) (drop 64 bs))) in
    let r = sizes_before gs (drop 64 bs) k (omega (arith, h)) a.2 in
    let z : sizes (take (suc k) (g ∷ gs)) ≡ g.slots + sizes (take k gs) = sum_by-cons (λ (f : Group). f.slots) g (take k gs) in
    omega (arith, l, r, a.1.slots, z)

pub fulls_before : (gs : List Group) (bs : Blocks) (k : ℕ) → k ≤ length gs → AreGroups gs bs → fulls (take k gs) ≡ count_full (all_slots (take (k * 64) bs))
fulls_before gs bs zero h a = refl
fulls_before [] bs (suc k) h a = absurd (omega (arith, h))
fulls_before (g ∷ gs) bs (suc k) h a =
    let e : suc k * 64 ≡ 64 + k * 64 = omega arith in
    let t : take (suc k * 64) bs ≡ take 64 bs ++ take (k * 64) (drop 64 bs) = ap (λ j. take j bs) e ∙ take-add 64 (k * 64) bs in
    let l : count_full (all_slots (take (suc k * 64) bs)) ≡ count_full (all_slots (take 64 bs)) + count_full (all_slots (take (k * 64) (drop 64 bs))) =
    ap (λ x. count_full (all_slots x)) t ∙ ap count_full (all-append (take 64 bs) (take (k * 64) (drop 64 bs))) ∙ count-append (all_slots (take 64 bs)) (all_slots (take (k * 64) (drop 64 bs))) in
    let r = fulls_before gs (drop 64 bs) k (omega (arith, h)) a.2 in
    let z : fulls (take (suc k) (g ∷ gs)) ≡ g.full + fulls (take k gs) = sum_by-cons (λ (f : Group). f.full) g (take k gs) in
    omega (arith, l, r, a.1.full, z)
