-- Searches that go past blocks and groups.
use Rattle.std.proofs.Common.{◌≡◌, ◌<◌, ◌≤◌, ◌+◌, ◌-◌, ◌*◌, ◌/◌, ℕ, zero, suc, Bool, true, List, [], ◌∷◌, ◌++◌, length, get_or, set, take, drop, refl, sym, ap, ◌∙◌, subst, arith, length-append}
use Rattle.std.specs.Prelude.{Some, slice_get, Result, Ok, Err, OnOk, OnErr}
use Rattle.std.proofs.lemmas.List.{append-nil, length-drop, take-append-drop, take-append-le, take_all}
use Rattle.std.proofs.Math.Nat.{div-mul-le_self}
use Rattle.std.proofs.Math.Seq.{take-add, take-append-add}
use Rattle.st_marks.specs.declared.places.Slot.{Slot}
use Rattle.st_chunks.specs.declared.group.Group.{Group}
use Rattle.st_chunks.specs.Slots.{all_slots, count_full, one_if, IsFullPlace}
use Rattle.st_chunks.specs.inside.Gaps.{IsGap, IsItem}
use Rattle.st_chunks.specs.inside.Groups.{AreGroups, AreGroupsBut, fulls, sizes}
use Rattle.st_chunks.proofs.Counting.{count-append, count-length, count-next}
use Rattle.st_chunks.proofs.Found.{drop_shorter}
use Rattle.st_chunks.proofs.Gaps.{all-append}
use Rattle.st_chunks.proofs.GroupCounts.{fulls_before, groups_append, groups_but, groups_front, groups_within, sizes_before}

-- ## One block more

pub blocks-next : (bs : List (List Slot)) (i : ℕ) (d : List Slot) → i < length bs → length (all_slots (take (suc i) bs)) ≡ length (all_slots (take i bs)) + length (get_or bs i d)
blocks-next [] i d h = absurd (omega (arith, h))
blocks-next (b ∷ bs) zero d h = let e : length (b ++ []) ≡ length b = ap length (append-nil b) in omega (arith, e)
blocks-next (b ∷ bs) (suc i) d h =
    let e : length (b ++ all_slots (take (suc i) bs)) ≡ length b + length (all_slots (take (suc i) bs)) = length-append b (all_slots (take (suc i) bs)) in
    let f : length (b ++ all_slots (take i bs)) ≡ length b + length (all_slots (take i bs)) = length-append b (all_slots (take i bs)) in
    omega (arith, e, f, blocks-next bs i d (omega (arith, h)))

pub fulls-next : (bs : List (List Slot)) (i : ℕ) (d : List Slot) → i < length bs → count_full (all_slots (take (suc i) bs)) ≡ count_full (all_slots (take i bs)) + count_full (get_or bs i d)
fulls-next [] i d h = absurd (omega (arith, h))
fulls-next (b ∷ bs) zero d h = let e : count_full (b ++ []) ≡ count_full b = ap count_full (append-nil b) in omega (arith, e)
fulls-next (b ∷ bs) (suc i) d h =
    let e : count_full (b ++ all_slots (take (suc i) bs)) ≡ count_full b + count_full (all_slots (take (suc i) bs)) = count-append b (all_slots (take (suc i) bs)) in
    let f : count_full (b ++ all_slots (take i bs)) ≡ count_full b + count_full (all_slots (take i bs)) = count-append b (all_slots (take i bs)) in
    omega (arith, e, f, fulls-next bs i d (omega (arith, h)))

-- the same, of the block that a loop has at hand
pub blocks_more : (bs : List (List Slot)) (i n k : ℕ) (x : List Slot) → i < length bs → x ≡ get_or bs i x → n ≡ length (all_slots (take i bs)) → k ≡ length x → n + k ≡ length (all_slots (take (i + 1) bs))
blocks_more bs i n k x h e a b =
    let s : i + 1 ≡ suc i = omega arith in
    let g : length (get_or bs i x) ≡ length x = ap length (sym e) in
    let r : n + k ≡ length (all_slots (take (suc i) bs)) = omega (arith, blocks-next bs i x h, g, a, b) in
    r ∙ ap (λ j. length (all_slots (take j bs))) (sym s)

pub fulls_more : (bs : List (List Slot)) (i n k : ℕ) (x : List Slot) → i < length bs → x ≡ get_or bs i x → n ≡ count_full (all_slots (take i bs)) → k ≡ count_full x → n + k ≡ count_full (all_slots (take (i + 1) bs))
fulls_more bs i n k x h e a b =
    let s : i + 1 ≡ suc i = omega arith in
    let g : count_full (get_or bs i x) ≡ count_full x = ap count_full (sym e) in
    let r : n + k ≡ count_full (all_slots (take (suc i) bs)) = omega (arith, fulls-next bs i x h, g, a, b) in
    r ∙ ap (λ j. count_full (all_slots (take j bs))) (sym s)

-- a front of blocks is no longer than all
pub front_short : (bs : List (List Slot)) (i : ℕ) → length (all_slots (take i bs)) ≤ length (all_slots bs)
front_short bs i =
    let e : length (all_slots bs) ≡ length (all_slots (take i bs)) + length (all_slots (drop i bs)) = ap length (ap all_slots (sym (take-append-drop i bs)) ∙ all-append (take i bs) (drop i bs)) ∙ length-append (all_slots (take i bs)) (all_slots (drop i bs)) in
    omega (arith, e)

pub front_fewer : (bs : List (List Slot)) (i : ℕ) → count_full (all_slots (take i bs)) ≤ count_full (all_slots bs)
front_fewer bs i =
    let e : count_full (all_slots bs) ≡ count_full (all_slots (take i bs)) + count_full (all_slots (drop i bs)) = ap count_full (ap all_slots (sym (take-append-drop i bs)) ∙ all-append (take i bs) (drop i bs)) ∙ count-append (all_slots (take i bs)) (all_slots (drop i bs)) in
    omega (arith, e)

pub more_short : (bs : List (List Slot)) (i n k : ℕ) (x : List Slot) → i < length bs → x ≡ get_or bs i x → n ≡ length (all_slots (take i bs)) → k ≡ length x → n + k ≤ length (all_slots bs)
more_short bs i n k x h e a b = let r = blocks_more bs i n k x h e a b in omega (arith, r, front_short bs (i + 1))

pub more_fewer : (bs : List (List Slot)) (i n k : ℕ) (x : List Slot) → i < length bs → x ≡ get_or bs i x → n ≡ count_full (all_slots (take i bs)) → k ≡ count_full x → n + k ≤ length (all_slots bs)
more_fewer bs i n k x h e a b = let r = fulls_more bs i n k x h e a b in omega (arith, r, front_fewer bs (i + 1), count-length (all_slots bs))

-- ## Behind some blocks

whole-length : (bs : List (List Slot)) (k : ℕ) → length (all_slots bs) ≡ length (all_slots (take k bs)) + length (all_slots (drop k bs))
whole-length bs k = ap length (ap all_slots (sym (take-append-drop k bs)) ∙ all-append (take k bs) (drop k bs)) ∙ length-append (all_slots (take k bs)) (all_slots (drop k bs))

whole-fulls : (bs : List (List Slot)) (k : ℕ) → count_full (all_slots bs) ≡ count_full (all_slots (take k bs)) + count_full (all_slots (drop k bs))
whole-fulls bs k = ap count_full (ap all_slots (sym (take-append-drop k bs)) ∙ all-append (take k bs) (drop k bs)) ∙ count-append (all_slots (take k bs)) (all_slots (drop k bs))

further : (bs : List (List Slot)) (k i : ℕ) → length (all_slots (take (k + i) bs)) ≡ length (all_slots (take k bs)) + length (all_slots (take i (drop k bs)))
further bs k i = ap length (ap all_slots (take-add k i bs) ∙ all-append (take k bs) (take i (drop k bs))) ∙ length-append (all_slots (take k bs)) (all_slots (take i (drop k bs)))

slice-drop : {A : Type 0} (k i : ℕ) (xs : List A) → slice_get (drop k xs) i ≡ slice_get xs (k + i)
slice-drop zero i xs = let e : 0 + i ≡ i = omega arith in rw e refl
slice-drop (suc k) zero [] = refl
slice-drop (suc k) (suc i) [] = refl
slice-drop (suc k) i (x ∷ xs) = let e : suc k + i ≡ suc (k + i) = omega arith in rw e (slice-drop k i xs)

-- a gap among the blocks behind some is one of all
pub gap_behind : (bs : List (List Slot)) (k place rest i o : ℕ) → length (all_slots (take k bs)) + rest ≡ place → IsGap (drop k bs) rest i o → IsGap bs place (k + i) o
gap_behind bs k place rest i o e g =
    let n : length (drop k bs) ≡ length bs - k = length-drop k bs in
    record {
      inside = omega (arith, g.inside, n);
      kept = g.kept;
      named = sym (slice-drop k i bs) ∙ g.named;
      within = g.within;
      before = omega (arith, further bs k i, g.before, e);
    }

pub item_behind : (bs : List (List Slot)) (k place rest i o : ℕ) → length (all_slots (take k bs)) + rest ≡ place → IsItem (drop k bs) rest i o → IsItem bs place (k + i) o
item_behind bs k place rest i o e g =
    let n : length (drop k bs) ≡ length bs - k = length-drop k bs in
    record {
      inside = omega (arith, g.inside, n);
      kept = g.kept;
      named = sym (slice-drop k i bs) ∙ g.named;
      within = g.within;
      before = omega (arith, further bs k i, g.before, e);
    }

-- where none is behind some blocks, none is anywhere
pub none_behind : (bs : List (List Slot)) (k place rest : ℕ) → length (all_slots (take k bs)) + rest ≡ place → k ≤ length bs → (0 < k → 0 < rest)
    → (k < length bs → length (all_slots (drop k bs)) < rest) → 0 < length bs → length (all_slots bs) < place
none_behind bs zero place rest e w m n h = let l = n h in omega (arith, whole-length bs zero, e, l)
none_behind bs (suc k) place rest e w m n h = go (drop (suc k) bs) refl
  where
    go : (ds : List (List Slot)) → drop (suc k) bs ≡ ds → length (all_slots bs) < place
    go [] d =
        let a : length (all_slots (drop (suc k) bs)) ≡ 0 = ap (λ x. length (all_slots x)) d in
        omega (arith, whole-length bs (suc k), a, e, m (omega arith))
    go (b ∷ ds) d =
        let a : length (drop (suc k) bs) ≡ length bs - suc k = length-drop (suc k) bs in
        let c : length (drop (suc k) bs) ≡ suc (length ds) = ap length d in
        let l = n (omega (arith, a, c)) in
        omega (arith, whole-length bs (suc k), e, l)

-- ## Full slots

pub full_past : (d : Slot) (c : List Slot) (k index : ℕ) → k < length c → (get_or c k d).full ≡ true → count_full (take k c) ≡ index → index < count_full c
full_past d c k index h f e =
    let a = count-next c k d h in
    let o : one_if (get_or c k d).full ≡ 1 = ap one_if f in
    let w : count_full c ≡ count_full (take (suc k) c) + count_full (drop (suc k) c) = ap count_full (sym (take-append-drop (suc k) c)) ∙ count-append (take (suc k) c) (drop (suc k) c) in
    omega (arith, a, o, w, e)

-- a full slot of one block, among those of all
pub full_in_block : (bs : List (List Slot)) (i index rest before place : ℕ) (x : List Slot) → i < length bs → x ≡ get_or bs i x
    → before ≡ length (all_slots (take i bs)) → count_full (all_slots (take i bs)) + rest ≡ index → IsFullPlace x rest place → IsFullPlace (all_slots bs) index (before + place)
full_in_block bs i index rest before place x h e b f p =
    subst (λ (l : List Slot). IsFullPlace l index (before + place)) (sym (parts bs i x h e)) (
    full_between (all_slots (take i bs)) x (all_slots (drop (suc i) bs)) index rest before place b f p)
  where
    parts : (bs : List (List Slot)) (i : ℕ) (x : List Slot) → i < length bs → x ≡ get_or bs i x → all_slots bs ≡ all_slots (take i bs) ++ (x ++ all_slots (drop (suc i) bs))
    parts bs i x h e =
        ap all_slots (sym (take-append-drop i bs)) ∙ all-append (take i bs) (drop i bs)
        ∙ ap (λ (l : List Slot). all_slots (take i bs) ++ l) (head bs i x h ∙ ap (λ (y : List Slot). y ++ all_slots (drop (suc i) bs)) (sym e))
      where
        head : (bs : List (List Slot)) (i : ℕ) (d : List Slot) → i < length bs → all_slots (drop i bs) ≡ get_or bs i d ++ all_slots (drop (suc i) bs)
        head [] i d h = absurd (omega (arith, h))
        head (b ∷ bs) zero d h = refl
        head (b ∷ bs) (suc i) d h = head bs i d (omega (arith, h))

    full_between : (l x r : List Slot) (index rest before place : ℕ) → before ≡ length l → count_full l + rest ≡ index → IsFullPlace x rest place → IsFullPlace (l ++ (x ++ r)) index (before + place)
    full_between l x r index rest before place b f p = record {
      slot = p.slot;
      there = ap (λ j. slice_get (l ++ (x ++ r)) (j + place)) b ∙ found_right l (x ++ r) place ∙ found_left x r place p.slot p.there;
      full = p.full;
      before = ap (λ j. count_full (take (j + place) (l ++ (x ++ r)))) b ∙ ap count_full (take-append-add l (x ++ r) place)
          ∙ count-append l (take place (x ++ r))
          ∙ ap (λ n. count_full l + n) (ap count_full (take-append-le place x r (place_in x place p.slot p.there)) ∙ p.before) ∙ f;
    }
      where
        found_right : (l r : List Slot) (k : ℕ) → slice_get (l ++ r) (length l + k) ≡ slice_get r k
        found_right [] r k = let e : 0 + k ≡ k = omega arith in rw e refl
        found_right (s ∷ l) r k = let e : suc (length l) + k ≡ suc (length l + k) = omega arith in rw e (found_right l r k)

        found_left : (l r : List Slot) (k : ℕ) (s : Slot) → slice_get l k ≡ Some s → slice_get (l ++ r) k ≡ Some s
        found_left [] r zero s e = absurd (cc)
        found_left [] r (suc k) s e = absurd (cc)
        found_left (x ∷ l) r zero s e = e
        found_left (x ∷ l) r (suc k) s e = found_left l r k s e

        place_in : (l : List Slot) (k : ℕ) (s : Slot) → slice_get l k ≡ Some s → k ≤ length l
        place_in [] zero s e = absurd (cc)
        place_in [] (suc k) s e = absurd (cc)
        place_in (x ∷ l) zero s e = omega arith
        place_in (x ∷ l) (suc k) s e = omega (arith, place_in l k s e)

-- a full slot behind some blocks, among those of all
pub full_behind : (bs : List (List Slot)) (k index rest before place : ℕ) → before ≡ length (all_slots (take k bs)) → count_full (all_slots (take k bs)) + rest ≡ index
    → IsFullPlace (all_slots (drop k bs)) rest place → IsFullPlace (all_slots bs) index (before + place)
full_behind bs k index rest before place b f p =
    subst (λ (l : List Slot). IsFullPlace l index (before + place)) (sym (ap all_slots (sym (take-append-drop k bs)) ∙ all-append (take k bs) (drop k bs))) (
    full_right (all_slots (take k bs)) (all_slots (drop k bs)) b f p)
  where
    full_right : (l r : List Slot) → before ≡ length l → count_full l + rest ≡ index → IsFullPlace r rest place → IsFullPlace (l ++ r) index (before + place)
    full_right l r b f p = record {
      slot = p.slot;
      there = ap (λ j. slice_get (l ++ r) (j + place)) b ∙ found_right l ∙ p.there;
      full = p.full;
      before = ap (λ j. count_full (take (j + place) (l ++ r))) b ∙ ap count_full (take-append-add l r place) ∙ count-append l (take place r) ∙ ap (λ n. count_full l + n) p.before ∙ f;
    }
      where
        found_right : (l : List Slot) → slice_get (l ++ r) (length l + place) ≡ slice_get r place
        found_right [] = let e : 0 + place ≡ place = omega arith in rw e refl
        found_right (s ∷ l) = let e : suc (length l) + place ≡ suc (length l + place) = omega arith in rw e (found_right l)

-- an index among the full ones is refused by the blocks behind some exactly where it is past all
pub full_range : {r : Bool} (bs : List (List Slot)) (k index rest : ℕ) → count_full (all_slots (take k bs)) + rest ≡ index
    → ((r ≡ true → count_full (all_slots (drop k bs)) ≤ rest) × (count_full (all_slots (drop k bs)) ≤ rest → r ≡ true))
    → (r ≡ true → count_full (all_slots bs) ≤ index) × (count_full (all_slots bs) ≤ index → r ≡ true)
full_range bs k index rest e p = (λ t. (let h = p.0 t in omega (arith, h, whole-fulls bs k, e)), λ h. p.1 (omega (arith, h, whole-fulls bs k, e)))

pub item_range : {r : Bool} (bs : List (List Slot)) (k place rest : ℕ) → length (all_slots (take k bs)) + rest ≡ place
    → ((r ≡ true → length (all_slots (drop k bs)) ≤ rest) × (length (all_slots (drop k bs)) ≤ rest → r ≡ true))
    → (r ≡ true → length (all_slots bs) ≤ place) × (length (all_slots bs) ≤ place → r ≡ true)
item_range bs k place rest e p = (λ t. (let h = p.0 t in omega (arith, h, whole-length bs k, e)), λ h. p.1 (omega (arith, h, whole-length bs k, e)))

-- the place of a full slot is in the list
pub full_inside : (c : List Slot) (index place : ℕ) → IsFullPlace c index place → place < length c
full_inside c index place p = go c place p.there
  where
    go : (l : List Slot) (k : ℕ) → slice_get l k ≡ Some p.slot → k < length l
    go [] zero e = absurd (cc)
    go [] (suc k) e = absurd (cc)
    go (x ∷ l) zero e = omega arith
    go (x ∷ l) (suc k) e = omega (arith, go l k e)

-- ## Groups

-- how many slots stand before a group's blocks, and how many full ones
pub slots_before : (gs : List Group) (bs : List (List Slot)) (g k n rest place : ℕ) → k ≡ g * 64 → AreGroups gs bs → g ≤ length gs → n ≡ sizes (take g gs) → n + rest ≡ place → length (all_slots (take k bs)) + rest ≡ place
slots_before gs bs g k n rest place q a w e h =
    let z : length (all_slots (take k bs)) ≡ length (all_slots (take (g * 64) bs)) = ap (λ j. length (all_slots (take j bs))) q in
    omega (arith, sizes_before gs bs g w a, e, h, z)

pub slots_are : (gs : List Group) (bs : List (List Slot)) (g k n : ℕ) → k ≡ g * 64 → AreGroups gs bs → g ≤ length gs → n ≡ sizes (take g gs) → n ≡ length (all_slots (take k bs))
slots_are gs bs g k n q a w e = e ∙ sizes_before gs bs g w a ∙ ap (λ j. length (all_slots (take j bs))) (sym q)

pub full_before : (gs : List Group) (bs : List (List Slot)) (g k rest index : ℕ) → k ≡ g * 64 → AreGroups gs bs → g ≤ length gs → fulls (take g gs) + rest ≡ index → count_full (all_slots (take k bs)) + rest ≡ index
full_before gs bs g k rest index q a w h =
    let z : count_full (all_slots (take k bs)) ≡ count_full (all_slots (take (g * 64) bs)) = ap (λ j. count_full (all_slots (take j bs))) q in
    omega (arith, fulls_before gs bs g w a, h, z)

pub group_inside : (gs : List Group) (bs : List (List Slot)) (k : ℕ) → AreGroups gs bs → k ≤ length gs → k * 64 ≤ length bs
group_inside gs bs k a w = omega (arith, groups_within gs bs a, w)

-- all groups together count no more than there is
pub sizes_short : (gs : List Group) (bs : List (List Slot)) → AreGroups gs bs → sizes gs ≤ length (all_slots bs)
sizes_short gs bs a =
    let e : sizes (take (length gs) gs) ≡ length (all_slots (take (length gs * 64) bs)) = sizes_before gs bs (length gs) (omega arith) a in
    let t : sizes (take (length gs) gs) ≡ sizes gs = ap sizes (take_all (length gs) gs (omega arith)) in
    omega (arith, e, t, front_short bs (length gs * 64))

-- a part of the blocks is no longer than all
pub part_short : (bs : List (List Slot)) (a b : ℕ) → length (all_slots (take a (drop b bs))) ≤ length (all_slots bs)
part_short bs a b = omega (arith, front_short (drop b bs) a, drop_shorter bs b)

-- one slot more
pub one_more : (d : Slot) (c : List Slot) (k n m : ℕ) → k < length c → n ≡ count_full (take k c) → m ≡ one_if (get_or c k d).full → n + m ≡ count_full (take (k + 1) c)
one_more d c k n m h a b =
    let s : k + 1 ≡ suc k = omega arith in
    let r : n + m ≡ count_full (take (suc k) c) = omega (arith, count-next c k d h, a, b) in
    r ∙ ap (λ j. count_full (take j c)) (sym s)

-- a slot that doesn't end the search
pub not_yet : (before index step : ℕ) → before ≤ index → (before ≡ index → ⊥) → step ≤ 1 → before + step ≤ index
not_yet before index step h n s = grind (arith, h, n, s)

-- ## Groups whose blocks have changed

-- the group of a block
pub in_group : (i : ℕ) → ((i / 64) * 64 ≤ i) × (i < (i / 64) * 64 + 64)
in_group i = (div-mul-le_self i 64, omega arith)

pub groups_set : (gs : List Group) (bs cs : List (List Slot)) (i : ℕ) → AreGroups gs bs → ((x : List Slot) × (cs ≡ set bs i x)) → AreGroupsBut (i / 64) gs cs
groups_set gs bs cs i a n = subst (AreGroupsBut (i / 64) gs) (sym n.1) (groups_but gs bs (i / 64) i n.0 (in_group i).0 (in_group i).1 a)

pub groups_cut : (gs hs : List Group) (bs cs : List (List Slot)) (i : ℕ) → i ≤ length bs → AreGroups gs bs → hs ≡ take (i / 64) gs → ((xs : List (List Slot)) × (cs ≡ take i bs ++ xs)) → AreGroups hs cs
groups_cut gs hs bs cs i w a e n = subst (λ g. AreGroups g cs) (sym e) (subst (AreGroups (take (i / 64) gs)) (sym n.1) (groups_front gs bs n.0 (i / 64) i (in_group i).0 w a))

-- one slot more in a list
pub length-put : (c d : List Slot) (p : ℕ) (s : Slot) → d ≡ take p c ++ (s ∷ drop p c) → length d ≡ length c + 1
length-put c d p s e =
    let a : length d ≡ length (take p c) + suc (length (drop p c)) = ap length e ∙ length-append (take p c) (s ∷ drop p c) in
    let b : length c ≡ length (take p c) + length (drop p c) = ap length (sym (take-append-drop p c)) ∙ length-append (take p c) (drop p c) in
    omega (arith, a, b)

-- the blocks of the next group are there
pub next_inside : (n k : ℕ) → k < n / 64 → k * 64 + 64 ≤ n
next_inside n k h = let d : n / 64 * 64 ≤ n = div-mul-le_self n 64 in omega (arith, d, h)

-- blocks that are put behind others leave their groups, and so does what comes to nothing
pub put_behind : {T E : Type 0} (r : Result T E) (gs : List Group) (bs cs : List (List Slot)) (with : List Slot) → AreGroups gs bs
    → OnOk r ((new : List (List Slot)) × (all_slots new ≡ with) × (cs ≡ bs ++ new)) → OnErr r (cs ≡ bs) → AreGroups gs cs
put_behind (Ok v) gs bs cs with a n e = subst (AreGroups gs) (sym n.2) (groups_append gs bs n.0 a)
put_behind (Err v) gs bs cs with a n e = subst (AreGroups gs) (sym e) a

-- all groups and what is behind them have all full slots
pub full_in_all : (gs : List Group) (bs : List (List Slot)) (k : ℕ) → k ≡ length gs * 64 → AreGroups gs bs → fulls gs + count_full (all_slots (drop k bs)) ≡ count_full (all_slots bs)
full_in_all gs bs k q a =
    let t : fulls (take (length gs) gs) ≡ fulls gs = ap fulls (take_all (length gs) gs (omega arith)) in
    let b = fulls_before gs bs (length gs) (omega arith) a in
    let z : count_full (all_slots (take k bs)) ≡ count_full (all_slots (take (length gs * 64) bs)) = ap (λ j. count_full (all_slots (take j bs))) q in
    omega (arith, t, b, z, whole-fulls bs k)

pub full_in_short : (gs : List Group) (bs : List (List Slot)) → AreGroups gs bs → fulls gs ≤ length (all_slots bs)
full_in_short gs bs a =
    let e = full_in_all gs bs (length gs * 64) refl a in
    omega (arith, e, count-length (all_slots bs))
