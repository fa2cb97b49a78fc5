-- Ways through a document, and through the same with some nodes taken away.
use Rattle.std.proofs.Common.{◌≡◌, ◌≢◌, ℕ, zero, suc, ◌+◌, ◌-◌, ◌==◌, ◌≤◌, ◌<◌, ◌&&◌, max, nat_le, Bool, true, false, cond, List, [], ◌∷◌, ◌++◌, take, drop, length, take-append-drop, drop-drop, length-take-le, Option, Some, None, slice_get, Ok, refl, sym, ap, ◌∙◌, subst, arith, inl, inr}
use Rattle.std.proofs.lemmas.Bool.{cases_lt}
use Rattle.std.proofs.lemmas.Bool.Decides.{nat_tests}
use Rattle.st_ids.specs.Listing.{Has, AreDistinct}
use Rattle.st_ids.specs.declared.names.FieldId.{FieldId}
use Rattle.st_ids.specs.declared.names.NodeId.{NodeId}
use Rattle.st_ids.specs.declared.names.Place.{Place}
use Rattle.st_tree.specs.declared.edit.EditFault.TheVariants.{NoNode}
use Rattle.st_marks.specs.declared.places.Spot.{Spot}
use Rattle.st_marks.specs.Document.{Document, IsSoundInForm, above, content}
use Rattle.st_marks.specs.LiveTree.{owners_shown, register}
use Rattle.st_marks.proofs.Members.{all-has}
use Rattle.st_edits.specs.Paths.{child, or_refuse, walk_from}
use Rattle.st_ids.specs.Or.{and_then}
use Rattle.st_edits.proofs.Fits.{passed, or_refuse-Ok}
use Rattle.st_schema_laws.specs.Alike.{IsFrom}
use Rattle.st_schema_laws.specs.Edited.{same_key, is_row_key}
use Rattle.st_schema_laws.specs.Moved.{index_after, path_after, place_after, same_path, same_place}
use Rattle.st_schema_laws.proofs.Along.{child_up, live_at, owner_at, owners_once, same_key-true, same_key-itself}
use Rattle.st_schema_laws.proofs.Beneath.{from_child, in_row as stands_in_row, not_beneath, one_child}
use Rattle.st_schema_laws.proofs.Parted.{parted, unless_among}
use Rattle.st_schema_laws.proofs.Rows.{not-among}
use Rattle.st_lemmas.proofs.Lists.{length-zero}
use Rattle.st_lemmas.proofs.Bools.{and-true, true-false}
use Rattle.st_ids.proofs.Shared.{at_has}

-- ## A child, by its place

abbrev child_by : Document → NodeId → Place → Bool → Option NodeId
child_by D n p b = cond b (slice_get (owners_shown (content D n)) p.index) (cond (p.index == 0) (D.held (register n p.key.0)) None)

child_is : (D : Document) (n : NodeId) (p : Place) → child D n p ≡ child_by D n p (is_row_key p.key)
child_is D n p = ap (λ o. cond (is_row_key p.key) o (cond (p.index == 0) (D.held (register n p.key.0)) None)) (sym (owner_at D n p.index))

zero_index : (i : ℕ) (o : Option NodeId) (x : NodeId) → cond (i == 0) o None ≡ Some x → (i ≡ 0) × (o ≡ Some x)
zero_index i o x e = go (i == 0) refl e
  where
    go : (b : Bool) → (i == 0) ≡ b → cond b o None ≡ Some x → (i ≡ 0) × (o ≡ Some x)
    go true q f = (let is : i ≡ 0 = grind (arith, nat_tests) in is, f)
    go false q f = cc

equal_index : (i j : ℕ) → i ≡ j → (i == j) ≡ true
equal_index i j e = go (i == j) refl
  where
    go : (b : Bool) → (i == j) ≡ b → (i == j) ≡ true
    go true q = q
    go false q = let bad : i ≢ j = grind (arith, nat_tests) in absurd (bad e)

-- one node stands at one index
one_index : (xs : List NodeId) (i j : ℕ) (x : NodeId) → AreDistinct (λ (y : NodeId). y) xs → slice_get xs i ≡ Some x → slice_get xs j ≡ Some x → i ≡ j
one_index [] i j x once e f = cc
one_index (y ∷ xs) zero zero x once e f = refl
one_index (y ∷ xs) zero (suc j) x once e f = let same : y ≡ x = cc in absurd (all-has (λ z. z ≢ y) xs x once.0 (at_has xs j x f) (sym same))
one_index (y ∷ xs) (suc i) zero x once e f = let same : y ≡ x = cc in absurd (all-has (λ z. z ≢ y) xs x once.0 (at_has xs i x e) (sym same))
one_index (y ∷ xs) (suc i) (suc j) x once e f = ap suc (one_index xs i j x once.1 e f)

-- places that lead to one node are one
pub one_place : (D : Document) → IsSoundInForm D → (n x : NodeId) (p q : Place) → child D n p ≡ Some x → child D n q ≡ Some x → same_place p q ≡ true
one_place D sound n x p q e f = go (is_row_key p.key) refl (is_row_key q.key) refl (sym (child_is D n p) ∙ e) (sym (child_is D n q) ∙ f)
  where
    both_same : p.key.0 ≡ q.key.0 → p.index ≡ q.index → same_place p q ≡ true
    both_same k i = (λ t. (ap (same_key p.key.0) (sym k) ∙ same_key-itself p.key.0) t && equal_index p.index q.index i t)

    row_or_register : (k : List ℕ) → Has (owners_shown (content D n)) x → D.held (register n k) ≡ Some x → ⊥
    row_or_register k h g =
        let b = stands_in_row D sound n x h in
        let bad : Spot.Row n b.0 ≡ Spot.Register (register n k) = sym b.1 ∙ (sound.one_held x (register n k)).0 g in cc

    go : (a : Bool) → is_row_key p.key ≡ a → (b : Bool) → is_row_key q.key ≡ b → child_by D n p a ≡ Some x → child_by D n q b ≡ Some x → same_place p q ≡ true
    go true a true b g h = both_same (length-zero p.key.0 a ∙ sym (length-zero q.key.0 b)) (one_index (owners_shown (content D n)) p.index q.index x (owners_once D n sound) g h)
    go true a false b g h = absurd (row_or_register q.key.0 (at_has (owners_shown (content D n)) p.index x g) (zero_index q.index (D.held (register n q.key.0)) x h).1)
    go false a true b g h = absurd (row_or_register p.key.0 (at_has (owners_shown (content D n)) q.index x h) (zero_index p.index (D.held (register n p.key.0)) x g).1)
    go false a false b g h =
        let u = zero_index p.index (D.held (register n p.key.0)) x g in
        let v = zero_index q.index (D.held (register n q.key.0)) x h in
        let place : Spot.Register (register n p.key.0) ≡ Spot.Register (register n q.key.0) = sym ((sound.one_held x (register n p.key.0)).0 u.1) ∙ (sound.one_held x (register n q.key.0)).0 v.1 in
        let fields : register n p.key.0 ≡ register n q.key.0 = cc in
        both_same (ap (λ (g : FieldId). g.key.0) fields) (u.0 ∙ sym v.0)

place_same : (p q : Place) → same_place p q ≡ true → p ≡ q
place_same p q e =
    let b = and-true (same_key p.key.0 q.key.0) (p.index == q.index) e in
    let key = same_key-true p.key.0 q.key.0 b.0 in
    let test = b.1 in
    let index : p.index ≡ q.index = grind (arith, nat_tests) in
    λ i. record { key = record { 0 = key i }; index = index i }

-- ## Paths are one where they lead to one node

module _ (D : Document) (sound : IsSoundInForm D) where
  step : (k : ℕ) (n m : NodeId) (p : Place) (ps : List Place) → walk_from D k n (p ∷ ps) ≡ Ok m → (x : NodeId) × (child D n p ≡ Some x) × (walk_from D (k + 1) x ps ≡ Ok m)
  step k n m p ps e = let x = passed (or_refuse (child D n p) (NoNode k)) (λ x. walk_from D (k + 1) x ps) m e in (x.0, or_refuse-Ok (child D n p) (NoNode k) x.0 x.1, x.2)

  -- a way of some steps leads further down
  not_back : (k : ℕ) (n : NodeId) (p : Place) (ps : List Place) → walk_from D k n (p ∷ ps) ≡ Ok n → ⊥
  not_back k n p ps e = let x = step k n n p ps e in not_beneath D sound n x.0 (child_up D sound n x.0 p x.1) (live_at D sound ps (k + 1) x.0 n x.2)

  pub one_path : (k : ℕ) (n m : NodeId) (ps qs : List Place) → walk_from D k n ps ≡ Ok m → walk_from D k n qs ≡ Ok m → same_path ps qs ≡ true
  one_path k n m [] [] e f = refl
  one_path k n m [] (q ∷ qs) e f = let same : n ≡ m = cc in absurd (not_back k n q qs (f ∙ ap (λ x. Ok x) (sym same)))
  one_path k n m (p ∷ ps) [] e f = let same : n ≡ m = cc in absurd (not_back k n p ps (e ∙ ap (λ x. Ok x) (sym same)))
  one_path k n m (p ∷ ps) (q ∷ qs) e f =
      let x = step k n m p ps e in
      let y = step k n m q qs f in
      let same = one_child D sound n x.0 y.0 m (child_up D sound n x.0 p x.1) (child_up D sound n y.0 q y.1) (live_at D sound ps (k + 1) x.0 m x.2) (live_at D sound qs (k + 1) y.0 m y.2) in
      let rest = one_path (k + 1) x.0 m ps qs x.2 (ap (λ z. walk_from D (k + 1) z qs) same ∙ y.2) in
      let here = one_place D sound n x.0 p q x.1 (y.1 ∙ ap (λ z. Some z) (sym same)) in
      (λ i. here i && rest i)

  pub path_same : (ps qs : List Place) → same_path ps qs ≡ true → ps ≡ qs
  path_same [] [] e = refl
  path_same [] (q ∷ qs) e = cc
  path_same (p ∷ ps) [] e = cc
  path_same (p ∷ ps) (q ∷ qs) e = let b = and-true (same_place p q) (same_path ps qs) e in (λ i. place_same p q b.0 i ∷ path_same ps qs b.1 i)

-- ## An item behind a part that was taken

get_within : {A : Type 0} (i : ℕ) (xs ys : List A) → i < length xs → slice_get (xs ++ ys) i ≡ slice_get xs i
get_within i [] ys less = absurd (omega arith)
get_within zero (x ∷ xs) ys less = refl
get_within (suc i) (x ∷ xs) ys less = get_within i xs ys (omega arith)

get_past : {A : Type 0} (i j : ℕ) (xs ys : List A) → i ≡ length xs + j → slice_get (xs ++ ys) i ≡ slice_get ys j
get_past i j [] ys e = let q : i ≡ j = omega (arith, e) in ap (slice_get ys) q
get_past zero j (x ∷ xs) ys e = absurd (omega (arith, e))
get_past (suc i) j (x ∷ xs) ys e = get_past i j xs ys (omega (arith, e))

get_after : (a b c : List NodeId) (i : ℕ) (x : NodeId) → (Has b x → ⊥) → slice_get (a ++ (b ++ c)) i ≡ Some x → slice_get (a ++ c) (index_after (length a) (length b) i) ≡ Some x
get_after a b c i x out e = elim (cases_lt i (length a)) [ inl less ↦ front less | inr past ↦ elim (cases_lt i (length a + length b)) [ inl less ↦ absurd (taken past less) | inr far ↦ back far ] ]
  where
    taken : length a ≤ i → i < length a + length b → ⊥
    taken past less =
        out (at_has b (i - length a) x (sym (get_past i (i - length a) a (b ++ c) (omega arith) ∙ get_within (i - length a) b c (omega arith)) ∙ e))

    index_is : (j : ℕ) → ((t : Bool) → nat_le i (length a) ≡ t → cond t i (max (length a) (i - length b)) ≡ j) → index_after (length a) (length b) i ≡ j
    index_is j h = h (nat_le i (length a)) refl

    front : i < length a → slice_get (a ++ c) (index_after (length a) (length b) i) ≡ Some x
    front less = ap (slice_get (a ++ c)) (index_is i is) ∙ get_within i a c less ∙ sym (get_within i a (b ++ c) less) ∙ e
      where
        is : (t : Bool) → nat_le i (length a) ≡ t → cond t i (max (length a) (i - length b)) ≡ i
        is true q = refl
        is false q = let more : length a < i = grind (arith, nat_tests) in absurd (omega arith)

    back : length a + length b ≤ i → slice_get (a ++ c) (index_after (length a) (length b) i) ≡ Some x
    back far =
        ap (slice_get (a ++ c)) (index_is (length a + (i - (length a + length b))) is) ∙ get_past (length a + (i - (length a + length b))) (i - (length a + length b)) a c refl
        ∙ sym (get_past i (length b + (i - (length a + length b))) a (b ++ c) (omega arith) ∙ get_past (length b + (i - (length a + length b))) (i - (length a + length b)) b c refl) ∙ e
      where
        is : (t : Bool) → nat_le i (length a) ≡ t → cond t i (max (length a) (i - length b)) ≡ length a + (i - (length a + length b))
        is true q = let le : i ≤ length a = grind (arith, nat_tests) in omega arith
        is false q = let more : length a < i = grind (arith, nat_tests) in omega arith

-- ## Ways to a node that isn't taken away

module _ (D : Document) (ns : List NodeId) (sound : IsSoundInForm D) (m : NodeId) (clear_way : (z : NodeId) → IsFrom D z m → Has ns z → ⊥) where
  abbrev F : Document
  F = parted D ns

  register_kept : (f : FieldId) (x : NodeId) → (Has ns x → ⊥) → D.held f ≡ Some x → F.held f ≡ Some x
  register_kept f x out e = ap (unless_among ns) e ∙ ap (λ b. cond b None (Some x)) (not-among ns x out)

  -- the child in a row that stays
  child_stays : (n x : NodeId) (p : Place) → (Has ns x → ⊥) → owners_shown (content F n) ≡ owners_shown (content D n) → child D n p ≡ Some x → child F n p ≡ Some x
  child_stays n x p out row e = child_is F n p ∙ go (is_row_key p.key) (sym (child_is D n p) ∙ e)
    where
      go : (b : Bool) → child_by D n p b ≡ Some x → child_by F n p b ≡ Some x
      go true f = ap (λ os. slice_get os p.index) row ∙ f
      go false f =
          let u = zero_index p.index (D.held (register n p.key.0)) x f in
          ap (λ i. cond (i == 0) (F.held (register n p.key.0)) None) u.0 ∙ register_kept (register n p.key.0) x out u.1

  onward : (k : ℕ) (n x : NodeId) (p : Place) (ps : List Place) → child F n p ≡ Some x → walk_from F (k + 1) x ps ≡ Ok m → walk_from F k n (p ∷ ps) ≡ Ok m
  onward k n x p ps e rest = ap (λ o. and_then (or_refuse o (NoNode k)) (λ y. walk_from F (k + 1) y ps)) e ∙ rest

  -- through rows that stay
  pub walks : (Stays : NodeId → Type 0) → ((n x : NodeId) → Stays n → above D x ≡ Some n → Stays x) → ((n : NodeId) → Stays n → owners_shown (content F n) ≡ owners_shown (content D n))
      → (k : ℕ) (n : NodeId) (ps : List Place) → Stays n → walk_from D k n ps ≡ Ok m → walk_from F k n ps ≡ Ok m
  walks Stays down row k n [] here e = e
  walks Stays down row k n (p ∷ ps) here e =
      let x = step D sound k n m p ps e in
      onward k n x.0 p ps (child_stays n x.0 p (clear_way x.0 (live_at D sound ps (k + 1) x.0 m x.2)) (row n here) x.1)
      (walks Stays down row (k + 1) x.0 ps (down n x.0 here (child_up D sound n x.0 p x.1)) x.2)

  -- past a row from which items were taken
  module _ (n : NodeId) (index count : ℕ) (in_range : index + count ≤ length (owners_shown (content D n))) (taken : ns ≡ take count (drop index (owners_shown (content D n))))
      (row_left : owners_shown (content F n) ≡ take index (owners_shown (content D n)) ++ drop (index + count) (owners_shown (content D n)))
      (row_stays : (x : NodeId) → x ≢ n → owners_shown (content F x) ≡ owners_shown (content D x)) where
    abbrev xs : List NodeId
    xs = owners_shown (content D n)

    away : (k : ℕ) (x : NodeId) (ps : List Place) → (IsFrom D x n → ⊥) → walk_from D k x ps ≡ Ok m → walk_from F k x ps ≡ Ok m
    away = walks (λ x. IsFrom D x n → ⊥) (λ y x out up w. out (from_child D sound y x n up w)) (λ x out. row_stays x (λ same. out (0, ap (λ z. Some z) (sym same))))

    item_after : (i : ℕ) (x : NodeId) → (Has ns x → ⊥) → slice_get xs i ≡ Some x → slice_get (owners_shown (content F n)) (index_after index count i) ≡ Some x
    item_after i x out e =
        ap (λ os. slice_get os (index_after index count i)) (row_left ∙ ap (λ ys. take index xs ++ ys) (sym (drop-drop count index xs)))
        ∙ (λ t. slice_get (take index xs ++ drop count (drop index xs)) (index_after (sym left_length t) (sym middle_length t) i))
        ∙ get_after (take index xs) (take count (drop index xs)) (drop count (drop index xs)) i x (λ h. out (subst (λ l. Has l x) (sym taken) h)) (ap (λ l. slice_get l i) parts ∙ e)
      where
        parts : take index xs ++ (take count (drop index xs) ++ drop count (drop index xs)) ≡ xs
        parts = ap (λ ys. take index xs ++ ys) (take-append-drop count (drop index xs)) ∙ take-append-drop index xs

        left_length : length (take index xs) ≡ index
        left_length = length-take-le index xs (omega arith)

        middle_length : length (take count (drop index xs)) ≡ count
        middle_length = length-take-le count (drop index xs) (let l = Rattle.std.proofs.Common.length-drop index xs in omega (arith, l))

    child_after : (x : NodeId) (p : Place) → (Has ns x → ⊥) → child D n p ≡ Some x → child F n (place_after index count p) ≡ Some x
    child_after x p out e = go (is_row_key p.key) refl (sym (child_is D n p) ∙ e)
      where
        go : (b : Bool) → is_row_key p.key ≡ b → child_by D n p b ≡ Some x → child F n (cond b (record { key = p.key; index = index_after index count p.index }) p) ≡ Some x
        go true q f =
            child_is F n (record { key = p.key; index = index_after index count p.index }) ∙ ap (child_by F n (record { key = p.key; index = index_after index count p.index })) q ∙ item_after p.index x out f
        go false q f =
            let u = zero_index p.index (D.held (register n p.key.0)) x f in
            child_is F n p ∙ ap (child_by F n p) q ∙ ap (λ i. cond (i == 0) (F.held (register n p.key.0)) None) u.0 ∙ register_kept (register n p.key.0) x out u.1

    pub walks_after : (k : ℕ) (y : NodeId) (at to : List Place) → walk_from D k y at ≡ Ok n → walk_from D k y to ≡ Ok m → walk_from F k y (path_after at index count to) ≡ Ok m
    walks_after k y [] [] e f = f
    walks_after k y (q ∷ qs) [] e f = f
    walks_after k y [] (p ∷ ps) e f =
        let same : y ≡ n = cc in
        let x = step D sound k y m p ps f in
        let up : above D x.0 ≡ Some n = child_up D sound y x.0 p x.1 ∙ ap (λ z. Some z) same in
        onward k y x.0 (place_after index count p) ps
        (subst (λ z. child F z (place_after index count p) ≡ Some x.0) (sym same) (child_after x.0 p (clear_way x.0 (live_at D sound ps (k + 1) x.0 m x.2)) (ap (λ z. child D z p) (sym same) ∙ x.1)))
        (away (k + 1) x.0 ps (not_beneath D sound n x.0 up) x.2)
    walks_after k y (q ∷ qs) (p ∷ ps) e f =
        let z = step D sound k y n q qs e in
        let x = step D sound k y m p ps f in
        let up : above D z.0 ≡ Some y = child_up D sound y z.0 q z.1 in
        let low = live_at D sound qs (k + 1) z.0 n z.2 in
        let other : y ≢ n = (λ same. not_beneath D sound y z.0 up (subst (IsFrom D z.0) (sym same) low)) in
        onward k y x.0 p (cond (same_place q p) (path_after qs index count ps) ps) (child_stays y x.0 p (clear_way x.0 (live_at D sound ps (k + 1) x.0 m x.2)) (row_stays y other) x.1)
        (go (same_place q p) refl z x up low (λ g h. walks_after (k + 1) x.0 qs ps g h))
      where
        go : (b : Bool) → same_place q p ≡ b → (z : (z : NodeId) × (child D y q ≡ Some z) × (walk_from D (k + 1) z qs ≡ Ok n)) → (x : (x : NodeId) × (child D y p ≡ Some x) × (walk_from D (k + 1) x ps ≡ Ok m))
            → above D z.0 ≡ Some y → IsFrom D z.0 n → (walk_from D (k + 1) x.0 qs ≡ Ok n → walk_from D (k + 1) x.0 ps ≡ Ok m → walk_from F (k + 1) x.0 (path_after qs index count ps) ≡ Ok m)
            → walk_from F (k + 1) x.0 (cond b (path_after qs index count ps) ps) ≡ Ok m
        go true t z x up low rest =
            let both : Some z.0 ≡ Some x.0 = sym z.1 ∙ ap (child D y) (place_same q p t) ∙ x.1 in
            let same : z.0 ≡ x.0 = cc in
            rest (ap (λ w. walk_from D (k + 1) w qs) (sym same) ∙ z.2) x.2
        go false t z x up low rest =
            away (k + 1) x.0 ps
            (λ w. (let same = one_child D sound y z.0 x.0 n up (child_up D sound y x.0 p x.1) low w in
            true-false (one_place D sound y z.0 q p z.1 (x.1 ∙ ap (λ v. Some v) (sym same))) t)) x.2
