-- Rows in which the cells are counted, in place, that another listing makes.
use Rattle.std.proofs.Common.{◌≡◌, ◌<◌, ◌+◌, ◌^◌, ◌&&◌, ℕ, zero, suc, Bool, true, false, cond, List, [], ◌∷◌, ◌++◌, length, take, drop, map, Option, Some, None, IfSome, MatchOption, refl, sym, ap, ◌∙◌, subst, arith, append_assoc, length-append, slice_get, slice_set, inl, inr}
use Rattle.std.specs.FinMap.Entries.{below_all, is_sorted}
use Rattle.std.specs.List.{AllByRecursion}
use Rattle.std.specs.Option.{option_map_or}
use Rattle.std.specs.Ordering.{is_eq, is_lt}
use Rattle.st_ids.proofs.Listings.{has-item_of, item_of-has}
use Rattle.st_ids.proofs.Orders.{node_cmp_exact, node_cmp_total}
use Rattle.st_ids.specs.Listing.{Has, IsRising, key_pairs}
use Rattle.st_ids.specs.Order.{node_cmp}
use Rattle.st_ids.specs.declared.names.NodeId.{NodeId}
use Rattle.st_marks.specs.declared.marks.RowMarks.{RowMarks}
use Rattle.st_marks.specs.Listings.{cells_before, cells_made, marks_of}
use Rattle.st_marks.specs.Row.{CellMark, Counted, Gap, Touch, Make, Fill, merge, spread}
use Rattle.st_moves.specs.Room.{HasRoomAt}
use Rattle.st_passing.specs.Passing.{raised, raised_beside}
use Rattle.st_passing.specs.Raising.{count_by, with_count, with_count_at, with_counts_by}
use Rattle.st_passing.specs.Whole.{raise_row, raise_row_beside, row_in}
use Rattle.st_passing.proofs.CountsBeside.{counts_beside}
use Rattle.st_passing.proofs.CountsRaised.{counts_raised}
use Rattle.st_passing.proofs.Seats.{count-length}
use Rattle.st_rows.specs.Changes.{may_list}
use Rattle.st_rows.specs.Merged.{IsMerged}
use Rattle.st_fast_path.specs.inside.Counted.{AreCounted, AreCountedTo, HasRoomFor, IsRowCounted, cells_counted}

-- ## Up to a place

some_at : {A : Type 0} (xs : List A) (p : ℕ) → p < length xs → (x : A) × (slice_get xs p ≡ Some x)
some_at [] p h = absurd (omega (arith, h))
some_at (x ∷ xs) zero h = (x, refl)
some_at (x ∷ xs) (suc p) h = some_at xs p (omega (arith, h))

cut_at : {A : Type 0} (xs : List A) (p : ℕ) (x : A) → slice_get xs p ≡ Some x → (drop p xs ≡ x ∷ drop (suc p) xs) × (take (suc p) xs ≡ take p xs ++ x ∷ [])
cut_at [] p x e = cc
cut_at (y ∷ xs) zero x e = let q : y ≡ x = cc in (ap (λ z. z ∷ xs) q, ap (λ z. z ∷ []) q)
cut_at (y ∷ xs) (suc p) x e = let r = cut_at xs p x e in (r.0, ap (λ l. y ∷ l) r.1)

get_behind : {A : Type 0} (front rest : List A) → slice_get (front ++ rest) (length front) ≡ slice_get rest 0
get_behind [] rest = refl
get_behind (x ∷ front) rest = get_behind front rest

put_behind : {A : Type 0} (front rest : List A) (x y : A) → slice_set (front ++ x ∷ rest) (length front) y ≡ front ++ y ∷ rest
put_behind [] rest x y = refl
put_behind (z ∷ front) rest x y = ap (λ l. z ∷ l) (put_behind front rest x y)

first_of : {A : Type 0} (xs : List A) (p : ℕ) (x : A) → slice_get xs p ≡ Some x → slice_get (drop p xs) 0 ≡ Some x
first_of xs p x e = ap (λ l. slice_get l 0) (cut_at xs p x e).0

module _ (b : Bool) (rows : List RowMarks) where
  one_more : (was is : List RowMarks) (r q : RowMarks) → AreCounted b rows was is → IsRowCounted b rows r q → AreCounted b rows (was ++ r ∷ []) (is ++ q ∷ [])
  one_more [] [] r q c h = (h, tt)
  one_more [] (y ∷ is) r q c h = absurd c
  one_more (x ∷ was) [] r q c h = absurd c
  one_more (x ∷ was) (y ∷ is) r q c h = (c.0, one_more was is r q c.1 h)

  -- the row at the place is still the one that was there
  pub still_there : (was is : List RowMarks) (p : ℕ) → AreCountedTo b rows was p is → p < length was → (r : RowMarks) × (slice_get was p ≡ Some r) × (slice_get is p ≡ Some r)
  still_there was is p s h =
      let r = some_at was p h in (
        r.0,
        r.1,
        (λ i. slice_get (s.1 i) (sym s.2 i)) ∙ get_behind s.0 (drop p was) ∙ first_of was p r.0 r.1,
      )

  pub counted_on : (was is new : List RowMarks) (p : ℕ) (r q : RowMarks) → AreCountedTo b rows was p is → slice_get was p ≡ Some r → new ≡ slice_set is p q → IsRowCounted b rows r q → AreCountedTo b rows was (suc p) new
  counted_on was is new p r q s at e c =
      let k = cut_at was p r at in
      let n : length (s.0 ++ q ∷ []) ≡ suc p = omega (arith, length-append s.0 (q ∷ []), s.2) in (
        s.0 ++ q ∷ [],
        e ∙ (λ i. slice_set (s.1 i) (sym s.2 i) q) ∙ ap (λ l. slice_set (s.0 ++ l) (length s.0) q) k.0 ∙ put_behind s.0 (drop (suc p) was) r q ∙ sym (append_assoc s.0 (q ∷ []) (drop (suc p) was)),
        n,
        subst (λ l. AreCounted b rows l (s.0 ++ q ∷ [])) (sym k.1) (one_more (take p was) s.0 r q s.3 c),
      )

  none_yet : (was : List RowMarks) → AreCountedTo b rows was 0 was
  none_yet was = ([], refl, refl, tt)

  take_all : {A : Type 0} (xs : List A) → take (length xs) xs ≡ xs
  take_all [] = refl
  take_all (x ∷ xs) = ap (λ l. x ∷ l) (take_all xs)

  drop_all : {A : Type 0} (xs : List A) → drop (length xs) xs ≡ []
  drop_all [] = refl
  drop_all (x ∷ xs) = drop_all xs

  append_none : {A : Type 0} (xs : List A) → xs ++ [] ≡ xs
  append_none [] = refl
  append_none (x ∷ xs) = ap (λ l. x ∷ l) (append_none xs)

  pub all_counted : (was is : List RowMarks) (p : ℕ) → p ≡ length was → AreCountedTo b rows was p is → AreCounted b rows was is
  all_counted was is p n s =
      let e : is ≡ s.0 = s.1 ∙ (λ i. s.0 ++ drop (n i) was) ∙ ap (λ l. s.0 ++ l) (drop_all was) ∙ append_none s.0 in
      subst (AreCounted b rows was) (sym e) (subst (λ l. AreCounted b rows l s.0) (ap (λ k. take k was) n ∙ take_all was) s.3)

  -- ## By name

  below_same : (k : NodeId) (was is : List RowMarks) → AreCounted b rows was is → below_all node_cmp k (key_pairs (λ (r : RowMarks). r.node) is) ≡ below_all node_cmp k (key_pairs (λ (r : RowMarks). r.node) was)
  below_same k [] [] c = refl
  below_same k [] (q ∷ is) c = absurd c
  below_same k (r ∷ was) [] c = absurd c
  below_same k (r ∷ was) (q ∷ is) c = let rest = below_same k was is c.1 in λ i. is_lt (node_cmp k (c.0.0 i)) && rest i

  sorted_same : (was is : List RowMarks) → AreCounted b rows was is → is_sorted node_cmp (key_pairs (λ (r : RowMarks). r.node) is) ≡ is_sorted node_cmp (key_pairs (λ (r : RowMarks). r.node) was)
  sorted_same [] [] c = refl
  sorted_same [] (q ∷ is) c = absurd c
  sorted_same (r ∷ was) [] c = absurd c
  sorted_same (r ∷ was) (q ∷ is) c =
      let rest = sorted_same was is c.1 in
      let below = ap (λ k. below_all node_cmp k (key_pairs (λ (r : RowMarks). r.node) is)) c.0.0 ∙ below_same r.node was is c.1 in
      λ i. below i && rest i

  pub still_rising : (was is : List RowMarks) → AreCounted b rows was is → IsRising node_cmp (λ (r : RowMarks). r.node) was → IsRising node_cmp (λ (r : RowMarks). r.node) is
  still_rising was is c h = sorted_same was is c ∙ h

  abbrev IsAt : List RowMarks → NodeId → Option RowMarks → Type 0
  IsAt is n o = MatchOption o (row_in is n ≡ None) (λ r. (q : RowMarks) × (row_in is n ≡ Some q) × IsRowCounted b rows r q)

  looked_up : (was is : List RowMarks) (n : NodeId) → AreCounted b rows was is → IsAt is n (row_in was n)
  looked_up [] [] n c = refl
  looked_up [] (q ∷ is) n c = absurd c
  looked_up (r ∷ was) [] n c = absurd c
  looked_up (r ∷ was) (q ∷ is) n c = go (looked_up was is n c.1) (is_eq (node_cmp n r.node)) refl
    where
      first : (h : Bool) → is_eq (node_cmp n r.node) ≡ h → row_in (q ∷ is) n ≡ cond h (Some q) (row_in is n)
      first h e = ap (λ k. cond (is_eq (node_cmp n k)) (Some q) (row_in is n)) c.0.0 ∙ ap (λ w. cond w (Some q) (row_in is n)) e

      on : (o : Option RowMarks) → row_in (q ∷ is) n ≡ row_in is n → IsAt is n o → IsAt (q ∷ is) n o
      on None e i = e ∙ i
      on (Some s) e i = (i.0, e ∙ i.1, i.2)

      go : IsAt is n (row_in was n) → (h : Bool) → is_eq (node_cmp n r.node) ≡ h → IsAt (q ∷ is) n (cond h (Some r) (row_in was n))
      go rest true h = (q, first true h, c.0)
      go rest false h = on (row_in was n) (first false h) rest

-- ## Room

made_one : (b : Bool) (p : ℕ) (xs : List CellMark) → length (cells_made (count_by b p xs)) ≡ length (cells_made xs)
made_one false p xs = behind p xs
  where
    behind : (p : ℕ) (xs : List CellMark) → length (cells_made (with_count p xs)) ≡ length (cells_made xs)
    behind p [] = refl
    behind p (Make c n h ∷ xs) = ap suc (behind p xs)
    behind zero (Counted ∷ xs) = refl
    behind zero (Gap c ∷ xs) = refl
    behind zero (Touch c n h ∷ xs) = refl
    behind zero (Fill c n ∷ xs) = refl
    behind (suc p) (Counted ∷ xs) = behind p xs
    behind (suc p) (Gap c ∷ xs) = behind p xs
    behind (suc p) (Touch c n h ∷ xs) = behind p xs
    behind (suc p) (Fill c n ∷ xs) = behind p xs
made_one true p xs = among p xs
  where
    among : (p : ℕ) (xs : List CellMark) → length (cells_made (with_count_at p xs)) ≡ length (cells_made xs)
    among zero xs = refl
    among (suc p) [] = refl
    among (suc p) (Counted ∷ xs) = among p xs
    among (suc p) (Gap c ∷ xs) = among p xs
    among (suc p) (Touch c n h ∷ xs) = among p xs
    among (suc p) (Make c n h ∷ xs) = ap suc (among p xs)
    among (suc p) (Fill c n ∷ xs) = among p xs

made_all : (b : Bool) (p : ℕ) (zs ys : List CellMark) → length (cells_made (with_counts_by b p zs ys)) ≡ length (cells_made zs)
made_all b p zs [] = refl
made_all b p zs (Counted ∷ ys) = made_all b (suc p) zs ys
made_all b p zs (Gap c ∷ ys) = made_all b (suc p) zs ys
made_all b p zs (Touch c n h ∷ ys) = made_all b (suc p) zs ys
made_all b p zs (Make c n h ∷ ys) = made_all b (suc p) (count_by b p zs) ys ∙ made_one b p zs
made_all b p zs (Fill c n ∷ ys) = made_all b (suc p) zs ys

long_all : (b : Bool) (p : ℕ) (zs ys : List CellMark) → length (with_counts_by b p zs ys) ≡ length zs + length (cells_made ys)
long_all b p zs [] = omega arith
long_all b p zs (Counted ∷ ys) = long_all b (suc p) zs ys
long_all b p zs (Gap c ∷ ys) = long_all b (suc p) zs ys
long_all b p zs (Touch c n h ∷ ys) = long_all b (suc p) zs ys
long_all b p zs (Make c n h ∷ ys) = omega (arith, long_all b (suc p) (count_by b p zs) ys, count-length b p zs)
long_all b p zs (Fill c n ∷ ys) = long_all b (suc p) zs ys

two_parts : (xs : List CellMark) → length xs ≡ length (cells_made xs) + length (cells_before xs)
two_parts [] = refl
two_parts (Counted ∷ xs) = omega (arith, two_parts xs)
two_parts (Gap c ∷ xs) = omega (arith, two_parts xs)
two_parts (Touch c n h ∷ xs) = omega (arith, two_parts xs)
two_parts (Make c n h ∷ xs) = omega (arith, two_parts xs)
two_parts (Fill c n ∷ xs) = omega (arith, two_parts xs)

-- of two listings of one row
room_of : (xs ys : List CellMark) → may_list xs ys < 2 ^ 32 → may_list ys xs < 2 ^ 32 → (length xs + length (cells_made ys) < 2 ^ 32) × (length ys < 2 ^ 32)
room_of xs ys a b = (omega (arith, two_parts xs, two_parts ys, a, b), omega (arith, two_parts xs, two_parts ys, a, b))

all_by : {A : Type 0} {P : A → Type 0} (xs : List A) → ((x : A) → Has xs x → P x) → AllByRecursion P xs
all_by [] h = tt
all_by (x ∷ xs) h = (h x (inl refl), all_by xs (λ y w. h y (inr w)))

pub all_get : {A : Type 0} (P : A → Type 0) (xs : List A) (p : ℕ) → AllByRecursion P xs → IfSome (slice_get xs p) P
all_get P [] p h = tt
all_get P (x ∷ xs) zero h = h.0
all_get P (x ∷ xs) (suc p) h = all_get P xs p h.1

row_at : (rows : List RowMarks) (r : RowMarks) → IsRising node_cmp (λ (q : RowMarks). q.node) rows → Has rows r → row_in rows r.node ≡ Some r
row_at rows r rising h = has-item_of node_cmp node_cmp_total node_cmp_exact (λ (q : RowMarks). q.node) rows r rising h

marks_at : (rows : List RowMarks) (n : NodeId) (o : Option RowMarks) → row_in rows n ≡ o → marks_of rows n ≡ option_map_or (λ (q : RowMarks). spread q.marks) o []
marks_at rows n o e = ap (λ w. option_map_or (λ (q : RowMarks). spread q.marks) w []) e

module _ (cs ss : List RowMarks) (change_rises : IsRising node_cmp (λ (q : RowMarks). q.node) cs) (step_rises : IsRising node_cmp (λ (q : RowMarks). q.node) ss) (room : (n : NodeId) → HasRoomAt cs ss n) where
  pub room_in_change : AllByRecursion (HasRoomFor ss) cs
  room_in_change = all_by cs (λ r h.
      let e = marks_at cs r.node (Some r) (row_at cs r change_rises h) in
      subst (λ xs. (length xs + length (cells_made (marks_of ss r.node)) < 2 ^ 32) × (length (marks_of ss r.node) < 2 ^ 32)) e (room_of (marks_of cs r.node) (marks_of ss r.node) (room r.node).0 (room r.node).1))

  -- and in the step's rows, once the change's count what the step makes
  module _ (is : List RowMarks) (counted : AreCounted false ss cs is) where
    step_row : (s : RowMarks) → Has ss s → HasRoomFor is s
    step_row s h = go (row_in cs s.node) refl (looked_up false ss cs is s.node counted)
      where
        there : marks_of ss s.node ≡ spread s.marks
        there = marks_at ss s.node (Some s) (row_at ss s step_rises h)

        go : (o : Option RowMarks) → row_in cs s.node ≡ o → IsAt false ss is s.node o → HasRoomFor is s
        go None e i =
            let none = marks_at is s.node None i in
            let small = room_of (marks_of ss s.node) (marks_of cs s.node) (room s.node).1 (room s.node).0 in
            let short : length (spread s.marks) < 2 ^ 32 = omega (arith, small.0, ap length there) in
            subst (λ xs. (length (spread s.marks) + length (cells_made xs) < 2 ^ 32) × (length xs < 2 ^ 32)) (sym none) (omega (arith, short), omega (arith, short))
        go (Some r) e i =
            let named : r.node ≡ s.node = (item_of-has node_cmp node_cmp_total node_cmp_exact (λ (q : RowMarks). q.node) cs s.node r e).1 in
            let xs : marks_of cs s.node ≡ spread r.marks = marks_at cs s.node (Some r) e in
            let cells : marks_of is s.node ≡ with_counts_by false 0 (spread r.marks) (spread s.marks) = marks_at is s.node (Some i.0) i.1 ∙ i.2.1 ∙ ap (with_counts_by false 0 (spread r.marks)) (ap (marks_of ss) named ∙ there) in
            let small = room_of (marks_of ss s.node) (marks_of cs s.node) (room s.node).1 (room s.node).0 in
            let large = room_of (marks_of cs s.node) (marks_of ss s.node) (room s.node).0 (room s.node).1 in
            let made = made_all false 0 (spread r.marks) (spread s.marks) in
            let long = long_all false 0 (spread r.marks) (spread s.marks) in
            subst (λ zs. (length (spread s.marks) + length (cells_made zs) < 2 ^ 32) × (length zs < 2 ^ 32)) (sym cells) (
              omega (arith, small.0, made, ap length there, ap (λ l. length (cells_made l)) xs),
              omega (arith, large.0, long, ap length xs, ap (λ l. length (cells_made l)) there),
            )

    pub room_in_step : AllByRecursion (HasRoomFor is) ss
    room_in_step = all_by ss step_row

-- ## What they are

merged_so : (r q : RowMarks) (xs : List CellMark) → q.node ≡ r.node → spread q.marks ≡ xs → IsMerged q.marks → q ≡ record { node = r.node; marks = merge xs }
merged_so r q xs n e m = λ i. record { node = n i; marks = (sym m ∙ ap merge e) i }

module _ (ss : List RowMarks) where
  pub are_raised : (cs is : List RowMarks) → AreCounted false ss cs is → ((r : RowMarks) → Has cs r → IsMerged r.marks)
      → ((r s : RowMarks) → Has cs r → row_in ss r.node ≡ Some s → length (cells_before (spread r.marks)) ≡ length (cells_before (spread s.marks)))
      → is ≡ map (raise_row ss) cs
  are_raised [] [] c m a = refl
  are_raised [] (q ∷ is) c m a = absurd c
  are_raised (r ∷ cs) [] c m a = absurd c
  are_raised (r ∷ cs) (q ∷ is) c m a = λ i. first i ∷ are_raised cs is c.1 (λ r h. m r (inr h)) (λ r s h. a r s (inr h)) i
    where
      is_merged : IsMerged r.marks
      is_merged = m r (inl refl)

      go : (o : Option RowMarks) → row_in ss r.node ≡ o → merge (with_counts_by false 0 (spread r.marks) (option_map_or (λ (s : RowMarks). spread s.marks) o [])) ≡ option_map_or (λ (s : RowMarks). merge (raised (spread r.marks) (spread s.marks))) o r.marks
      go None e = is_merged
      go (Some s) e = ap merge (counts_raised (spread r.marks) (spread s.marks) (a r s (inl refl) e))

      first : q ≡ raise_row ss r
      first = merged_so r q (cells_counted false ss r) c.0.0 c.0.1 (c.0.2 is_merged) ∙ (λ i. record { node = r.node; marks = go (row_in ss r.node) refl i })

module _ (cs ss : List RowMarks) (step_rises : IsRising node_cmp (λ (q : RowMarks). q.node) ss) (is : List RowMarks) (counted : AreCounted false ss cs is)
    (alike : (r s : RowMarks) → Has cs r → row_in ss r.node ≡ Some s → length (cells_before (spread r.marks)) ≡ length (cells_before (spread s.marks))) where
  one_beside : (s q : RowMarks) → Has ss s → IsMerged s.marks → IsRowCounted true is s q → q ≡ raise_row_beside cs s
  one_beside s q h m c =
      merged_so s q (cells_counted true is s) c.0 c.1 (c.2 m) ∙ (λ i. record { node = s.node; marks = go (row_in cs s.node) refl (looked_up false ss cs is s.node counted) i })
    where
      go : (o : Option RowMarks) → row_in cs s.node ≡ o → IsAt false ss is s.node o → merge (cells_counted true is s) ≡ option_map_or (λ (r : RowMarks). merge (raised_beside (spread r.marks) (spread s.marks))) o s.marks
      go None e i = ap (λ l. merge (with_counts_by true 0 (spread s.marks) l)) (marks_at is s.node None i) ∙ m
      go (Some r) e i =
          let found = item_of-has node_cmp node_cmp_total node_cmp_exact (λ (q : RowMarks). q.node) cs s.node r e in
          let there : row_in ss r.node ≡ Some s = ap (row_in ss) found.1 ∙ row_at ss s step_rises h in
          let same = alike r s found.0 there in
          let cells : marks_of is s.node ≡ raised (spread r.marks) (spread s.marks)
          = marks_at is s.node (Some i.0) i.1 ∙ i.2.1 ∙ ap (with_counts_by false 0 (spread r.marks)) (marks_at ss r.node (Some s) there) ∙ counts_raised (spread r.marks) (spread s.marks) same in
          ap merge (ap (with_counts_by true 0 (spread s.marks)) cells ∙ counts_beside (spread r.marks) (spread s.marks) same)

  pub are_beside : (qs us : List RowMarks) → ((s : RowMarks) → Has qs s → Has ss s) → ((s : RowMarks) → Has qs s → IsMerged s.marks) → AreCounted true is qs us → us ≡ map (raise_row_beside cs) qs
  are_beside [] [] w m c = refl
  are_beside [] (u ∷ us) w m c = absurd c
  are_beside (s ∷ qs) [] w m c = absurd c
  are_beside (s ∷ qs) (u ∷ us) w m c = λ i. one_beside s u (w s (inl refl)) (m s (inl refl)) c.0 i ∷ are_beside qs us (λ s h. w s (inr h)) (λ s h. m s (inr h)) c.1 i
