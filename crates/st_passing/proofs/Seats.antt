-- Where a cell is counted in a list of marks.
use Rattle.std.proofs.Common.{Some, slice_get, ◌≡◌, ◌<◌, ◌≤◌, ℕ, zero, suc, ◌+◌, ◌-◌, ◌||◌, Bool, true, false, List, [], ◌∷◌, ◌++◌, refl, sym, ap, ◌∙◌, arith, length, take, drop, get_or, subst, append_assoc, length-append, insert, slice_set}
use Rattle.st_ids.specs.declared.names.CellId.{CellId}
use Rattle.st_ids.specs.declared.names.NodeId.{NodeId}
use Rattle.st_marks.proofs.MarkLengths.{spread-append}
use Rattle.st_marks.specs.declared.marks.How.{How}
use Rattle.st_marks.specs.declared.marks.Mark.{Mark}
use Rattle.st_marks.specs.Row.{CellMark, Counted, Gap, Touch, Make, Fill, counted_cells, spread}
use Rattle.st_rows.specs.Merged.{begins_with_skip}
use Rattle.st_rows.proofs.MergedMarks.{length-counted}
use Rattle.st_passing.specs.declared.raise.Go.{Go}
use Rattle.st_passing.specs.declared.raise.Seat.{Seat}
use Rattle.st_marks.specs.Listings.{cells_made}
use Rattle.st_passing.specs.Raising.{IsGo, IsSearched, IsSeat, count_by, count_or_none, ends_count, last_counts, past, with_count, with_count_at, with_counts_by}

-- ## The first of some marks

take_all : {A : Type 0} (xs : List A) → take (length xs) xs ≡ xs
take_all [] = refl
take_all (x ∷ xs) = ap (λ l. x ∷ l) (take_all xs)

pub split : (ms : List Mark) (m : Mark) → 1 ≤ length ms → get_or ms 0 (Mark.Skip 0) ≡ m → ms ≡ m ∷ take (length ms - 1) (drop 1 ms)
split [] m h e = absurd (omega (arith, h))
split (x ∷ xs) m h e =
    let n : length (x ∷ xs) - 1 ≡ length xs = omega arith in
    (λ i. e i ∷ xs) ∙ ap (λ l. m ∷ l) (sym (ap (λ k. take k xs) n ∙ take_all xs))

-- ## Behind some cells

pub counted-append : (k : ℕ) (xs : List CellMark) → counted_cells k [] ++ xs ≡ counted_cells k xs
counted-append zero xs = refl
counted-append (suc k) xs = ap (λ l. Counted ∷ l) (counted-append k xs)

pub counted-before : (k : ℕ) (xs : List CellMark) → counted_cells k (Counted ∷ xs) ≡ counted_cells (suc k) xs
counted-before zero xs = refl
counted-before (suc k) xs = ap (λ l. Counted ∷ l) (counted-before k xs)

behind_within : (left k : ℕ) (xs : List CellMark) → left < k → counted_cells (suc k) xs ≡ with_count left (counted_cells k xs)
behind_within zero zero xs h = absurd (omega (arith, h))
behind_within zero (suc k) xs h = refl
behind_within (suc j) zero xs h = absurd (omega (arith, h))
behind_within (suc j) (suc k) xs h = ap (λ l. Counted ∷ l) (behind_within j k xs (omega (arith, h)))

among_within : (left k : ℕ) (xs : List CellMark) → left ≤ k → counted_cells (suc k) xs ≡ with_count_at left (counted_cells k xs)
among_within zero k xs h = refl
among_within (suc j) zero xs h = absurd (omega (arith, h))
among_within (suc j) (suc k) xs h = ap (λ l. Counted ∷ l) (among_within j k xs (omega (arith, h)))

pub within : (b : Bool) (left k : ℕ) (xs : List CellMark) → left < k → counted_cells (suc k) xs ≡ count_by b left (counted_cells k xs)
within false left k xs h = behind_within left k xs h
within true left k xs h = among_within left k xs (omega (arith, h))

here : (ms : List Mark) → ends_count ms ≡ true → Counted ∷ spread ms ≡ with_count zero (spread ms)
here [] h = refl
here (Mark.Skip k ∷ ms) h = let e : ◌≡◌ {A = Bool} false true = h in cc
here (Mark.Make c n b ∷ ms) h = let e : ◌≡◌ {A = Bool} false true = h in cc
here (Mark.Gap c ∷ ms) h = refl
here (Mark.Touch c n i ∷ ms) h = refl
here (Mark.Fill c n ∷ ms) h = refl

behind_end : (k : ℕ) (ms : List Mark) → ends_count ms ≡ true → counted_cells (suc k) (spread ms) ≡ with_count k (counted_cells k (spread ms))
behind_end zero ms h = here ms h
behind_end (suc k) ms h = ap (λ l. Counted ∷ l) (behind_end k ms h)

pub at_end : (b : Bool) (k : ℕ) (ms : List Mark) → (b || ends_count ms) ≡ true → counted_cells (suc k) (spread ms) ≡ count_by b k (counted_cells k (spread ms))
at_end false k ms h = behind_end k ms h
at_end true k ms h = among_within k k (spread ms) (omega arith)

behind_passed : (k j : ℕ) (xs : List CellMark) → counted_cells k (with_count j xs) ≡ with_count (k + j) (counted_cells k xs)
behind_passed zero j xs = let e : zero + j ≡ j = omega arith in rw e refl
behind_passed (suc k) j xs = let e : suc k + j ≡ suc (k + j) = omega arith in rw e (ap (λ l. Counted ∷ l) (behind_passed k j xs))

among_passed : (k j : ℕ) (xs : List CellMark) → counted_cells k (with_count_at j xs) ≡ with_count_at (k + j) (counted_cells k xs)
among_passed zero j xs = let e : zero + j ≡ j = omega arith in rw e refl
among_passed (suc k) j xs = let e : suc k + j ≡ suc (k + j) = omega arith in rw e (ap (λ l. Counted ∷ l) (among_passed k j xs))

passed : (b : Bool) (k j : ℕ) (xs : List CellMark) → counted_cells k (count_by b j xs) ≡ count_by b (k + j) (counted_cells k xs)
passed false k j xs = behind_passed k j xs
passed true k j xs = among_passed k j xs

pub passed_by : (b : Bool) (k left : ℕ) (xs : List CellMark) → k ≤ left → counted_cells k [] ++ count_by b (left - k) xs ≡ count_by b left (counted_cells k xs)
passed_by b k left xs h =
    let e : k + (left - k) ≡ left = omega (arith, h) in
    counted-append k (count_by b (left - k) xs) ∙ passed b k (left - k) xs ∙ ap (λ j. count_by b j (counted_cells k xs)) e

-- ## At a mark of one cell

pub past_gap : (b : Bool) (c : CellId) (left : ℕ) (more : List Mark) → IsGo b (Mark.Gap c) left more (past left)
past_gap false c zero more = (refl, refl)
past_gap false c (suc j) more = refl
past_gap true c zero more = (refl, refl)
past_gap true c (suc j) more = refl

pub past_touch : (b : Bool) (c : CellId) (n : NodeId) (h : How) (left : ℕ) (more : List Mark) → IsGo b (Mark.Touch c n h) left more (past left)
past_touch false c n h zero more = (refl, refl)
past_touch false c n h (suc j) more = refl
past_touch true c n h zero more = (refl, refl)
past_touch true c n h (suc j) more = refl

pub past_fill : (b : Bool) (c : CellId) (n : NodeId) (left : ℕ) (more : List Mark) → IsGo b (Mark.Fill c n) left more (past left)
past_fill false c n zero more = (refl, refl)
past_fill false c n (suc j) more = refl
past_fill true c n zero more = (refl, refl)
past_fill true c n (suc j) more = refl

pub past_make : (c : CellId) (n : NodeId) (h : Bool) (left : ℕ) (more : List Mark) → IsGo true (Mark.Make c n h) left more (past left)
past_make c n h zero more = (refl, refl)
past_make c n h (suc j) more = refl

-- ## The search goes on

last_is : (front : List Mark) (m : Mark) → last_counts (front ++ m ∷ []) ≡ count_or_none m
last_is [] m = refl
last_is (x ∷ []) m = refl
last_is (x ∷ (y ∷ front)) m = last_is (y ∷ front) m

pub go_on : (b : Bool) (all : List Mark) (p at left count j next : ℕ) (rest : List Mark) → next ≡ count_or_none (get_or rest 0 (Mark.Skip 0)) → IsSearched b all p at left count rest → 1 ≤ length rest
    → IsGo b (get_or rest 0 (Mark.Skip 0)) left (take (length rest - 1) (drop 1 rest)) (Go.On j) → IsSearched b all p (at + 1) j next (take (length rest - 1) (drop 1 rest))
go_on b all p at left count j next rest t s h g =
    let m : Mark = get_or rest 0 (Mark.Skip 0) in
    let more : List Mark = take (length rest - 1) (drop 1 rest) in
    let is : rest ≡ m ∷ more = split rest m h refl in
    let n : length (s.0 ++ m ∷ []) ≡ length s.0 + 1 = length-append s.0 (m ∷ []) in
    let k : length (s.0 ++ m ∷ []) ≡ at + 1 = n ∙ ap (λ i. i + 1) s.2 in (
      s.0 ++ m ∷ [],
      s.1 ∙ ap (λ l. s.0 ++ l) is ∙ sym (append_assoc s.0 (m ∷ []) more),
      k,
      ap (λ l. l ++ count_by b j (spread more)) (spread-append s.0 (m ∷ []))
          ∙ append_assoc (spread s.0) (spread (m ∷ [])) (count_by b j (spread more))
          ∙ ap (λ l. spread s.0 ++ l) g
          ∙ ap (λ l. spread s.0 ++ count_by b left (spread l)) (sym is)
          ∙ s.3,
      last_is s.0 m ∙ sym t,
    )

-- a mark at the end of the front counts some cells
last_there : (front : List Mark) (k : ℕ) → last_counts front ≡ k → 0 < k → (most : List Mark) × (front ≡ most ++ Mark.Skip k ∷ [])
last_there [] k e h = absurd (omega (arith, e, h))
last_there (Mark.Skip j ∷ []) k e h = ([], ap (λ i. Mark.Skip i ∷ []) e)
last_there (Mark.Gap c ∷ []) k e h = absurd (omega (arith, e, h))
last_there (Mark.Touch c n i ∷ []) k e h = absurd (omega (arith, e, h))
last_there (Mark.Make c n b ∷ []) k e h = absurd (omega (arith, e, h))
last_there (Mark.Fill c n ∷ []) k e h = absurd (omega (arith, e, h))
last_there (x ∷ (y ∷ front)) k e h = let r = last_there (y ∷ front) k e h in (x ∷ r.0, ap (λ l. x ∷ l) r.1)

pub some_before : (b : Bool) (all : List Mark) (p at left count : ℕ) (rest : List Mark) → IsSearched b all p at left count rest → 0 < count → 0 < at
some_before b all p at left count rest s h = go s.0 s.2 s.4
  where
    go : (front : List Mark) → length front ≡ at → last_counts front ≡ count → 0 < at
    go [] e f = absurd (omega (arith, f, h))
    go (x ∷ front) e f = omega (arith, e)

-- the place before a mark, or at the end
abbrev IsBefore : Bool → ℕ → List Mark → Type 0
IsBefore b left rest = (begins_with_skip rest ≡ false) × (Counted ∷ spread rest ≡ count_by b left (spread rest))

pub at_mark : (b : Bool) (left : ℕ) (rest : List Mark) → 1 ≤ length rest → IsGo b (get_or rest 0 (Mark.Skip 0)) left (take (length rest - 1) (drop 1 rest)) Go.Before → IsBefore b left rest
at_mark b left rest h g = subst (IsBefore b left) (sym (split rest (get_or rest 0 (Mark.Skip 0)) h refl)) g

pub at_none : (b : Bool) (left : ℕ) (rest : List Mark) → length rest < 1 → IsBefore b left rest
at_none false left [] h = (refl, refl)
at_none true zero [] h = (refl, refl)
at_none true (suc j) [] h = (refl, refl)
at_none b left (m ∷ rest) h = absurd (omega (arith, h))

pub seat_before : (b : Bool) (all : List Mark) (p at left count : ℕ) (rest : List Mark) (result : Seat) → IsSearched b all p at left count rest → IsBefore b left rest
    → (count ≡ 0 → result ≡ Seat.Before at) → (0 < count → result ≡ Seat.In (at - 1) count) → IsSeat all (count_by b p (spread all)) result
seat_before b all p at left zero rest result s g new old =
    subst (IsSeat all (count_by b p (spread all))) (sym (new refl)) (s.0, rest, s.1, s.2, ap (λ l. spread s.0 ++ l) g.1 ∙ s.3, s.4, g.0)
seat_before b all p at left (suc k) rest result s g new old =
    let r = last_there s.0 (suc k) s.4 (omega arith) in
    let n : length s.0 ≡ length r.0 + 1 = ap length r.1 ∙ length-append r.0 (Mark.Skip (suc k) ∷ []) in
    let i : length r.0 ≡ at - 1 = omega (arith, n, s.2) in
    subst (IsSeat all (count_by b p (spread all))) (sym (old (omega arith))) (
      r.0,
      rest,
      s.1 ∙ ap (λ l. l ++ rest) r.1 ∙ append_assoc r.0 (Mark.Skip (suc k) ∷ []) rest,
      i,
      ap (λ l. spread r.0 ++ l) (sym (counted-before (suc k) (spread rest)) ∙ sym (counted-append (suc k) (Counted ∷ spread rest)))
          ∙ sym (append_assoc (spread r.0) (counted_cells (suc k) []) (Counted ∷ spread rest))
          ∙ ap (λ l. l ++ Counted ∷ spread rest) (sym (spread-append r.0 (Mark.Skip (suc k) ∷ [])) ∙ ap spread (sym r.1))
          ∙ ap (λ l. spread s.0 ++ l) g.1
          ∙ s.3,
    )

-- ## One mark is another, or one more

pub set_at : (front more : List Mark) (m v : Mark) → slice_set (front ++ m ∷ more) (length front) v ≡ front ++ v ∷ more
set_at [] more m v = refl
set_at (x ∷ front) more m v = ap (λ l. x ∷ l) (set_at front more m v)

pub put_at : (front rest : List Mark) (v : Mark) → insert (front ++ rest) (length front) v ≡ front ++ v ∷ rest
put_at [] rest v = refl
put_at (x ∷ front) rest v = ap (λ l. x ∷ l) (put_at front rest v)

got_at : (front more : List Mark) (m : Mark) → slice_get (front ++ m ∷ more) (length front) ≡ Some m
got_at [] more m = refl
got_at (x ∷ front) more m = got_at front more m

pub is_there : (ms : List Mark) (zs : List CellMark) (i k : ℕ) → IsSeat ms zs (Seat.In i k) → slice_get ms i ≡ Some (Mark.Skip k)
is_there ms zs i k s = (λ j. slice_get (s.2 j) (sym s.3 j)) ∙ got_at s.0 s.1 (Mark.Skip k)

pub seat_raised : (ms : List Mark) (zs : List CellMark) (i k : ℕ) → IsSeat ms zs (Seat.In i k) → spread (slice_set ms i (Mark.Skip (k + 1))) ≡ zs
seat_raised ms zs i k s =
    let n : k + 1 ≡ suc k = omega arith in
    (λ j. spread (slice_set (s.2 j) (sym s.3 j) (Mark.Skip (n j))))
    ∙ ap spread (set_at s.0 s.1 (Mark.Skip k) (Mark.Skip (suc k)))
    ∙ spread-append s.0 (Mark.Skip (suc k) ∷ s.1)
    ∙ s.4

pub seat_room : (ms : List Mark) (zs : List CellMark) (i k n : ℕ) → IsSeat ms zs (Seat.In i k) → length (spread ms) + 1 < n → k + 1 < n
seat_room ms zs i k n s h =
    let a : length (spread ms) ≡ length (spread s.0) + length (counted_cells k (spread s.1)) = ap (λ l. length (spread l)) s.2 ∙ ap length (spread-append s.0 (Mark.Skip k ∷ s.1)) ∙ length-append (spread s.0) (counted_cells k (spread s.1)) in
    let b = length-counted k (spread s.1) in
    omega (arith, a, b, h)

pub seat_made : (ms new : List Mark) (zs : List CellMark) (i : ℕ) → IsSeat ms zs (Seat.Before i) → new ≡ insert ms i (Mark.Skip 1) → spread new ≡ zs
seat_made ms new zs i s e =
    ap spread (e ∙ (λ j. insert (s.2 j) (sym s.3 j) (Mark.Skip 1)) ∙ put_at s.0 s.1 (Mark.Skip 1))
    ∙ spread-append s.0 (Mark.Skip 1 ∷ s.1)
    ∙ s.4

-- ## All that another listing makes

pub counts_passed : (b : Bool) (p k : ℕ) (zs ys : List CellMark) → with_counts_by b p zs (counted_cells k ys) ≡ with_counts_by b (p + k) zs ys
counts_passed b p zero zs ys = let e : p + zero ≡ p = omega arith in rw e refl
counts_passed b p (suc k) zs ys = let e : p + suc k ≡ suc p + k = omega arith in rw e (counts_passed b (suc p) k zs ys)

behind-length : (p : ℕ) (xs : List CellMark) → length (with_count p xs) ≡ suc (length xs)
behind-length p [] = refl
behind-length p (Make c n b ∷ xs) = ap suc (behind-length p xs)
behind-length zero (Counted ∷ xs) = refl
behind-length zero (Gap c ∷ xs) = refl
behind-length zero (Touch c n h ∷ xs) = refl
behind-length zero (Fill c n ∷ xs) = refl
behind-length (suc p) (Counted ∷ xs) = ap suc (behind-length p xs)
behind-length (suc p) (Gap c ∷ xs) = ap suc (behind-length p xs)
behind-length (suc p) (Touch c n h ∷ xs) = ap suc (behind-length p xs)
behind-length (suc p) (Fill c n ∷ xs) = ap suc (behind-length p xs)

among-length : (p : ℕ) (xs : List CellMark) → length (with_count_at p xs) ≡ suc (length xs)
among-length zero xs = refl
among-length (suc p) [] = refl
among-length (suc p) (x ∷ xs) = ap suc (among-length p xs)

pub count-length : (b : Bool) (p : ℕ) (xs : List CellMark) → length (count_by b p xs) ≡ suc (length xs)
count-length false p xs = behind-length p xs
count-length true p xs = among-length p xs

-- ## One mark of it

pub one_skip : (b : Bool) (p k : ℕ) (zs T : List CellMark) (rest : List Mark) → 1 ≤ length rest → get_or rest 0 (Mark.Skip 0) ≡ Mark.Skip k → with_counts_by b p zs (spread rest) ≡ T
    → with_counts_by b (p + k) zs (spread (take (length rest - 1) (drop 1 rest))) ≡ T
one_skip b p k zs T rest h g e =
    sym (counts_passed b p k zs (spread (take (length rest - 1) (drop 1 rest)))) ∙ ap (λ l. with_counts_by b p zs (spread l)) (sym (split rest (Mark.Skip k) h g)) ∙ e

pub skip_length : (k : ℕ) (rest : List Mark) → 1 ≤ length rest → get_or rest 0 (Mark.Skip 0) ≡ Mark.Skip k → length (spread rest) ≡ k + length (spread (take (length rest - 1) (drop 1 rest)))
skip_length k rest h g = ap (λ l. length (spread l)) (split rest (Mark.Skip k) h g) ∙ length-counted k (spread (take (length rest - 1) (drop 1 rest)))

pub one_make : (a : Bool) (p : ℕ) (zs us T : List CellMark) (rest : List Mark) (c : CellId) (n : NodeId) (b : Bool) → 1 ≤ length rest → get_or rest 0 (Mark.Skip 0) ≡ Mark.Make c n b → us ≡ count_by a p zs → with_counts_by a p zs (spread rest) ≡ T
    → with_counts_by a (p + 1) us (spread (take (length rest - 1) (drop 1 rest))) ≡ T
one_make a p zs us T rest c n b h g u e =
    let q : p + 1 ≡ suc p = omega arith in
    (λ i. with_counts_by a (q i) (u i) (spread (take (length rest - 1) (drop 1 rest)))) ∙ ap (λ l. with_counts_by a p zs (spread l)) (sym (split rest (Mark.Make c n b) h g)) ∙ e

pub make_length : (rest : List Mark) (c : CellId) (n : NodeId) (b : Bool) → 1 ≤ length rest → get_or rest 0 (Mark.Skip 0) ≡ Mark.Make c n b → length (spread rest) ≡ suc (length (spread (take (length rest - 1) (drop 1 rest))))
make_length rest c n b h g = ap (λ l. length (spread l)) (split rest (Mark.Make c n b) h g)

made_passed : (k : ℕ) (xs : List CellMark) → cells_made (counted_cells k xs) ≡ cells_made xs
made_passed zero xs = refl
made_passed (suc k) xs = made_passed k xs

pub skip_makes : (k : ℕ) (rest : List Mark) → 1 ≤ length rest → get_or rest 0 (Mark.Skip 0) ≡ Mark.Skip k → length (cells_made (spread rest)) ≡ length (cells_made (spread (take (length rest - 1) (drop 1 rest))))
skip_makes k rest h g = ap (λ l. length (cells_made (spread l))) (split rest (Mark.Skip k) h g) ∙ ap length (made_passed k (spread (take (length rest - 1) (drop 1 rest))))

pub make_makes : (rest : List Mark) (c : CellId) (n : NodeId) (b : Bool) → 1 ≤ length rest → get_or rest 0 (Mark.Skip 0) ≡ Mark.Make c n b → length (cells_made (spread rest)) ≡ suc (length (cells_made (spread (take (length rest - 1) (drop 1 rest)))))
make_makes rest c n b h g = ap (λ l. length (cells_made (spread l))) (split rest (Mark.Make c n b) h g)
