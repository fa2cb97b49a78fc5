-- Marks that are written one after another, and the marks of whole rows.
use Rattle.std.proofs.Common.{◌≡◌, ℕ, zero, suc, ◌+◌, ◌-◌, ◌≤◌, ◌<◌, ◌^◌, take, get_or, true, false, cond, List, [], ◌∷◌, ◌++◌, length, map, Option, Some, None, refl, sym, ap, ◌∙◌, append_assoc, arith, subst}
use Rattle.std.specs.List.{list_any}
use Rattle.std.specs.Option.{option_to_list}
use Rattle.std.specs.Prelude.{slice_get}
use Rattle.std.proofs.lemmas.List.{append-nil}
use Rattle.st_marks.specs.declared.intents.Owned.{Owned}
use Rattle.st_marks.specs.declared.intents.To.{To}
use Rattle.st_marks.specs.declared.marks.Mark.{Mark}
use Rattle.st_marks.specs.declared.places.Slot.{Slot}
use Rattle.st_marks.specs.declared.marks.RowMarks.{RowMarks}
use Rattle.st_ids.specs.declared.names.NodeId.{NodeId}
use Rattle.st_marks.specs.Embedding.{row_marks, tells}
use Rattle.st_lemmas.proofs.FirstItems.{take_one}
use Rattle.st_lemmas.proofs.Lists.{map-append}
use Rattle.st_marks.specs.Document.{Document, slot}
use Rattle.st_marks.specs.How.{is_here}
use Rattle.st_marks.specs.Row.{CellMark, Counted, Fill, Gap, Make, RowPart, Touch, embed_cell, embed_cells, embed_made, embed_row, how, merge, skip_one}
use Rattle.st_embed.specs.inside.Marks.{CountWithin, HasRoom, count_in, found_cell, made_mark, mark_of, tells_mark, with_cell, with_count}

-- ## One more cell

count_later : (ms : List Mark) → skip_one (with_count ms) ≡ with_count (skip_one ms)
count_later [] = refl
count_later (Mark.Skip k ∷ []) = refl
count_later (Mark.Skip k ∷ (m ∷ ms)) = refl
count_later (Mark.Gap c ∷ ms) = refl
count_later (Mark.Touch c n h ∷ ms) = refl
count_later (Mark.Make c n b ∷ ms) = refl
count_later (Mark.Fill c n ∷ ms) = refl

-- a mark that counts no cells stays where it is
mark_later : (ms : List Mark) (m : Mark) → count_in m ≡ None → skip_one (ms ++ m ∷ []) ≡ skip_one ms ++ m ∷ []
mark_later [] (Mark.Skip k) e = cc
mark_later [] (Mark.Gap c) e = refl
mark_later [] (Mark.Touch c n h) e = refl
mark_later [] (Mark.Make c n b) e = refl
mark_later [] (Mark.Fill c n) e = refl
mark_later (Mark.Skip k ∷ ms) m e = refl
mark_later (Mark.Gap c ∷ ms) m e = refl
mark_later (Mark.Touch c n h ∷ ms) m e = refl
mark_later (Mark.Make c n b ∷ ms) m e = refl
mark_later (Mark.Fill c n ∷ ms) m e = refl

cell_later : (ms : List Mark) (o : Option Mark) → ((m : Mark) → o ≡ Some m → count_in m ≡ None) → skip_one (with_cell ms o) ≡ with_cell (skip_one ms) o
cell_later ms None h = count_later ms
cell_later ms (Some m) h = mark_later ms m (h m refl)

uncounted : (x : CellMark) (m : Mark) → mark_of x ≡ Some m → count_in m ≡ None
uncounted Counted m e = cc
uncounted (Gap c) m e = let q : Mark.Gap c ≡ m = cc in ap count_in (sym q)
uncounted (Touch c n h) m e = let q : Mark.Touch c n h ≡ m = cc in ap count_in (sym q)
uncounted (Make c n b) m e = let q : Mark.Make c n b ≡ m = cc in ap count_in (sym q)
uncounted (Fill c n) m e = let q : Mark.Fill c n ≡ m = cc in ap count_in (sym q)

front : (m : Mark) (ms : List Mark) (o : Option Mark) → count_in m ≡ None → m ∷ with_cell ms o ≡ with_cell (m ∷ ms) o
front m ms (Some k) e = refl
front (Mark.Skip k) ms None e = cc
front (Mark.Gap c) ms None e = refl
front (Mark.Touch c n h) ms None e = refl
front (Mark.Make c n b) ms None e = refl
front (Mark.Fill c n) ms None e = refl

first_cell : (x : CellMark) → merge (x ∷ []) ≡ with_cell [] (mark_of x)
first_cell Counted = refl
first_cell (Gap c) = refl
first_cell (Touch c n h) = refl
first_cell (Make c n b) = refl
first_cell (Fill c n) = refl

pub merge_more : (xs : List CellMark) (x : CellMark) → merge (xs ++ x ∷ []) ≡ with_cell (merge xs) (mark_of x)
merge_more [] x = first_cell x
merge_more (Counted ∷ xs) x = ap skip_one (merge_more xs x) ∙ cell_later (merge xs) (mark_of x) (uncounted x)
merge_more (Gap c ∷ xs) x = ap (λ l. Mark.Gap c ∷ l) (merge_more xs x) ∙ front (Mark.Gap c) (merge xs) (mark_of x) refl
merge_more (Touch c n h ∷ xs) x = ap (λ l. Mark.Touch c n h ∷ l) (merge_more xs x) ∙ front (Mark.Touch c n h) (merge xs) (mark_of x) refl
merge_more (Make c n b ∷ xs) x = ap (λ l. Mark.Make c n b ∷ l) (merge_more xs x) ∙ front (Mark.Make c n b) (merge xs) (mark_of x) refl
merge_more (Fill c n ∷ xs) x = ap (λ l. Mark.Fill c n ∷ l) (merge_more xs x) ∙ front (Mark.Fill c n) (merge xs) (mark_of x) refl

-- cells that are made
pub merge_made : (p : RowPart) (xs : List CellMark) (os : List Owned) → merge (xs ++ embed_made p os) ≡ merge xs ++ map (made_mark p.target_of) os
merge_made p xs [] = ap merge (append-nil xs) ∙ sym (append-nil (merge xs))
merge_made p xs (o ∷ os) =
    let x = Make o.cell o.node (is_here (how (p.target_of o.node) (To.Cell o.cell))) in
    ap merge (sym (append_assoc xs (x ∷ []) (embed_made p os))) ∙ merge_made p (xs ++ x ∷ []) os
    ∙ ap (λ l. l ++ map (made_mark p.target_of) os) (merge_more xs x) ∙ append_assoc (merge xs) (made_mark p.target_of o ∷ []) (map (made_mark p.target_of) os)

-- ## The count at the end

-- the last mark counts no cells, or there is none
pub no_count : (ms : List Mark) (m : Mark) → count_in m ≡ None → with_count (ms ++ m ∷ []) ≡ (ms ++ m ∷ []) ++ Mark.Skip 1 ∷ []
no_count [] (Mark.Skip k) e = cc
no_count [] (Mark.Gap c) e = refl
no_count [] (Mark.Touch c n h) e = refl
no_count [] (Mark.Make c n b) e = refl
no_count [] (Mark.Fill c n) e = refl
no_count (Mark.Skip k ∷ []) m e = ap (λ l. Mark.Skip k ∷ l) (no_count [] m e)
no_count (Mark.Skip k ∷ (l ∷ ms)) m e = ap (λ t. Mark.Skip k ∷ t) (no_count (l ∷ ms) m e)
no_count (Mark.Gap c ∷ ms) m e = ap (λ l. Mark.Gap c ∷ l) (no_count ms m e)
no_count (Mark.Touch c n h ∷ ms) m e = ap (λ l. Mark.Touch c n h ∷ l) (no_count ms m e)
no_count (Mark.Make c n b ∷ ms) m e = ap (λ l. Mark.Make c n b ∷ l) (no_count ms m e)
no_count (Mark.Fill c n ∷ ms) m e = ap (λ l. Mark.Fill c n ∷ l) (no_count ms m e)

pub last_counted : (ms : List Mark) (k : ℕ) → with_count (ms ++ Mark.Skip k ∷ []) ≡ ms ++ Mark.Skip (suc k) ∷ []
last_counted [] k = refl
last_counted (Mark.Skip j ∷ []) k = refl
last_counted (Mark.Skip j ∷ (l ∷ ms)) k = ap (λ t. Mark.Skip j ∷ t) (last_counted (l ∷ ms) k)
last_counted (Mark.Gap c ∷ ms) k = ap (λ l. Mark.Gap c ∷ l) (last_counted ms k)
last_counted (Mark.Touch c n h ∷ ms) k = ap (λ l. Mark.Touch c n h ∷ l) (last_counted ms k)
last_counted (Mark.Make c n b ∷ ms) k = ap (λ l. Mark.Make c n b ∷ l) (last_counted ms k)
last_counted (Mark.Fill c n ∷ ms) k = ap (λ l. Mark.Fill c n ∷ l) (last_counted ms k)

pub last_within : (most : ℕ) (ms : List Mark) (k : ℕ) → CountWithin most (ms ++ Mark.Skip k ∷ []) → k ≤ most
last_within most [] k a = a.0
last_within most (m ∷ ms) k a = last_within most ms k a.1

last_at : {A : Type 0} (x m : A) (xs : List A) → slice_get (x ∷ xs) (length xs) ≡ Some m → x ∷ xs ≡ take (length xs) (x ∷ xs) ++ m ∷ []
last_at x m [] e = ap (λ o. option_to_list o) e
last_at x m (y ∷ xs) e = ap (λ l. x ∷ l) (last_at y m xs e)

last_item : {A : Type 0} (xs : List A) (m : A) → slice_get xs (length xs - 1) ≡ Some m → xs ≡ take (length xs - 1) xs ++ m ∷ []
last_item [] m e = cc
last_item (x ∷ xs) m e =
    let i : length (x ∷ xs) - 1 ≡ length xs = omega arith in
    subst (λ k. slice_get (x ∷ xs) k ≡ Some m → x ∷ xs ≡ take k (x ∷ xs) ++ m ∷ []) (sym i) (last_at x m xs) e

pub none_end : (old : List Mark) (m : Mark) → slice_get old (length old - 1) ≡ Some m → count_in m ≡ None → with_count old ≡ old ++ Mark.Skip 1 ∷ []
none_end old m at e = subst (λ l. with_count l ≡ l ++ Mark.Skip 1 ∷ []) (sym (last_item old m at)) (no_count (take (length old - 1) old) m e)

skip_is : (m : Mark) (k : ℕ) → count_in m ≡ Some k → m ≡ Mark.Skip k
skip_is (Mark.Skip j) k e = let q : j ≡ k = cc in ap (λ i. Mark.Skip i) q
skip_is (Mark.Gap c) k e = cc
skip_is (Mark.Touch c n h) k e = cc
skip_is (Mark.Make c n b) k e = cc
skip_is (Mark.Fill c n) k e = cc

pub count_end : (old new : List Mark) (m : Mark) (k : ℕ) → slice_get old (length old - 1) ≡ Some m → count_in m ≡ Some k → new ≡ take (length old - 1) old → with_count old ≡ new ++ Mark.Skip (suc k) ∷ []
count_end old new m k at e f =
    let is : old ≡ new ++ Mark.Skip k ∷ [] = last_item old m at ∙ (λ i. sym f i ++ skip_is m k e i ∷ []) in
    ap with_count is ∙ last_counted new k

-- ## How many cells the marks count

-- how many cells are counted
abbrev pub counted : List CellMark → ℕ
counted [] = 0
counted (Counted ∷ xs) = suc (counted xs)
counted (Gap c ∷ xs) = counted xs
counted (Touch c n h ∷ xs) = counted xs
counted (Make c n b ∷ xs) = counted xs
counted (Fill c n ∷ xs) = counted xs

pub within_later : (a b : ℕ) → a ≤ b → (ms : List Mark) → CountWithin a ms → CountWithin b ms
within_later a b l [] w = tt
within_later a b l (Mark.Skip k ∷ ms) w = (omega (arith, l, w.0), within_later a b l ms w.1)
within_later a b l (Mark.Gap c ∷ ms) w = (tt, within_later a b l ms w.1)
within_later a b l (Mark.Touch c n h ∷ ms) w = (tt, within_later a b l ms w.1)
within_later a b l (Mark.Make c n h ∷ ms) w = (tt, within_later a b l ms w.1)
within_later a b l (Mark.Fill c n ∷ ms) w = (tt, within_later a b l ms w.1)

skip_within : (a : ℕ) (ms : List Mark) → CountWithin a ms → CountWithin (suc a) (skip_one ms)
skip_within a [] w = (omega arith, tt)
skip_within a (Mark.Skip k ∷ ms) w = (omega (arith, w.0), within_later a (suc a) (omega arith) ms w.1)
skip_within a (Mark.Gap c ∷ ms) w = (omega arith, within_later a (suc a) (omega arith) (Mark.Gap c ∷ ms) w)
skip_within a (Mark.Touch c n h ∷ ms) w = (omega arith, within_later a (suc a) (omega arith) (Mark.Touch c n h ∷ ms) w)
skip_within a (Mark.Make c n b ∷ ms) w = (omega arith, within_later a (suc a) (omega arith) (Mark.Make c n b ∷ ms) w)
skip_within a (Mark.Fill c n ∷ ms) w = (omega arith, within_later a (suc a) (omega arith) (Mark.Fill c n ∷ ms) w)

pub merge_within : (xs : List CellMark) → CountWithin (counted xs) (merge xs)
merge_within [] = tt
merge_within (Counted ∷ xs) = skip_within (counted xs) (merge xs) (merge_within xs)
merge_within (Gap c ∷ xs) = (tt, merge_within xs)
merge_within (Touch c n h ∷ xs) = (tt, merge_within xs)
merge_within (Make c n b ∷ xs) = (tt, merge_within xs)
merge_within (Fill c n ∷ xs) = (tt, merge_within xs)

counted_made : (p : RowPart) (os : List Owned) (ys : List CellMark) → counted (embed_made p os ++ ys) ≡ counted ys
counted_made p [] ys = refl
counted_made p (o ∷ os) ys = counted_made p os ys

counted_one : (x : CellMark) (ys : List CellMark) → counted (x ∷ ys) ≤ suc (counted ys)
counted_one Counted ys = omega arith
counted_one (Gap c) ys = omega arith
counted_one (Touch c n h) ys = omega arith
counted_one (Make c n b) ys = omega arith
counted_one (Fill c n) ys = omega arith

counted_cells : (p : RowPart) (ss : List Slot) → counted (embed_cells p ss) ≤ length ss
counted_cells p [] = omega arith
counted_cells p (s ∷ ss) =
    let one = counted_one (embed_cell p s.cell s.node s.full) (embed_made p (p.new_cells (Some s.cell)) ++ embed_cells p ss) in
    omega (arith, one, counted_made p (p.new_cells (Some s.cell)) (embed_cells p ss), counted_cells p ss)

-- no mark of a row counts more cells than the row had
pub row_within : (p : RowPart) (ss : List Slot) → CountWithin (length ss) (merge (embed_row p ss))
row_within p ss =
    within_later (counted (embed_row p ss)) (length ss) (omega (arith, counted_made p (p.new_cells None) (embed_cells p ss), counted_cells p ss)) (merge (embed_row p ss)) (merge_within (embed_row p ss))

-- ## One more cell of a row

pub cells_append : (p : RowPart) (ss ts : List Slot) → embed_cells p (ss ++ ts) ≡ embed_cells p ss ++ embed_cells p ts
cells_append p [] ts = refl
cells_append p (s ∷ ss) ts =
    ap (λ l. embed_cell p s.cell s.node s.full ∷ (embed_made p (p.new_cells (Some s.cell)) ++ l)) (cells_append p ss ts)
    ∙ ap (λ l. embed_cell p s.cell s.node s.full ∷ l) (sym (append_assoc (embed_made p (p.new_cells (Some s.cell))) (embed_cells p ss) (embed_cells p ts)))

-- what is written for one cell more: the cell, and the cells that are made behind it
pub row_more : (p : RowPart) (ss : List Slot) (s : Slot) → merge (embed_row p (ss ++ s ∷ []))
    ≡ with_cell (merge (embed_row p ss)) (mark_of (embed_cell p s.cell s.node s.full)) ++ map (made_mark p.target_of) (p.new_cells (Some s.cell))
row_more p ss s =
    let start = embed_made p (p.new_cells None) in
    let x = embed_cell p s.cell s.node s.full in
    let more = embed_made p (p.new_cells (Some s.cell)) in
    let whole : embed_row p (ss ++ s ∷ []) ≡ (embed_row p ss ++ x ∷ []) ++ more =
    ap (λ l. start ++ l) (cells_append p ss (s ∷ []) ∙ ap (λ l. embed_cells p ss ++ (x ∷ l)) (append-nil more))
    ∙ sym (append_assoc start (embed_cells p ss) (x ∷ more)) ∙ sym (append_assoc (embed_row p ss) (x ∷ []) more) in
    ap merge whole ∙ merge_made p (embed_row p ss ++ x ∷ []) (p.new_cells (Some s.cell))
    ∙ ap (λ l. l ++ map (made_mark p.target_of) (p.new_cells (Some s.cell))) (merge_more (embed_row p ss) x)

-- ## Whether a row is listed

skip_tells : (ms : List Mark) → list_any tells_mark (skip_one ms) ≡ list_any tells_mark ms
skip_tells [] = refl
skip_tells (Mark.Skip k ∷ ms) = refl
skip_tells (Mark.Gap c ∷ ms) = refl
skip_tells (Mark.Touch c n h ∷ ms) = refl
skip_tells (Mark.Make c n b ∷ ms) = refl
skip_tells (Mark.Fill c n ∷ ms) = refl

pub merge_tells : (xs : List CellMark) → list_any tells_mark (merge xs) ≡ list_any tells xs
merge_tells [] = refl
merge_tells (Counted ∷ xs) = skip_tells (merge xs) ∙ merge_tells xs
merge_tells (Gap c ∷ xs) = merge_tells xs
merge_tells (Touch c n h ∷ xs) = refl
merge_tells (Make c n b ∷ xs) = refl
merge_tells (Fill c n ∷ xs) = refl

-- ## A row that is written cell by cell

module _ (p : RowPart) (D : Document) where
  pub row_begun : (now : List Mark) → now ≡ map (made_mark p.target_of) (p.new_cells None) → now ≡ merge (embed_row p [])
  row_begun now e = e ∙ sym (merge_made p [] (p.new_cells None)) ∙ ap merge (sym (append-nil (embed_made p (p.new_cells None))))

  pub row_step : (os : List Owned) (i : ℕ) (d o : Owned) (before now : List Mark) → i < length os → get_or os i d ≡ o
      → before ≡ merge (embed_row p (map (slot D) (take i os)))
      → now ≡ with_cell before (mark_of (found_cell p D o)) ++ map (made_mark p.target_of) (p.new_cells (Some o.cell))
      → now ≡ merge (embed_row p (map (slot D) (take (i + 1) os)))
  row_step os i d o before now inside at so_far h =
      h ∙ ap (λ l. with_cell l (mark_of (found_cell p D o)) ++ map (made_mark p.target_of) (p.new_cells (Some o.cell))) so_far
      ∙ sym (row_more p (map (slot D) (take i os)) (slot D o))
      ∙ ap (λ l. merge (embed_row p l)) (sym (map-append (slot D) (take i os) (o ∷ [])) ∙ ap (map (slot D)) (sym (take_one os i d o inside at)))

  taken : (os : List Owned) (i : ℕ) → length (map (slot D) (take i os)) ≤ i
  taken [] zero = omega arith
  taken [] (suc i) = omega arith
  taken (o ∷ os) zero = omega arith
  taken (o ∷ os) (suc i) = omega (arith, taken os i)

  pub row_room : (os : List Owned) (i : ℕ) (before : List Mark) → i < length os → length os < 2 ^ 32 → before ≡ merge (embed_row p (map (slot D) (take i os))) → HasRoom before
  row_room os i before inside short e =
      let ss = map (slot D) (take i os) in
      subst HasRoom (sym e) (within_later (length ss) 4294967294 (omega (arith, taken os i, inside, short)) (merge (embed_row p ss)) (row_within p ss))

-- ## Whether it is listed

abbrev pub row : NodeId → List Mark → RowMarks
row n marks = record { node = n; marks = marks }

pub unlisted : (n : NodeId) (xs : List CellMark) (marks : List Mark) → marks ≡ merge xs → list_any tells_mark marks ≡ false → None ≡ row_marks n xs
unlisted n xs marks e f = sym (ap (λ b. cond b (Some (row n (merge xs))) None) (sym (merge_tells xs) ∙ ap (list_any tells_mark) (sym e) ∙ f))

pub listed : (n : NodeId) (xs : List CellMark) (marks : List Mark) → marks ≡ merge xs → list_any tells_mark marks ≡ true → Some (row n marks) ≡ row_marks n xs
listed n xs marks e f = ap (λ l. Some (row n l)) e ∙ sym (ap (λ b. cond b (Some (row n (merge xs))) None) (sym (merge_tells xs) ∙ ap (list_any tells_mark) (sym e) ∙ f))
