-- Where a change and a step list few cells in all, there is room in each row.
use Rattle.std.proofs.Common.{◌≡◌, ◌+◌, ◌≤◌, ◌<◌, ◌^◌, min, ℕ, List, [], ◌∷◌, ◌++◌, length, take, get_or, Option, Some, None, refl, sym, ap, ◌∙◌, arith, inl, inr}
use Rattle.std.proofs.lemmas.List.{take_more}
use Rattle.std.specs.Option.{option_map_or}
use Rattle.st_ids.proofs.Listings.{item_of-has}
use Rattle.st_ids.proofs.Orders.{node_cmp_total, node_cmp_exact}
use Rattle.st_ids.specs.Listing.{Has, item_of}
use Rattle.st_ids.specs.Order.{node_cmp}
use Rattle.st_ids.specs.declared.names.NodeId.{NodeId}
use Rattle.st_marks.specs.declared.marks.RowMarks.{RowMarks}
use Rattle.st_marks.specs.Listings.{cells_after, cells_before, cells_made, marks_of}
use Rattle.st_marks.specs.Row.{CellMark, Counted, Gap, Touch, Make, Fill, spread}
use Rattle.st_rows.specs.Changes.{may_list}
use Rattle.st_rows.proofs.ShortRows.{all_after}
use Rattle.st_moves.specs.Room.{HasRoomAt}
use Rattle.st_lean.specs.inside.Room.{cells_listed}

-- cells that are made are listed, and so are those that are found
pub made_or_found : (xs : List CellMark) → length (cells_made xs) + length (cells_before xs) ≡ length xs
made_or_found [] = refl
made_or_found (Counted ∷ xs) = let e = made_or_found xs in omega (arith, e)
made_or_found (Gap c ∷ xs) = let e = made_or_found xs in omega (arith, e)
made_or_found (Touch c n h ∷ xs) = let e = made_or_found xs in omega (arith, e)
made_or_found (Make c n b ∷ xs) = let e = made_or_found xs in omega (arith, e)
made_or_found (Fill c n ∷ xs) = let e = made_or_found xs in omega (arith, e)

one_listed : (rows : List RowMarks) (r : RowMarks) → Has rows r → length (spread r.marks) ≤ cells_listed rows
one_listed [] r h = absurd h
one_listed (s ∷ rows) r (inl e) = let q = ap (λ (r : RowMarks). length (spread r.marks)) e in omega (arith, q)
one_listed (s ∷ rows) r (inr h) = let q = one_listed rows r h in omega (arith, q)

at_most : (rows : List RowMarks) (n : NodeId) → length (marks_of rows n) ≤ cells_listed rows
at_most rows n = go (item_of node_cmp (λ (r : RowMarks). r.node) rows n) refl
  where
    go : (o : Option RowMarks) → item_of node_cmp (λ (r : RowMarks). r.node) rows n ≡ o → length (option_map_or (λ (r : RowMarks). spread r.marks) o []) ≤ cells_listed rows
    go None e = omega arith
    go (Some r) e = one_listed rows r (item_of-has node_cmp node_cmp_total node_cmp_exact (λ (r : RowMarks). r.node) rows n r e).0

fits : (xs ys : List CellMark) (a b : ℕ) → length xs ≤ a → length ys ≤ b → a + b < 2 ^ 32 → may_list xs ys < 2 ^ 32
fits xs ys a b p q less = let u = made_or_found xs in let v = made_or_found ys in omega (arith, u, v, p, q, less)

pub few_have_room : (cs ss : List RowMarks) → cells_listed cs + cells_listed ss < 2 ^ 32 → (n : NodeId) → HasRoomAt cs ss n
few_have_room cs ss less n =
    let p = at_most cs n in
    let q = at_most ss n in (
      fits (marks_of cs n) (marks_of ss n) (cells_listed cs) (cells_listed ss) p q less,
      fits (marks_of ss n) (marks_of cs n) (cells_listed ss) (cells_listed cs) q p (omega (arith, less)),
    )

-- ## Counted

listed-behind : (rows : List RowMarks) (r : RowMarks) → cells_listed (rows ++ r ∷ []) ≡ cells_listed rows + length (spread r.marks)
listed-behind [] r = omega arith
listed-behind (q ∷ rows) r = let e = listed-behind rows r in omega (arith, e)

listed_more : (rows : List RowMarks) (i : ℕ) (d : RowMarks) → i < length rows → cells_listed (take (i + 1) rows) ≡ cells_listed (take i rows) + length (spread (get_or rows i d).marks)
listed_more rows i d l = ap cells_listed (take_more rows i d l) ∙ listed-behind (take i rows) (get_or rows i d)

counted_more : (count one sum next so_far more : ℕ) → count ≡ min so_far 4294967296 → one ≡ min more 4294967296 → sum ≡ min (count + one) 18446744073709551615 → next ≡ min 4294967296 sum → next ≡ min (so_far + more) 4294967296
counted_more count one sum next so_far more a b c d = omega arith

pub listed_step : (rows : List RowMarks) (i count one sum next : ℕ) (d r : RowMarks) → i < length rows → get_or rows i d ≡ r → count ≡ min (cells_listed (take i rows)) 4294967296 → one ≡ min (length (cells_after (spread r.marks))) 4294967296
    → sum ≡ min (count + one) 18446744073709551615 → next ≡ min 4294967296 sum → next ≡ min (cells_listed (take (i + 1) rows)) 4294967296
listed_step rows i count one sum next d r l at a b e f =
    let more : one ≡ min (length (spread (get_or rows i d).marks)) 4294967296 = b ∙ ap (λ k. min k 4294967296) (all_after (spread r.marks)) ∙ ap (λ (r : RowMarks). min (length (spread r.marks)) 4294967296) (sym at) in
    rw (listed_more rows i d l) (counted_more count one sum next (cells_listed (take i rows)) (length (spread (get_or rows i d).marks)) a more e f)

-- a sum that is small isn't cut off
pub few : (m n p q : ℕ) → m ≡ min p 4294967296 → n ≡ min q 4294967296 → m + n < 4294967296 → p + q < 4294967296
few m n p q a b less = omega arith
