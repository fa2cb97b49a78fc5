-- Rows that are listed, read so: of a listing of rows that are read the rows themselves can be told, by what they say in full.
use Rattle.std.proofs.Common.{◌≡◌, Bool, true, false, cond, ◌||◌, ◌&&◌, List, [], ◌∷◌, map, Option, Some, None, option_map, refl, sym, ap, ◌∙◌, inl, inr}
use Rattle.std.specs.FinMap.Entries.{below_all, is_sorted}
use Rattle.std.specs.List.{list_any}
use Rattle.std.specs.Ordering.{is_eq, is_lt}
use Rattle.std.specs.declared.cmp.Ordering.{Ordering}
use Rattle.st_ids.specs.Listing.{Has, IsListing, IsRising, item_of, key_pairs}
use Rattle.st_ids.specs.Order.{node_cmp}
use Rattle.st_ids.specs.declared.names.NodeId.{NodeId}
use Rattle.st_ids.proofs.Listings.{has-item_of}
use Rattle.st_ids.proofs.Orders.{node_cmp_exact, node_cmp_total}
use Rattle.st_marks.specs.declared.marks.RowMarks.{RowMarks}
use Rattle.st_marks.specs.Embedding.{row_marks, tells}
use Rattle.st_marks.specs.Row.{CellMark, Counted, Gap, Touch, Make, Fill, merge}
use Rattle.st_rows.proofs.KindLaws.{spread-merge}
use Rattle.st_read_laws.specs.Reading.{read, read_row}

-- ## Items that are exchanged for others of their names

module _ {K A : Type 0} (R : K → K → Ordering) (key : A → K) (h : A → A) (keeps : (x : A) → key (h x) ≡ key x) where
  below_same : (k : K) (xs : List A) → below_all R k (key_pairs key (map h xs)) ≡ below_all R k (key_pairs key xs)
  below_same k [] = refl
  below_same k (x ∷ xs) = let rest = below_same k xs in λ i. is_lt (R k (keeps x i)) && rest i

  sorted_same : (xs : List A) → is_sorted R (key_pairs key (map h xs)) ≡ is_sorted R (key_pairs key xs)
  sorted_same [] = refl
  sorted_same (x ∷ xs) =
      let rest = sorted_same xs in
      let below = below_same (key x) xs in
      ap (λ k. below_all R k (key_pairs key (map h xs)) && is_sorted R (key_pairs key (map h xs))) (keeps x) ∙ (λ i. below i && rest i)

  pub rising_same : (xs : List A) → IsRising R key xs → IsRising R key (map h xs)
  rising_same xs e = sorted_same xs ∙ e

  pub rising_before : (xs : List A) → IsRising R key (map h xs) → IsRising R key xs
  rising_before xs e = sym (sorted_same xs) ∙ e

  pub item_same : (xs : List A) (k : K) → item_of R key (map h xs) k ≡ option_map h (item_of R key xs k)
  item_same [] k = refl
  item_same (x ∷ xs) k = ap (λ q. cond (is_eq (R k q)) (Some (h x)) (item_of R key (map h xs) k)) (keeps x) ∙ go (is_eq (R k (key x))) (item_same xs k)
    where
      go : (b : Bool) → item_of R key (map h xs) k ≡ option_map h (item_of R key xs k) → cond b (Some (h x)) (item_of R key (map h xs) k) ≡ option_map h (cond b (Some x) (item_of R key xs k))
      go true e = refl
      go false e = e

-- ## Rows

pub tells_read : (l : Bool) (x : CellMark) → tells (read l x) ≡ tells x
tells_read l Counted = refl
tells_read true (Gap c) = refl
tells_read false (Gap c) = refl
tells_read l (Touch c n h) = refl
tells_read l (Make c n b) = refl
tells_read l (Fill c n) = refl

pub any_read : (l : Bool) (xs : List CellMark) → list_any tells (map (read l) xs) ≡ list_any tells xs
any_read l [] = refl
any_read l (x ∷ xs) = λ i. tells_read l x i || any_read l xs i

-- a row that is read, from the row
pub row_read : (l : Bool) (n : NodeId) (xs : List CellMark) → option_map (read_row l) (row_marks n xs) ≡ row_marks n (map (read l) xs)
row_read l n xs = go (list_any tells xs) ∙ ap (λ b. cond b (Some (record { node = n; marks = merge (map (read l) xs) })) None) (sym (any_read l xs))
  where
    go : (b : Bool) → option_map (read_row l) (cond b (Some (record { node = n; marks = merge xs })) None) ≡ cond b (Some (record { node = n; marks = merge (map (read l) xs) })) None
    go true = λ i. Some (record { node = n; marks = merge (map (read l) (spread-merge xs i)) })
    go false = refl

-- a listing of rows, read so
pub rows_read : (l : Bool) (rows : List RowMarks) (cells : NodeId → List CellMark) → IsListing node_cmp (λ (r : RowMarks). r.node) rows (λ n. row_marks n (cells n))
    → IsListing node_cmp (λ (r : RowMarks). r.node) (map (read_row l) rows) (λ n. row_marks n (map (read l) (cells n)))
rows_read l rows cells is = record {
  rising = rising_same node_cmp (λ (r : RowMarks). r.node) (read_row l) (λ r. refl) rows is.rising;
  at_each = λ n. item_same node_cmp (λ (r : RowMarks). r.node) (read_row l) (λ r. refl) rows n ∙ ap (option_map (read_row l)) (is.at_each n) ∙ row_read l n (cells n);
}

-- ## Back

module _ (l : Bool) (cells : NodeId → List CellMark) where
  abbrev whole : RowMarks → RowMarks
  whole r = record { node = r.node; marks = merge (cells r.node) }

  row_whole : (n : NodeId) → option_map whole (row_marks n (map (read l) (cells n))) ≡ row_marks n (cells n)
  row_whole n = go (list_any tells (map (read l) (cells n))) ∙ ap (λ b. cond b (Some (record { node = n; marks = merge (cells n) })) None) (any_read l (cells n))
    where
      go : (b : Bool) → option_map whole (cond b (Some (record { node = n; marks = merge (map (read l) (cells n)) })) None) ≡ cond b (Some (record { node = n; marks = merge (cells n) })) None
      go true = refl
      go false = refl

  one_row : (r : RowMarks) (b : Bool) → cond b (Some (record { node = r.node; marks = merge (map (read l) (cells r.node)) })) None ≡ Some r → r ≡ read_row l (whole r)
  one_row r true e =
      let m : r.marks ≡ merge (map (read l) (cells r.node)) = ap at (sym e) in
      λ i. record { node = r.node; marks = (m ∙ ap (λ xs. merge (map (read l) xs)) (sym (spread-merge (cells r.node)))) i }
    where
      at : Option RowMarks → List Rattle.st_marks.specs.declared.marks.Mark.Mark
      at None = r.marks
      at (Some q) = q.marks
  one_row r false e = cc

  each_row : (rows : List RowMarks) → ((r : RowMarks) → Has rows r → row_marks r.node (map (read l) (cells r.node)) ≡ Some r) → rows ≡ map (read_row l) (map whole rows)
  each_row [] f = refl
  each_row (r ∷ rows) f = λ i. one_row r (list_any tells (map (read l) (cells r.node))) (f r (inl refl)) i ∷ each_row rows (λ q w. f q (inr w)) i

  -- what a listing of rows that are read is read of
  pub rows_whole : (rows : List RowMarks) → IsListing node_cmp (λ (r : RowMarks). r.node) rows (λ n. row_marks n (map (read l) (cells n)))
      → IsListing node_cmp (λ (r : RowMarks). r.node) (map whole rows) (λ n. row_marks n (cells n)) × (rows ≡ map (read_row l) (map whole rows))
  rows_whole rows is = (
    record {
      rising = rising_same node_cmp (λ (r : RowMarks). r.node) whole (λ r. refl) rows is.rising;
      at_each = λ n. item_same node_cmp (λ (r : RowMarks). r.node) whole (λ r. refl) rows n ∙ ap (option_map whole) (is.at_each n) ∙ row_whole n;
    },
    each_row rows (λ r w. sym (is.at_each r.node) ∙ has-item_of node_cmp node_cmp_total node_cmp_exact (λ (q : RowMarks). q.node) rows r is.rising w),
  )
