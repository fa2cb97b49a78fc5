-- What is cut of a listing of a change, item by item, is trimmed; and a row beside the count of its cells is the row.
use Rattle.std.proofs.Common.{◌≡◌, ◌<◌, ◌^◌, ℕ, zero, suc, true, false, List, [], ◌∷◌, map, length, Option, Some, None, cond, refl, sym, ap, ◌∙◌, arith, Result, Ok, Err, IfOk}
use Rattle.std.specs.List.{list_any}
use Rattle.std.specs.Option.{option_and_then}
use Rattle.st_ids.specs.Listing.{IsListing, item_of}
use Rattle.st_ids.specs.Order.{field_cmp, node_cmp}
use Rattle.st_ids.proofs.Listings.{item_of-has}
use Rattle.st_ids.proofs.Orders.{field_cmp_exact, node_cmp_exact, node_cmp_total}
use Rattle.st_ids.specs.declared.names.NodeId.{NodeId}
use Rattle.st_kind.specs.Named.{Nodes}
use Rattle.st_marks.specs.declared.changes.Change.{Change}
use Rattle.st_marks.specs.declared.intents.Intent.{Intent}
use Rattle.st_marks.specs.declared.marks.Loose.{Loose}
use Rattle.st_marks.specs.declared.marks.Mark.{Mark}
use Rattle.st_marks.specs.declared.marks.RegMark.{RegMark}
use Rattle.st_marks.specs.declared.marks.RowMarks.{RowMarks}
use Rattle.st_marks.specs.Document.{Document}
use Rattle.st_marks.specs.Listings.{cells_before, cells_made}
use Rattle.st_marks.specs.Embedding.{row_marks, tells}
use Rattle.st_marks.specs.Row.{CellMark, Counted, Gap, Touch, Make, Fill, counted_cells, merge, spread}
use Rattle.st_mention_laws.specs.Tells.{mark_tells}
use Rattle.st_mention_laws.proofs.SpreadTells.{any_spread}
use Rattle.st_rows.specs.Changes.{may_list}
use Rattle.st_rows.specs.Walks.{beside}
use Rattle.st_rows.proofs.KindLaws.{made_or_found, spread-merge}
use Rattle.st_parts.specs.TrimmedChange.{IsChangeTrimmedTo, ListsChange}
use Rattle.st_puts.proofs.ListedIf.{shown-Some}
use Rattle.st_trim.specs.Trimmed.{trim_mark, trim_row}
use Rattle.st_trim.specs.inside.Cut.{cut_row}
use Rattle.st_parts.proofs.FilteredLists.{filter-map, listing_left}
use Rattle.st_parts.specs.inside.Cut.{IsCutTo, tells_register, trimmed_piece}

-- ## A row beside the count of its cells

pub beside_counted : (k : Nodes) (xs : List CellMark) → map (trimmed_piece k) (beside xs (counted_cells (length (cells_before xs)) [])) ≡ map (trim_mark k) xs
beside_counted k [] = refl
beside_counted k (Counted ∷ xs) = ap (λ l. trim_mark k Counted ∷ l) (beside_counted k xs)
beside_counted k (Gap c ∷ xs) = ap (λ l. trim_mark k (Gap c) ∷ l) (beside_counted k xs)
beside_counted k (Touch c n h ∷ xs) = ap (λ l. trim_mark k (Touch c n h) ∷ l) (beside_counted k xs)
beside_counted k (Make c n b ∷ xs) = ap (λ l. trim_mark k (Make c n b) ∷ l) (beside_counted k xs)
beside_counted k (Fill c n ∷ xs) = ap (λ l. trim_mark k (Fill c n) ∷ l) (beside_counted k xs)

none_made : (j : ℕ) → length (cells_made (counted_cells j [])) ≡ 0
none_made zero = refl
none_made (suc j) = none_made j

all_found : (j : ℕ) → length (cells_before (counted_cells j [])) ≡ j
all_found zero = refl
all_found (suc j) = ap suc (all_found j)

pub fits_counted : (xs : List CellMark) → length xs < 2 ^ 32 → may_list xs (counted_cells (length (cells_before xs)) []) < 2 ^ 32
fits_counted xs short = omega (arith, short, made_or_found xs, none_made (length (cells_before xs)), all_found (length (cells_before xs)))

pub found_fewer : (xs : List CellMark) → length xs < 2 ^ 32 → length (cells_before xs) < 2 ^ 32
found_fewer xs short = omega (arith, short, made_or_found xs)

-- ## A row that tells something

pub listed_some : (n : NodeId) (ms : List Mark) (cells : List CellMark) → list_any mark_tells ms ≡ true → ms ≡ merge cells → Some (record { node = n; marks = ms }) ≡ row_marks n cells
listed_some n ms cells some e =
    let t : list_any tells cells ≡ true = ap (list_any tells) (sym (ap spread e ∙ spread-merge cells)) ∙ sym (any_spread ms) ∙ some in
    ap (λ ms. Some (record { node = n; marks = ms })) e ∙ sym (ap (λ b. cond {A = Option RowMarks} b (Some (record { node = n; marks = merge cells })) None) t)

pub listed_none : (n : NodeId) (ms : List Mark) (cells : List CellMark) → list_any mark_tells ms ≡ false → ms ≡ merge cells → None ≡ row_marks n cells
listed_none n ms cells none e =
    let t : list_any tells cells ≡ false = ap (list_any tells) (sym (ap spread e ∙ spread-merge cells)) ∙ sym (any_spread ms) ∙ none in
    sym (ap (λ b. cond {A = Option RowMarks} b (Some (record { node = n; marks = merge cells })) None) t)

pub trim_counted : (k : Nodes) (j : ℕ) → counted_cells j [] ≡ map (trim_mark k) (counted_cells j [])
trim_counted k zero = refl
trim_counted k (suc j) = ap (λ l. Counted ∷ l) (trim_counted k j)

-- ## The whole listing

module _ (D : Document) (N : Intent) (K k : Nodes) (G T : Change) (l : ListsChange D N K G) (c : IsCutTo k G T) where
  row_node : (r t : RowMarks) → cut_row k r ≡ Some t → t.node ≡ r.node
  row_node r t e = ap (λ (z : RowMarks). z.node) (shown-Some _ _ t e)

  rows_left : IsListing node_cmp (λ (r : RowMarks). r.node) T.rows (λ n. trim_row k n (item_of node_cmp (λ (r : RowMarks). r.node) G.rows n))
  rows_left =
      let left = listing_left node_cmp node_cmp_exact (λ (r : RowMarks). r.node) (cut_row k) row_node G.rows T.rows l.rows_rise c.rows in
      record { rising = left.rising; at_each = λ n. left.at_each n ∙ go n (item_of node_cmp (λ (r : RowMarks). r.node) G.rows n) refl }
    where
      go : (n : NodeId) (o : Option RowMarks) → item_of node_cmp (λ (r : RowMarks). r.node) G.rows n ≡ o → option_and_then (cut_row k) o ≡ trim_row k n o
      go n None e = refl
      go n (Some r) e = ap (λ n. row_marks n (map (trim_mark k) (spread r.marks))) (item_of-has node_cmp node_cmp_total node_cmp_exact (λ (r : RowMarks). r.node) G.rows n r e).1

  pub cut_trims : IsChangeTrimmedTo k G T
  cut_trims = record {
    rev = c.rev;
    under = c.under;
    base = c.base;
    schema = c.schema;
    need = c.need;
    new = c.new;
    rows = rows_left;
    regs = listing_left field_cmp field_cmp_exact (λ (r : RegMark). r.field) (λ r. cond (tells_register k r) (Some r) None)
        (λ r t e. ap (λ (r : RegMark). r.field) (shown-Some (tells_register k r) r t e)) G.regs T.regs l.regs_rise (c.regs ∙ filter-map (tells_register k) G.regs);
    loose = listing_left node_cmp node_cmp_exact (λ (m : Loose). m.node) (λ m. cond (k m.node) (Some m) None)
        (λ m t e. ap (λ (m : Loose). m.node) (shown-Some (k m.node) m t e)) G.loose T.loose l.loose.rising (c.loose ∙ filter-map (λ (m : Loose). k m.node) G.loose);
  }

pub both_ok : {T E : Type 0} (r : Result T E) (P Q R : T → Type 0) → ((x : T) → P x → Q x → R x) → IfOk r P → IfOk r Q → IfOk r R
both_ok (Ok x) P Q R f p q = f x p q
both_ok (Err e) P Q R f p q = tt
