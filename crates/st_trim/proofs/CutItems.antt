-- A listing of which less is told, item by item, is trimmed.
use Rattle.std.proofs.Common.{◌≡◌, ◌+◌, ◌<◌, ℕ, zero, suc, inl, inr, arith, Bool, true, false, cond, List, [], ◌∷◌, ◌++◌, length, map, take, get_or, Option, Some, None, option_and_then, refl, sym, ap, ◌∙◌}
use Rattle.std.proofs.lemmas.Option.{same_Some}
use Rattle.std.specs.List.{cons_option, filter_map, list_any}
use Rattle.std.specs.Option.{option_to_list}
use Rattle.st_ids.specs.Listing.{Has, IsListing, item_of}
use Rattle.st_ids.specs.Order.{field_cmp, node_cmp}
use Rattle.st_ids.proofs.Listings.{item_of-has}
use Rattle.st_ids.proofs.Orders.{field_cmp_exact, node_cmp_exact, node_cmp_total}
use Rattle.st_ids.specs.declared.names.NodeId.{NodeId}
use Rattle.st_kind.specs.Named.{Nodes}
use Rattle.st_lemmas.proofs.FirstItems.{take_one}
use Rattle.st_lemmas.proofs.Lists.{filter_map-append}
use Rattle.st_marks.specs.declared.marks.Loose.{Loose}
use Rattle.st_marks.specs.declared.marks.Mark.{Mark}
use Rattle.st_marks.specs.declared.marks.RegStep.{RegStep}
use Rattle.st_marks.specs.declared.marks.RowMarks.{RowMarks}
use Rattle.st_marks.specs.declared.steps.Step.{Step}
use Rattle.st_marks.specs.Document.{Document}
use Rattle.st_marks.specs.Embedding.{row_marks, tells}
use Rattle.st_marks.specs.Extends.{IsExtendedBy}
use Rattle.st_marks.specs.Row.{CellMark, merge, spread}
use Rattle.st_mention_laws.specs.Tells.{mark_tells}
use Rattle.st_mention_laws.proofs.SpreadTells.{any_spread}
use Rattle.st_rows.proofs.KindLaws.{spread-merge}
use Rattle.st_trim.specs.Trimmed.{IsTrimmedTo, ListsStep, trim_mark, trim_row, trim_register, trim_loose}
use Rattle.st_trim.specs.inside.Cut.{IsCutTo, cut_row, tells_register}
use Rattle.st_trim.proofs.FilteredLists.{filter-map, listing_left}
use Rattle.st_trim.proofs.ListingItems.{rows_are_short}

-- ## One row

-- merged marks that tell something are listed as their cells are
pub listed_some : (n : NodeId) (ms : List Mark) (cells : List CellMark) → list_any mark_tells ms ≡ true → ms ≡ merge cells → Some (record { node = n; marks = ms }) ≡ row_marks n cells
listed_some n ms cells some e =
    let t : list_any tells cells ≡ true = ap (list_any tells) (sym (ap spread e ∙ spread-merge cells)) ∙ sym (any_spread ms) ∙ some in
    ap (λ ms. Some (record { node = n; marks = ms })) e ∙ sym (ap (λ b. cond {A = Option RowMarks} b (Some (record { node = n; marks = merge cells })) None) t)

pub listed_none : (n : NodeId) (ms : List Mark) (cells : List CellMark) → list_any mark_tells ms ≡ false → ms ≡ merge cells → None ≡ row_marks n cells
listed_none n ms cells none e =
    let t : list_any tells cells ≡ false = ap (list_any tells) (sym (ap spread e ∙ spread-merge cells)) ∙ sym (any_spread ms) ∙ none in
    sym (ap (λ b. cond {A = Option RowMarks} b (Some (record { node = n; marks = merge cells })) None) t)

-- an item at a place is in the list
pub has-at : {A : Type 0} (xs : List A) (i : ℕ) (d x : A) → i < length xs → get_or xs i d ≡ x → Has xs x
has-at [] i d x h e = absurd (omega (arith, h))
has-at (y ∷ xs) zero d x h e = inl e
has-at (y ∷ xs) (suc i) d x h e = inr (has-at xs i d x (omega (arith, h)) e)

-- one row more
pub cut_more : (f : RowMarks → Option RowMarks) (rows : List RowMarks) (i : ℕ) (d r : RowMarks) (o : Option RowMarks) (old new : List RowMarks) → i < length rows → get_or rows i d ≡ r
    → o ≡ f r → new ≡ old ++ option_to_list o → old ≡ filter_map f (take i rows) → new ≡ filter_map f (take (i + 1) rows)
cut_more f rows i d r o old new inside at made pushed so_far =
    pushed ∙ (λ j. so_far j ++ option_to_list (made j)) ∙ ap (λ l. filter_map f (take i rows) ++ l) (one (f r))
    ∙ sym (filter_map-append f (take i rows) (r ∷ [])) ∙ ap (filter_map f) (sym (take_one rows i d r inside at))
  where
    one : (o : Option RowMarks) → option_to_list o ≡ cons_option o []
    one None = refl
    one (Some r) = refl

row_at : (n : NodeId) (cells : List CellMark) (r : RowMarks) → row_marks n cells ≡ Some r → r.node ≡ n
row_at n cells r e = go (list_any tells cells) e
  where
    go : (b : Bool) → cond {A = Option RowMarks} b (Some (record { node = n; marks = merge cells })) None ≡ Some r → r.node ≡ n
    go true e = ap (λ (r : RowMarks). r.node) (sym (same_Some (record { node = n; marks = merge cells }) r e))
    go false e = cc

kept_as : {A : Type 0} (b : Bool) (x y : A) → cond {A = Option A} b (Some x) None ≡ Some y → y ≡ x
kept_as true x y e = sym (same_Some x y e)
kept_as false x y e = cc

-- ## The whole listing

module _ (D E : Document) (K k : Nodes) (G T : Step) (x : IsExtendedBy D E) (l : ListsStep D E K G) (c : IsCutTo k G T) where
  rows_left : IsListing node_cmp (λ (r : RowMarks). r.node) T.rows (λ n. trim_row k n (item_of node_cmp (λ (r : RowMarks). r.node) G.rows n))
  rows_left =
      let left = listing_left node_cmp node_cmp_exact (λ (r : RowMarks). r.node) (cut_row k) (λ r t e. row_at r.node (map (trim_mark k) (spread r.marks)) t e) G.rows T.rows l.rows_rise (c.rows (rows_are_short D E K G x l)) in
      record { rising = left.rising; at_each = λ n. left.at_each n ∙ go n (item_of node_cmp (λ (r : RowMarks). r.node) G.rows n) refl }
    where
      go : (n : NodeId) (o : Option RowMarks) → item_of node_cmp (λ (r : RowMarks). r.node) G.rows n ≡ o → option_and_then (cut_row k) o ≡ trim_row k n o
      go n None e = refl
      go n (Some r) e = ap (λ n. row_marks n (map (trim_mark k) (spread r.marks))) (item_of-has node_cmp node_cmp_total node_cmp_exact (λ (r : RowMarks). r.node) G.rows n r e).1

  registers_left : IsListing field_cmp (λ (r : RegStep). r.field) T.regs (λ f. trim_register k (item_of field_cmp (λ (r : RegStep). r.field) G.regs f))
  registers_left = listing_left field_cmp field_cmp_exact (λ (r : RegStep). r.field) (λ r. cond (tells_register k r) (Some r) None)
      (λ r t e. ap (λ (r : RegStep). r.field) (kept_as (tells_register k r) r t e)) G.regs T.regs l.regs_rise (c.regs ∙ filter-map (tells_register k) G.regs)

  loose_left : IsListing node_cmp (λ (m : Loose). m.node) T.loose (λ n. trim_loose k (item_of node_cmp (λ (m : Loose). m.node) G.loose n))
  loose_left = listing_left node_cmp node_cmp_exact (λ (m : Loose). m.node) (λ m. cond (k m.node) (Some m) None)
      (λ m t e. ap (λ (m : Loose). m.node) (kept_as (k m.node) m t e)) G.loose T.loose l.loose.rising (c.loose ∙ filter-map (λ (m : Loose). k m.node) G.loose)

  pub cut_trims : IsTrimmedTo k G T
  cut_trims = record { schema = c.schema; new = c.new; rows = rows_left; regs = registers_left; loose = loose_left }
