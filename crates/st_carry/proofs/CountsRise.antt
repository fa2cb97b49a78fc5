-- The counts of a change and of a step over one document can rise where they stand.
use Rattle.std.proofs.Common.{◌≡◌, Bool, true, false, cond, List, map, length, Option, Some, None, refl, sym, ap, ◌∙◌, subst}
use Rattle.std.specs.List.{list_any}
use Rattle.st_ids.proofs.Listings.{has-item_of}
use Rattle.st_ids.proofs.Orders.{node_cmp_exact, node_cmp_total}
use Rattle.st_ids.specs.Listing.{Has, IsListing}
use Rattle.st_ids.specs.Order.{node_cmp}
use Rattle.st_ids.specs.declared.names.NodeId.{NodeId}
use Rattle.st_marks.specs.declared.changes.Change.{Change}
use Rattle.st_marks.specs.declared.intents.Intent.{Intent}
use Rattle.st_marks.specs.declared.marks.RowMarks.{RowMarks}
use Rattle.st_marks.specs.declared.steps.Step.{Step}
use Rattle.st_marks.specs.Document.{Document, content}
use Rattle.st_marks.specs.Embedding.{IsEmbedding, row_marks, row_part, tells}
use Rattle.st_marks.specs.Listings.{cells_before}
use Rattle.st_marks.specs.Row.{CellMark, embed_row, merge, spread, step_row}
use Rattle.st_marks.specs.Step.{IsStep}
use Rattle.st_rows.proofs.KindLaws.{spread-merge}
use Rattle.st_rows.specs.Merged.{IsMerged}
use Rattle.st_over.proofs.Listed.{rows_read}
use Rattle.st_read_laws.specs.Reading.{IsRead, IsStepRead, read, read_change, read_step}
use Rattle.st_passing.specs.Whole.{row_in}
use Rattle.st_passing_laws.proofs.RowsRaised.{same_found}
use Rattle.st_fast_path.specs.Raising.{CanBeRaised}

abbrev with_marks : NodeId → List CellMark → RowMarks
with_marks n xs = record { node = n; marks = merge xs }

row_is : (n : NodeId) (xs : List CellMark) (r : RowMarks) → row_marks n xs ≡ Some r → with_marks n xs ≡ r
row_is n xs r e = go (list_any tells xs) e
  where
    go : (b : Bool) → cond b (Some (with_marks n xs)) None ≡ Some r → with_marks n xs ≡ r
    go true e = cc
    go false e = cc

merged_row : (n : NodeId) (xs : List CellMark) (r : RowMarks) → row_marks n xs ≡ Some r → IsMerged r.marks
merged_row n xs r e = subst (λ (q : RowMarks). IsMerged q.marks) (row_is n xs r e) (ap merge (spread-merge xs))

cells_of : (n : NodeId) (xs : List CellMark) (r : RowMarks) → row_marks n xs ≡ Some r → spread r.marks ≡ xs
cells_of n xs r e = ap (λ (q : RowMarks). spread q.marks) (sym (row_is n xs r e)) ∙ spread-merge xs

-- an item of a listing is what it has at its name
listed_at : (rows : List RowMarks) (look : NodeId → Option RowMarks) → IsListing node_cmp (λ (r : RowMarks). r.node) rows look → (r : RowMarks) → Has rows r → look r.node ≡ Some r
listed_at rows look is r h = sym (is.at_each r.node) ∙ has-item_of node_cmp node_cmp_total node_cmp_exact (λ (q : RowMarks). q.node) rows r is.rising h

module _ (D E : Document) (N : Intent) (C : Change) (S : Step) (change : IsEmbedding D N C) (step : IsStep D E S) where
  abbrev change_cells : NodeId → List CellMark
  change_cells n = map (read false) (embed_row (row_part change.mentioned N n) (content D n))

  abbrev step_cells : NodeId → List CellMark
  step_cells n = map (read false) (step_row step.mentioned (step.grows n))

  change_rows : IsListing node_cmp (λ (r : RowMarks). r.node) (read_change false C).rows (λ n. row_marks n (change_cells n))
  change_rows = rows_read false C.rows (λ n. embed_row (row_part change.mentioned N n) (content D n)) change.rows

  step_rows : IsListing node_cmp (λ (r : RowMarks). r.node) (read_step false S).rows (λ n. row_marks n (step_cells n))
  step_rows = rows_read false S.rows (λ n. step_row step.mentioned (step.grows n)) step.rows

  alike : (r s : RowMarks) → Has (read_change false C).rows r → row_in (read_step false S).rows r.node ≡ Some s
      → length (cells_before (spread r.marks)) ≡ length (cells_before (spread s.marks))
  alike r s h e =
      let n = r.node in
      let xs = cells_of n (change_cells n) r (listed_at (read_change false C).rows (λ n. row_marks n (change_cells n)) change_rows r h) in
      let ys = cells_of n (step_cells n) s (sym (step_rows.at_each n) ∙ e) in
      ap (λ l. length (cells_before l)) xs ∙ same_found (row_part change.mentioned N n) step.mentioned (step.grows n) ∙ ap (λ l. length (cells_before l)) (sym ys)

  read_can_rise : CanBeRaised (read_change false C) (read_step false S)
  read_can_rise = record {
    change = λ r h. merged_row r.node (change_cells r.node) r (listed_at (read_change false C).rows (λ n. row_marks n (change_cells n)) change_rows r h);
    step = λ s h. merged_row s.node (step_cells s.node) s (listed_at (read_step false S).rows (λ n. row_marks n (step_cells n)) step_rows s h);
    alike = alike;
  }

pub can_rise : (D E : Document) (N : Intent) (C : Change) (S : Step) → IsRead false D N C → IsStepRead false D E S → CanBeRaised C S
can_rise D E N C S c s =
    subst (λ C. CanBeRaised C S) (sym c.2) (subst (λ S. CanBeRaised (read_change false c.0) S) (sym s.2) (read_can_rise D E N c.0 s.0 c.1 s.1))
