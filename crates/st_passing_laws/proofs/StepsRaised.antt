-- A step that passes a change is, with its rows raised, the step from the document after the change's intent to the later one after it.
use Rattle.std.proofs.Common.{◌≡◌, Bool, true, false, List, [], ◌∷◌, map, length, Some, None, option_map, cond, refl, sym, ap, ◌∙◌, subst}
use Rattle.std.specs.List.{list_any}
use Rattle.std.specs.Option.{option_map_or}
use Rattle.st_ids.specs.Listing.{IsListing}
use Rattle.st_ids.specs.Order.{node_cmp}
use Rattle.st_ids.specs.declared.names.NodeId.{NodeId}
use Rattle.st_marks.specs.declared.changes.Change.{Change}
use Rattle.st_marks.specs.declared.intents.Intent.{Intent}
use Rattle.st_marks.specs.declared.marks.RowMarks.{RowMarks}
use Rattle.st_marks.specs.declared.schemas.SchemaEntry.{SchemaEntry}
use Rattle.st_marks.specs.declared.steps.Step.{Step}
use Rattle.st_marks.specs.declared.verdicts.Verdict.{Verdict}
use Rattle.st_marks.specs.CarryOut.{with_schema}
use Rattle.st_marks.specs.Document.{Document, content}
use Rattle.st_marks.specs.Embedding.{IsEmbedding, row_marks, row_part, tells}
use Rattle.st_marks.specs.Extends.{GainsItems, IsExtendedBy}
use Rattle.st_marks.specs.Intent.{Fits}
use Rattle.st_marks.specs.Listings.{cells_before}
use Rattle.st_marks.specs.Row.{CellMark, SameCell, embed_row, merge, spread, step_row}
use Rattle.st_marks.specs.Step.{IsSchemaStep, IsStep, gained_node}
use Rattle.st_marks.specs.Verdict.{carried_document}
use Rattle.st_rows.specs.Walks.{CellPiece, Both, First, Then, beside}
use Rattle.st_rows.proofs.KindLaws.{spread-merge}
use Rattle.st_over.proofs.Listed.{any_read, item_same, rising_same, rows_read, rows_whole}
use Rattle.st_read_laws.specs.Reading.{IsRead, IsStepRead, read, read_change, read_step}
use Rattle.st_reading.specs.Bridge.{is_void}
use Rattle.st_reading.specs.Pieces.{read_piece}
use Rattle.st_reading.proofs.CountedPieces.{beside-read}
use Rattle.st_passing.specs.Passing.{raised_beside, then_kept}
use Rattle.st_passing.specs.Whole.{Passes, raise_row_beside, raised_step, row_in}
use Rattle.st_passing.proofs.SilentRows.{silent_step}
use Rattle.st_passing_laws.proofs.CarriedAlike.{named_alike}
use Rattle.st_passing_laws.proofs.MentionedLeft.{both_read}
use Rattle.st_passing_laws.proofs.NodesLeft.{all_counts, change_row, schemas_stay, step_row_at}
use Rattle.st_passing_laws.proofs.PlacesAcross.{alike, apart, carried, carried_is, comes, loose_across, named, register_across}
use Rattle.st_passing_laws.proofs.RowsAcross.{kept, row_grown, row_tells}
use Rattle.st_passing_laws.proofs.RowsRaised.{same_found}
use Rattle.st_passing_laws.proofs.StepMentioned.{mentioned_after, nodes_named, rows_named}

-- ## Read so before or after

pieces_read : (ps : List CellPiece) → map then_kept (map (read_piece false) ps) ≡ map kept ps
pieces_read [] = refl
pieces_read (Both x y ∷ ps) = ap (λ l. read false y ∷ l) (pieces_read ps)
pieces_read (First x ∷ ps) = ap (λ l. kept (First x) ∷ l) (pieces_read ps)
pieces_read (Then y ∷ ps) = ap (λ l. read false y ∷ l) (pieces_read ps)

beside_read : (xs ys : List CellMark) → raised_beside (map (read false) xs) (map (read false) ys) ≡ map kept (beside xs ys)
beside_read xs ys = ap (map then_kept) (beside-read false xs ys) ∙ pieces_read (beside xs ys)

-- ## The step after the intent

module _ (D E : Document) (N : Intent) (C : Change) (S : Step) (b : Bool) (x : IsExtendedBy D E) (f : Fits D N) (e : Fits E N) (change : IsEmbedding D N C) (step : IsStep D E S)
    (passes : Passes (read_change false C) (read_step false S)) where
  abbrev A : Document
  A = carried b D N

  abbrev B : Document
  B = carried b E N

  abbrev change_cells : NodeId → List CellMark
  change_cells n = map (read false) (embed_row (row_part change.mentioned N n) (content D n))

  abbrev moved_cells : NodeId → List CellMark
  moved_cells n = map (read false) (step_row step.mentioned (step.grows n))

  abbrev raised_cells : NodeId → List CellMark
  raised_cells n = raised_beside (change_cells n) (moved_cells n)

  -- ## Rows

  grown : (n : NodeId) → (h : GainsItems SameCell (content A n) (content B n)) × (map (read false) (step_row step.mentioned h) ≡ map kept (beside (embed_row (row_part change.mentioned N n) (content D n)) (step_row step.mentioned (step.grows n))))
  grown n =
      row_grown D E A B N step.mentioned change.mentioned x f e (alike D E N C S x f e change step passes b) (apart D E N C S x f e change step passes b) (named D E N C S x f e change step passes b) (comes N b D) n
      (step.grows n) (rows_named b D N n) (rows_named b E N n)

  abbrev grows : (n : NodeId) → GainsItems SameCell (content A n) (content B n)
  grows n = (grown n).0

  abbrev after_cells : NodeId → List CellMark
  after_cells n = step_row step.mentioned (grows n)

  raised_is : (n : NodeId) → raised_cells n ≡ map (read false) (after_cells n)
  raised_is n = beside_read (embed_row (row_part change.mentioned N n) (content D n)) (step_row step.mentioned (step.grows n)) ∙ sym (grown n).1

  raised_tells : (n : NodeId) → list_any tells (moved_cells n) ≡ list_any tells (raised_cells n)
  raised_tells n =
      any_read false (step_row step.mentioned (step.grows n)) ∙ sym (row_tells (row_part change.mentioned N n) step.mentioned (step.grows n))
      ∙ sym (ap (list_any tells) (beside_read (embed_row (row_part change.mentioned N n) (content D n)) (step_row step.mentioned (step.grows n))))

  abbrev with_marks : NodeId → List CellMark → RowMarks
  with_marks n xs = record { node = n; marks = merge xs }

  marks_raised : (n : NodeId) → option_map_or (λ (r : RowMarks). merge (raised_beside (spread r.marks) (spread (merge (moved_cells n))))) (row_in (read_change false C).rows n) (merge (moved_cells n)) ≡ merge (raised_cells n)
  marks_raised n =
      ap (λ o. option_map_or (λ (r : RowMarks). merge (raised_beside (spread r.marks) (spread (merge (moved_cells n))))) o (merge (moved_cells n))) (change_row D E N C S x change step passes n)
      ∙ go (list_any tells (change_cells n)) refl
    where
      found : length (cells_before (moved_cells n)) ≡ length (cells_before (change_cells n))
      found = sym (same_found (row_part change.mentioned N n) step.mentioned (step.grows n))

      go : (w : Bool) → list_any tells (change_cells n) ≡ w
          → option_map_or (λ (r : RowMarks). merge (raised_beside (spread r.marks) (spread (merge (moved_cells n))))) (cond w (Some (with_marks n (change_cells n))) None) (merge (moved_cells n)) ≡ merge (raised_cells n)
      go true h = λ i. merge (raised_beside (spread-merge (change_cells n) i) (spread-merge (moved_cells n) i))
      go false h =
          ap merge (sym (ap (λ xs. raised_beside xs (moved_cells n)) (all_counts (embed_row (row_part change.mentioned N n) (content D n)) h)
          ∙ silent_step (length (cells_before (change_cells n))) (moved_cells n) found))

  row_raised : (n : NodeId) → option_map (raise_row_beside (read_change false C).rows) (row_marks n (moved_cells n)) ≡ row_marks n (map (read false) (after_cells n))
  row_raised n =
      go (list_any tells (moved_cells n))
      ∙ ap (λ w. cond w (Some (with_marks n (raised_cells n))) None) (raised_tells n)
      ∙ ap (row_marks n) (raised_is n)
    where
      go : (w : Bool) → option_map (raise_row_beside (read_change false C).rows) (cond w (Some (with_marks n (moved_cells n))) None) ≡ cond w (Some (with_marks n (raised_cells n))) None
      go true = λ i. Some (record { node = n; marks = marks_raised n i })
      go false = refl

  abbrev passed : Step
  passed = raised_step (read_change false C) (read_step false S)

  rows_raised : IsListing node_cmp (λ (r : RowMarks). r.node) passed.rows (λ n. row_marks n (map (read false) (after_cells n)))
  rows_raised = record {
    rising = rising_same node_cmp (λ (r : RowMarks). r.node) (raise_row_beside (read_change false C).rows) (λ r. refl) (read_step false S).rows (rows_read false S.rows (λ n. step_row step.mentioned (step.grows n)) step.rows).rising;
    at_each = λ n.
        item_same node_cmp (λ (r : RowMarks). r.node) (raise_row_beside (read_change false C).rows) (λ r. refl) (read_step false S).rows n
        ∙ ap (option_map (raise_row_beside (read_change false C).rows)) (step_row_at D E N C S x change step passes n)
        ∙ row_raised n;
  }

  -- ## The whole step

  schemas_after : A.schemas ≡ B.schemas
  schemas_after = go b
    where
      go : (w : Bool) → (carried w D N).schemas ≡ (carried w E N).schemas
      go true = schemas_stay D E N C S x change step passes
      go false = ap (λ (es : List SchemaEntry). with_schema N N.schema es) (schemas_stay D E N C S x change step passes)

  new_after : (n : NodeId) → gained_node n (D.nodes n) (E.nodes n) ≡ gained_node n (A.nodes n) (B.nodes n)
  new_after n = sym ((λ i. gained_node n (nodes_named b D N n i) (nodes_named b E N n i)) ∙ named_alike D E N f e n)

  pub raised_step_between : IsStepRead false A B passed
  raised_step_between =
      let rows = rows_whole false after_cells passed.rows rows_raised in
      let after : Step = record S { rows = map (λ (r : RowMarks). record { node = r.node; marks = merge (after_cells r.node) }) passed.rows } in (
        after,
        record {
          mentioned = step.mentioned;
          which = mentioned_after D E N C S b x f e change step passes;
          schema = subst (IsSchemaStep A.schemas B.schemas) (sym passes.step_schema) schemas_after;
          new = record { rising = step.new.rising; at_each = λ n. step.new.at_each n ∙ new_after n };
          grows = grows;
          rows = rows.0;
          regs = record { rising = step.regs.rising; at_each = λ g. step.regs.at_each g ∙ register_across D E N C S x f e change step passes b g };
          loose = record { rising = step.loose.rising; at_each = λ k. step.loose.at_each k ∙ loose_across D E N C S x f e change step passes b k };
        },
        λ i. record S { rows = rows.1 i },
      )

pub raised_between : (D E : Document) (N : Intent) (C : Change) (S : Step) (v : Verdict) → IsExtendedBy D E → Fits D N → Fits E N → IsRead false D N C → IsStepRead false D E S → Passes C S
    → IsStepRead false (carried_document v D N) (carried_document v E N) (raised_step C S)
raised_between D E N C S v x f e c s p =
    let both = both_read D E N C S Passes c s p in
    let alone : N.schema ≡ None = sym c.1.schema ∙ both.change_schema in
    let made = raised_step_between D E N c.0 s.0 (is_void v) x f e c.1 s.1 both in
    let there = subst (λ A. IsStepRead false A (carried_document v E N) (raised_step (read_change false c.0) (read_step false s.0))) (sym (carried_is v D N alone))
    (subst (λ B. IsStepRead false (carried (is_void v) D N) B (raised_step (read_change false c.0) (read_step false s.0))) (sym (carried_is v E N alone)) made) in
    subst (λ C. IsStepRead false (carried_document v D N) (carried_document v E N) (raised_step C S)) (sym c.2)
    (subst (λ S. IsStepRead false (carried_document v D N) (carried_document v E N) (raised_step (read_change false c.0) S)) (sym s.2) there)
