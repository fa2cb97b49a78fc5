-- A change that a step passes is, with its rows raised, the change of its intent after the step.
use Rattle.std.proofs.Common.{◌≡◌, ◌↔◌, Bool, true, false, not, ◌||◌, ◌&&◌, List, map, length, Option, Some, None, IsTrue, option_map, cond, refl, sym, ap, ◌∙◌, subst}
use Rattle.std.specs.List.{list_any}
use Rattle.std.specs.Option.{option_map_or}
use Rattle.st_ids.specs.Listing.{IsListing}
use Rattle.st_ids.specs.Order.{node_cmp, same_node}
use Rattle.st_ids.specs.Root.{root}
use Rattle.st_ids.specs.declared.names.FieldId.{FieldId}
use Rattle.st_ids.specs.declared.names.NodeId.{NodeId}
use Rattle.st_marks.specs.declared.changes.Change.{Change}
use Rattle.st_marks.specs.declared.intents.Intent.{Intent}
use Rattle.st_marks.specs.declared.intents.To.{To}
use Rattle.st_marks.specs.declared.marks.Loose.{Loose}
use Rattle.st_marks.specs.declared.marks.RegMark.{RegMark}
use Rattle.st_marks.specs.declared.marks.RowMarks.{RowMarks}
use Rattle.st_marks.specs.declared.steps.Step.{Step}
use Rattle.st_marks.specs.Document.{Document, content}
use Rattle.st_marks.specs.Embedding.{IsEmbedding, IsMentionedByIntent, embed_loose, is_nowhere, register_part, row_marks, row_part, tells}
use Rattle.st_marks.specs.Extends.{IsExtendedBy}
use Rattle.st_marks.specs.Intent.{Fits, put_of}
use Rattle.st_marks.specs.Listings.{cells_before}
use Rattle.st_marks.specs.Register.{RegisterPart, comes_in, embed_register, holds_mentioned, how_held}
use Rattle.st_marks.specs.Row.{CellMark, embed_row, how, merge, spread, step_row}
use Rattle.st_marks.specs.Step.{IsStep}
use Rattle.st_marks.specs.Verdict.{HasBase}
use Rattle.st_marks.proofs.Later.{node_later}
use Rattle.st_rows.proofs.KindLaws.{spread-merge}
use Rattle.st_over.proofs.Listed.{item_same, rising_same, rows_read, rows_whole}
use Rattle.st_read_laws.specs.Reading.{IsRead, IsStepRead, read, read_change, read_step}
use Rattle.st_passing.specs.Passing.{raised}
use Rattle.st_passing.specs.Whole.{Passes, raise_row, raised_change, row_in}
use Rattle.st_passing.proofs.CellsLeft.{shown_row_left}
use Rattle.st_passing.proofs.Mentions.{earlier, later}
use Rattle.st_passing.proofs.RowsLeftThere.{row_left_there}
use Rattle.st_passing.proofs.SilentRows.{silent_change}
use Rattle.st_passing_laws.proofs.MentionedLeft.{both_read, leaves_mentioned}
use Rattle.st_passing_laws.proofs.NodesLeft.{all_counts, change_row, listed_register, schemas_stay, step_row_at}
use Rattle.st_passing_laws.proofs.RowsRaised.{raised_read, raised_tells, same_found}

both_false : (a b : Bool) → (a || b) ≡ false → (a ≡ false) × (b ≡ false)
both_false true b e = cc
both_false false b e = (refl, e)

module _ (D E : Document) (N : Intent) (C : Change) (S : Step) (x : IsExtendedBy D E) (f : Fits D N) (e : Fits E N) (change : IsEmbedding D N C) (step : IsStep D E S)
    (passes : Passes (read_change false C) (read_step false S)) where
  stay : (k : NodeId) → IsMentionedByIntent D N k → D.place k ≡ E.place k
  stay k m = leaves_mentioned D E N C S x change step passes k m

  mentioned_after : (n : NodeId) → (change.mentioned n ≡ true) ↔ IsMentionedByIntent E N n
  mentioned_after n = ((λ h. later D E N x f e stay (node_later D E x) n ((change.which n).0 h)), (λ h. (change.which n).1 (earlier D E N x f e stay n h)))

  -- ## Registers and nodes that are nowhere

  held_before : (g : FieldId) → holds_mentioned change.mentioned (E.held g) ≡ true → holds_mentioned change.mentioned (D.held g) ≡ true
  held_before g h = go (E.held g) refl h
    where
      go : (o : Option NodeId) → E.held g ≡ o → holds_mentioned change.mentioned o ≡ true → holds_mentioned change.mentioned (D.held g) ≡ true
      go None q w = cc
      go (Some k) q w = ap (holds_mentioned change.mentioned) ((x.before.one_held k g).1 (stay k ((change.which k).0 w) ∙ (x.after.one_held k g).0 q)) ∙ w

  abbrev mark_of : FieldId → RegisterPart → Option NodeId → RegMark
  mark_of g p held = record { field = g; held = held; how = how_held g p held; clear = p.clear; fill = comes_in held p.fill }

  register_alike : (g : FieldId) → embed_register g (register_part change.mentioned N g) (D.held g) ≡ embed_register g (register_part change.mentioned N g) (E.held g)
  register_alike g = go (p.clear || holds_mentioned change.mentioned (D.held g)) refl
    where
      p : RegisterPart
      p = register_part change.mentioned N g

      not_there : (b : Bool) → holds_mentioned change.mentioned (E.held g) ≡ b → holds_mentioned change.mentioned (D.held g) ≡ false → b ≡ false
      not_there false q h = refl
      not_there true q h = let bad : ◌≡◌ {A = Bool} false true = sym h ∙ held_before g q in cc

      go : (b : Bool) → (p.clear || holds_mentioned change.mentioned (D.held g)) ≡ b → embed_register g p (D.held g) ≡ embed_register g p (E.held g)
      go true h = ap (embed_register g p) (listed_register D E N C S x change step passes g p refl h)
      go false h =
          let both = both_false p.clear (holds_mentioned change.mentioned (D.held g)) h in
          let after : holds_mentioned change.mentioned (E.held g) ≡ false = not_there (holds_mentioned change.mentioned (E.held g)) refl both.1 in
          let late : (p.clear || holds_mentioned change.mentioned (E.held g)) ≡ false = (λ i. both.0 i || after i) in
          ap (λ b. cond b (Some (mark_of g p (D.held g))) None) h ∙ sym (ap (λ b. cond b (Some (mark_of g p (E.held g))) None) late)

  loose_alike : (k : NodeId) → embed_loose change.mentioned D N k ≡ embed_loose change.mentioned E N k
  loose_alike k = go (change.mentioned k) refl
    where
      one : Option Loose
      one = Some (record { node = k; how = how (put_of N k) To.Nowhere })

      go : (b : Bool) → change.mentioned k ≡ b → embed_loose change.mentioned D N k ≡ embed_loose change.mentioned E N k
      go true h = ap (λ s. cond (change.mentioned k && is_nowhere s && not (same_node k root)) (Some (record { node = k; how = how (put_of N k) To.Nowhere })) None) (stay k ((change.which k).0 h))
      go false h =
          ap (λ w. cond (w && is_nowhere (D.place k) && not (same_node k root)) (Some (record { node = k; how = how (put_of N k) To.Nowhere })) None) h
          ∙ sym (ap (λ w. cond (w && is_nowhere (E.place k) && not (same_node k root)) (Some (record { node = k; how = how (put_of N k) To.Nowhere })) None) h)

  -- ## Rows

  abbrev before_cells : NodeId → List CellMark
  before_cells n = map (read false) (embed_row (row_part change.mentioned N n) (content D n))

  abbrev moved_cells : NodeId → List CellMark
  moved_cells n = map (read false) (step_row step.mentioned (step.grows n))

  abbrev after_cells : NodeId → List CellMark
  after_cells n = embed_row (row_part change.mentioned N n) (content E n)

  alike_found : (n : NodeId) → length (cells_before (before_cells n)) ≡ length (cells_before (moved_cells n))
  alike_found n = same_found (row_part change.mentioned N n) step.mentioned (step.grows n)

  raised_is : (n : NodeId) → raised (before_cells n) (moved_cells n) ≡ map (read false) (after_cells n)
  raised_is n =
      let xs = embed_row (row_part change.mentioned N n) (content D n) in
      let ys = step_row step.mentioned (step.grows n) in
      raised_read xs ys
      ∙ shown_row_left (row_part change.mentioned N n) change.mentioned step.mentioned (step.grows n) xs ys (row_left_there D E N x f e stay C change change.mentioned mentioned_after n (step.grows n)) refl refl

  abbrev with_marks : NodeId → List CellMark → RowMarks
  with_marks n xs = record { node = n; marks = merge xs }

  marks_raised : (n : NodeId) → option_map_or (λ (s : RowMarks). merge (raised (spread (merge (before_cells n))) (spread s.marks))) (row_in (read_step false S).rows n) (merge (before_cells n)) ≡ merge (raised (before_cells n) (moved_cells n))
  marks_raised n =
      ap (λ o. option_map_or (λ (s : RowMarks). merge (raised (spread (merge (before_cells n))) (spread s.marks))) o (merge (before_cells n))) (step_row_at D E N C S x change step passes n)
      ∙ go (list_any tells (moved_cells n)) refl
    where
      go : (b : Bool) → list_any tells (moved_cells n) ≡ b
          → option_map_or (λ (s : RowMarks). merge (raised (spread (merge (before_cells n))) (spread s.marks))) (cond b (Some (with_marks n (moved_cells n))) None) (merge (before_cells n)) ≡ merge (raised (before_cells n) (moved_cells n))
      go true h = λ i. merge (raised (spread-merge (before_cells n) i) (spread-merge (moved_cells n) i))
      go false h =
          ap merge (sym (ap (raised (before_cells n)) (all_counts (step_row step.mentioned (step.grows n)) h) ∙ silent_change (length (cells_before (moved_cells n))) (before_cells n) (alike_found n)))

  row_raised : (n : NodeId) → option_map (raise_row (read_step false S).rows) (row_marks n (before_cells n)) ≡ row_marks n (map (read false) (after_cells n))
  row_raised n =
      go (list_any tells (before_cells n))
      ∙ ap (λ b. cond b (Some (with_marks n (raised (before_cells n) (moved_cells n)))) None) (sym (raised_tells (before_cells n) (moved_cells n) (alike_found n)))
      ∙ ap (row_marks n) (raised_is n)
    where
      go : (b : Bool) → option_map (raise_row (read_step false S).rows) (cond b (Some (with_marks n (before_cells n))) None) ≡ cond b (Some (with_marks n (raised (before_cells n) (moved_cells n)))) None
      go true = λ i. Some (record { node = n; marks = marks_raised n i })
      go false = refl

  rows_raised : IsListing node_cmp (λ (r : RowMarks). r.node) (raised_change (read_change false C) (read_step false S)).rows (λ n. row_marks n (map (read false) (after_cells n)))
  rows_raised = record {
    rising = rising_same node_cmp (λ (r : RowMarks). r.node) (raise_row (read_step false S).rows) (λ r. refl) (read_change false C).rows (rows_read false C.rows (λ n. embed_row (row_part change.mentioned N n) (content D n)) change.rows).rising;
    at_each = λ n.
        item_same node_cmp (λ (r : RowMarks). r.node) (raise_row (read_step false S).rows) (λ r. refl) (read_change false C).rows n
        ∙ ap (option_map (raise_row (read_step false S).rows)) (change_row D E N C S x change step passes n)
        ∙ row_raised n;
  }

  -- ## The whole change

  pub raised_read_after : IsRead false E N (raised_change (read_change false C) (read_step false S))
  raised_read_after =
      let rows = rows_whole false after_cells (raised_change (read_change false C) (read_step false S)).rows rows_raised in
      let schemas = schemas_stay D E N C S x change step passes in
      let after : Change = record C { rows = map (λ (r : RowMarks). record { node = r.node; marks = merge (after_cells r.node) }) (raised_change (read_change false C) (read_step false S)).rows } in (
        after,
        record {
          mentioned = change.mentioned;
          which = mentioned_after;
          rev = change.rev;
          under = change.under;
          base = subst (λ es. IsTrue C.base ↔ HasBase es N.schema N.under) schemas change.base;
          schema = change.schema;
          need = change.need;
          new = change.new;
          rows = rows.0;
          regs = record { rising = change.regs.rising; at_each = λ g. change.regs.at_each g ∙ register_alike g };
          loose = record { rising = change.loose.rising; at_each = λ k. change.loose.at_each k ∙ loose_alike k };
        },
        λ i. record C { rows = rows.1 i },
      )

pub raised_after : (D E : Document) (N : Intent) (C : Change) (S : Step) → IsExtendedBy D E → Fits D N → Fits E N → IsRead false D N C → IsStepRead false D E S → Passes C S → IsRead false E N (raised_change C S)
raised_after D E N C S x f e c s p =
    let made = raised_read_after D E N c.0 s.0 x f e c.1 s.1 (both_read D E N C S Passes c s p) in
    subst (λ C. IsRead false E N (raised_change C S)) (sym c.2) (subst (λ S. IsRead false E N (raised_change (read_change false c.0) S)) (sym s.2) made)
