-- The way back over a step that counts empty cells which it could name says as much, but for these.
use Rattle.std.proofs.Common.{◌≡◌, ℕ, zero, suc, Bool, true, false, List, [], ◌∷◌, map, Option, cond, refl, sym, ap, ◌∙◌}
use Rattle.st_ids.specs.declared.names.NodeId.{NodeId}
use Rattle.st_kind.specs.Named.{Nodes}
use Rattle.st_marks.specs.declared.marks.How.TheVariants.{Stay, Here, Leave}
use Rattle.st_marks.specs.declared.marks.Mark.{Mark}
use Rattle.st_marks.specs.declared.marks.RowMarks.{RowMarks}
use Rattle.st_marks.specs.declared.places.Spot.{Spot}
use Rattle.st_marks.specs.declared.steps.Step.{Step}
use Rattle.st_marks.specs.Row.{CellMark, Counted, Gap, Touch, Make, Fill, counted_cells, merge, spread}
use Rattle.st_mention_laws.specs.Shown.{thin_marks, thin_row, thin_step, unnamed}
use Rattle.st_mention_laws.proofs.ThinForms.{spread-thin}
use Rattle.st_rows.specs.Cells.{invert_row, inverted_mark}
use Rattle.st_rows.proofs.KindLaws.{spread-merge}
use Rattle.st_steps.specs.WayBack.{register_back, schema_back}
use Rattle.st_steps.specs.inside.Back.{ToldBack, row_turned, stay_if}

-- ## A cell

-- who leaves a cell of a new node's row stays, if it is new itself
abbrev stay_cell : Nodes → CellMark → CellMark
stay_cell new Counted = Counted
stay_cell new (Gap c) = Gap c
stay_cell new (Touch c n Stay) = Touch c n Stay
stay_cell new (Touch c n Here) = Touch c n Here
stay_cell new (Touch c n Leave) = Touch c n (cond (new n) Stay Leave)
stay_cell new (Make c n b) = Make c n b
stay_cell new (Fill c n) = Fill c n

counted_on : (new : Nodes) (k : ℕ) (cells others : List CellMark) → others ≡ map (stay_cell new) cells → counted_cells k others ≡ map (stay_cell new) (counted_cells k cells)
counted_on new zero cells others e = e
counted_on new (suc k) cells others e = ap (λ l. Counted ∷ l) (counted_on new k cells others e)

spread-stay : (new : Nodes) (ms : List Mark) → spread (map (stay_if new) ms) ≡ map (stay_cell new) (spread ms)
spread-stay new [] = refl
spread-stay new (Mark.Skip k ∷ ms) = counted_on new k (spread ms) (spread (map (stay_if new) ms)) (spread-stay new ms)
spread-stay new (Mark.Gap c ∷ ms) = ap (λ l. Gap c ∷ l) (spread-stay new ms)
spread-stay new (Mark.Touch c n Stay ∷ ms) = ap (λ l. Touch c n Stay ∷ l) (spread-stay new ms)
spread-stay new (Mark.Touch c n Here ∷ ms) = ap (λ l. Touch c n Here ∷ l) (spread-stay new ms)
spread-stay new (Mark.Touch c n Leave ∷ ms) = ap (λ l. Touch c n (cond (new n) Stay Leave) ∷ l) (spread-stay new ms)
spread-stay new (Mark.Make c n b ∷ ms) = ap (λ l. Make c n b ∷ l) (spread-stay new ms)
spread-stay new (Mark.Fill c n ∷ ms) = ap (λ l. Fill c n ∷ l) (spread-stay new ms)

inverted_blind : (x : CellMark) → unnamed (inverted_mark (unnamed x)) ≡ unnamed (inverted_mark x)
inverted_blind Counted = refl
inverted_blind (Gap c) = refl
inverted_blind (Touch c n h) = refl
inverted_blind (Make c n b) = refl
inverted_blind (Fill c n) = refl

stay_blind : (new : Nodes) (x : CellMark) → unnamed (stay_cell new (inverted_mark (unnamed x))) ≡ unnamed (stay_cell new (inverted_mark x))
stay_blind new Counted = refl
stay_blind new (Gap c) = refl
stay_blind new (Touch c n h) = refl
stay_blind new (Make c n b) = refl
stay_blind new (Fill c n) = refl

-- ## A row

-- the cells of a row, turned round; that of a new node keeps new nodes
abbrev cells_turned : Bool → Nodes → List CellMark → List CellMark
cells_turned own new cells = cond own (map (stay_cell new) (invert_row cells)) (invert_row cells)

cells_blind : (own : Bool) (new : Nodes) (cells : List CellMark) → map unnamed (cells_turned own new (map unnamed cells)) ≡ map unnamed (cells_turned own new cells)
cells_blind true new [] = refl
cells_blind true new (x ∷ cells) = λ i. stay_blind new x i ∷ cells_blind true new cells i
cells_blind false new [] = refl
cells_blind false new (x ∷ cells) = λ i. inverted_blind x i ∷ cells_blind false new cells i

thin_turned : (own : Bool) (new : Nodes) (cells : List CellMark)
    → thin_marks (cond own (map (stay_if new) (merge (invert_row cells))) (merge (invert_row cells))) ≡ merge (map unnamed (cells_turned own new cells))
thin_turned true new cells = ap (λ l. merge (map unnamed l)) (spread-stay new (merge (invert_row cells)) ∙ ap (map (stay_cell new)) (spread-merge (invert_row cells)))
thin_turned false new cells = ap (λ l. merge (map unnamed l)) (spread-merge (invert_row cells))

row_blind : (new : Nodes) (r : RowMarks) → thin_row (row_turned new (thin_row r)) ≡ thin_row (row_turned new r)
row_blind new r = λ i. record { node = r.node; marks = marks i }
  where
    marks : thin_marks (row_turned new (thin_row r)).marks ≡ thin_marks (row_turned new r).marks
    marks = thin_turned (new r.node) new (spread (thin_marks r.marks))
        ∙ ap merge ((λ i. map unnamed (cells_turned (new r.node) new (spread-thin r.marks i))) ∙ cells_blind (new r.node) new (spread r.marks))
        ∙ sym (thin_turned (new r.node) new (spread r.marks))

rows_blind : (new : Nodes) (rows : List RowMarks) → map thin_row (map (row_turned new) (map thin_row rows)) ≡ map thin_row (map (row_turned new) rows)
rows_blind new [] = refl
rows_blind new (r ∷ rows) = λ i. row_blind new r i ∷ rows_blind new rows i

-- ## All of it

module _ (S s g : Step) (e : thin_step S ≡ thin_step s) (new stood : Nodes) (spots : NodeId → Option Spot) (told : ToldBack S g new stood spots) where
  -- what the way back over s says
  pub shown_back : (G : Step) × ToldBack s G new stood spots × (thin_step g ≡ thin_step G)
  shown_back = (
    record g { rows = map (row_turned new) s.rows },
    record {
      schema = told.schema ∙ (λ i. schema_back (e i).schema);
      new_nodes = told.new_nodes;
      rows = refl;
      regs = told.regs ∙ (λ i. map (register_back new) (e i).regs);
      loose = told.loose;
    },
    (λ i. record g { rows = (ap (map thin_row) told.rows ∙ sym (rows_blind new S.rows) ∙ (λ j. map thin_row (map (row_turned new) (e j).rows)) ∙ rows_blind new s.rows) i }),
  )
