-- What is done with a change that counts empty cells which it could name is what is done with one that names them, but for these.
use Rattle.std.proofs.Common.{◌≡◌, Bool, true, false, List, [], ◌∷◌, map, refl, sym, ap, ◌∙◌, subst}
use Rattle.st_ids.specs.declared.names.NodeId.{NodeId}
use Rattle.st_kind.specs.Named.{Nodes}
use Rattle.st_marks.specs.declared.changes.Change.{Change}
use Rattle.st_marks.specs.declared.marks.How.TheVariants.{Stay, Here, Leave}
use Rattle.st_marks.specs.declared.marks.RowMarks.{RowMarks}
use Rattle.st_marks.specs.declared.steps.Step.{Step}
use Rattle.st_marks.specs.Embedding.{is_among}
use Rattle.st_marks.specs.Listings.{nodes_new}
use Rattle.st_marks.specs.Row.{CellMark, Counted, Gap, Touch, Make, Fill, merge, spread}
use Rattle.st_mention_laws.specs.Shown.{thin, thin_marks, thin_row, thin_step, unnamed}
use Rattle.st_mention_laws.proofs.ThinForms.{spread-thin}
use Rattle.st_rows.specs.Cells.{effected_mark, voided_mark}
use Rattle.st_rows.specs.Changes.{placed_by}
use Rattle.st_rows.proofs.KindLaws.{spread-merge}
use Rattle.st_effect.specs.inside.Done.{AreRegistersDone, ListsDone, cells_done, loose_done, row_done, schema_done}

-- ## A cell and a row

effected_blind : (x : CellMark) → unnamed (effected_mark (unnamed x)) ≡ unnamed (effected_mark x)
effected_blind Counted = refl
effected_blind (Gap c) = refl
effected_blind (Touch c n Stay) = refl
effected_blind (Touch c n Here) = refl
effected_blind (Touch c n Leave) = refl
effected_blind (Make c n b) = refl
effected_blind (Fill c n) = refl

voided_blind : (placed : Nodes) (x : CellMark) → unnamed (voided_mark placed (unnamed x)) ≡ unnamed (voided_mark placed x)
voided_blind placed Counted = refl
voided_blind placed (Gap c) = refl
voided_blind placed (Touch c n h) = refl
voided_blind placed (Make c n b) = refl
voided_blind placed (Fill c n) = refl

mapped_blind : (f : CellMark → CellMark) → ((x : CellMark) → unnamed (f (unnamed x)) ≡ unnamed (f x)) → (cells : List CellMark) → map unnamed (map f (map unnamed cells)) ≡ map unnamed (map f cells)
mapped_blind f blind [] = refl
mapped_blind f blind (x ∷ cells) = λ i. blind x i ∷ mapped_blind f blind cells i

cells_blind : (void : Bool) (placed : Nodes) (cells : List CellMark) → map unnamed (cells_done void placed (map unnamed cells)) ≡ map unnamed (cells_done void placed cells)
cells_blind true placed cells = mapped_blind (voided_mark placed) (voided_blind placed) cells
cells_blind false placed cells = mapped_blind effected_mark effected_blind cells

thin_merged : (cells : List CellMark) → thin_marks (merge cells) ≡ merge (map unnamed cells)
thin_merged cells = ap (λ l. merge (map unnamed l)) (spread-merge cells)

row_blind : (void : Bool) (new : List NodeId) (r : RowMarks) → thin_row (row_done void new (thin_row r)) ≡ thin_row (row_done void new r)
row_blind void new r =
    let placed = placed_by (is_among new r.node) new in
    let marks : thin_marks (merge (cells_done void placed (spread (thin_marks r.marks)))) ≡ thin_marks (merge (cells_done void placed (spread r.marks)))
    = thin_merged (cells_done void placed (spread (thin_marks r.marks)))
    ∙ ap merge ((λ i. map unnamed (cells_done void placed (spread-thin r.marks i))) ∙ cells_blind void placed (spread r.marks))
    ∙ sym (thin_merged (cells_done void placed (spread r.marks))) in
    λ i. record { node = r.node; marks = marks i }

rows_blind : (void : Bool) (new : List NodeId) (rows : List RowMarks) → map thin_row (map (row_done void new) (map thin_row rows)) ≡ map thin_row (map (row_done void new) rows)
rows_blind void new [] = refl
rows_blind void new (r ∷ rows) = λ i. row_blind void new r i ∷ rows_blind void new rows i

rows_alike : (void : Bool) (new : List NodeId) (xs rows : List RowMarks) → map thin_row xs ≡ map thin_row rows → map thin_row (map (row_done void new) xs) ≡ map thin_row (map (row_done void new) rows)
rows_alike void new xs rows e = sym (rows_blind void new xs) ∙ ap (λ l. map thin_row (map (row_done void new) l)) e ∙ rows_blind void new rows

-- ## All of it

module _ (void : Bool) (X C : Change) (G : Step) (e : thin X ≡ thin C) (l : ListsDone void X G) (s : G.schema ≡ schema_done void X) where
  schema_same : (v : Bool) → schema_done v X ≡ schema_done v C
  schema_same true = refl
  schema_same false = λ i. schema_done false (e i)

  abbrev done : Step
  done = record G { rows = map (row_done void l.names) C.rows }

  -- what is done with C
  pub shown_done : (T : Step) × ListsDone void C T × (T.schema ≡ schema_done void C) × (thin_step G ≡ thin_step T)
  shown_done = (
    done,
    record {
      new = l.new ∙ (λ i. (e i).new);
      names = l.names;
      rising = l.rising;
      each = λ n. l.each n ∙ (λ i. is_among (nodes_new (e i).new) n);
      rows = refl;
      regs = subst (λ (c : Change). AreRegistersDone void c.rev l.names c.regs G.regs) e l.regs;
      loose = l.loose ∙ (λ i. map (loose_done void) (e i).loose);
    },
    s ∙ schema_same void,
    (λ i. record G { rows = (ap (map thin_row) l.rows ∙ rows_alike void l.names X.rows C.rows (ap (λ (c : Change). c.rows) e)) i }),
  )
