-- A listing of what differs alone is cut to the same, whoever is named.
use Rattle.std.proofs.Common.{◌≡◌, ℕ, zero, suc, Bool, true, false, ◌||◌, not, if◌then◌else◌, List, [], ◌∷◌, map, filter, refl, sym, ap, ◌∙◌}
use Rattle.std.specs.List.{cons_option, filter_map, list_any}
use Rattle.st_ids.specs.Order.{same_node}
use Rattle.st_kind.specs.Named.{Nodes}
use Rattle.st_marks.specs.declared.marks.How.TheVariants.{Stay, Here, Leave}
use Rattle.st_marks.specs.declared.marks.Loose.{Loose}
use Rattle.st_marks.specs.declared.marks.Mark.{Mark}
use Rattle.st_marks.specs.declared.marks.RegStep.{RegStep}
use Rattle.st_marks.specs.declared.marks.RowMarks.{RowMarks}
use Rattle.st_marks.specs.declared.steps.Step.{Step}
use Rattle.st_marks.specs.Embedding.{row_marks}
use Rattle.st_marks.specs.Intent.{same_option}
use Rattle.st_marks.specs.Register.{holds_mentioned}
use Rattle.st_marks.specs.Row.{CellMark, Counted, Touch, counted_cells, spread}
use Rattle.st_trim.specs.Trimmed.{trim_mark}
use Rattle.st_trim.specs.inside.Cut.{IsCutTo, TellsOfChangesAlone, cut_row, names_stay, tells_register}

-- neither of two
left_no : (a b : Bool) → (a || b) ≡ false → a ≡ false
left_no true b e = cc
left_no false b e = refl

right_no : (a b : Bool) → (a || b) ≡ false → b ≡ false
right_no true b e = cc
right_no false b e = e

true-false : true ≡ false → ⊥
true-false e = cc

module _ (k j : Nodes) where
  counts_alike : (n : ℕ) (cells : List CellMark) → map (trim_mark k) cells ≡ map (trim_mark j) cells → map (trim_mark k) (counted_cells n cells) ≡ map (trim_mark j) (counted_cells n cells)
  counts_alike zero cells e = e
  counts_alike (suc n) cells e = ap (λ cs. Counted ∷ cs) (counts_alike n cells e)

  -- marks that name nobody who stays
  marks_alike : (ms : List Mark) → list_any names_stay ms ≡ false → map (trim_mark k) (spread ms) ≡ map (trim_mark j) (spread ms)
  marks_alike [] e = refl
  marks_alike (Mark.Skip n ∷ ms) e = counts_alike n (spread ms) (marks_alike ms e)
  marks_alike (Mark.Gap c ∷ ms) e = ap (λ cs. trim_mark k (CellMark.Gap c) ∷ cs) (marks_alike ms e)
  marks_alike (Mark.Touch c n Stay ∷ ms) e = absurd (true-false e)
  marks_alike (Mark.Touch c n Here ∷ ms) e = ap (λ cs. trim_mark k (Touch c n Here) ∷ cs) (marks_alike ms e)
  marks_alike (Mark.Touch c n Leave ∷ ms) e = ap (λ cs. trim_mark k (Touch c n Leave) ∷ cs) (marks_alike ms e)
  marks_alike (Mark.Make c n b ∷ ms) e = ap (λ cs. trim_mark k (CellMark.Make c n b) ∷ cs) (marks_alike ms e)
  marks_alike (Mark.Fill c n ∷ ms) e = ap (λ cs. trim_mark k (CellMark.Fill c n) ∷ cs) (marks_alike ms e)

  rows_alike : (rows : List RowMarks) → list_any (λ (r : RowMarks). list_any names_stay r.marks) rows ≡ false → filter_map (cut_row k) rows ≡ filter_map (cut_row j) rows
  rows_alike [] e = refl
  rows_alike (r ∷ rows) e =
      let one : cut_row k r ≡ cut_row j r = ap (row_marks r.node) (marks_alike r.marks (left_no _ _ e)) in
      λ i. cons_option (one i) (rows_alike rows (right_no _ _ e) i)

  register_alike : (r : RegStep) → same_option same_node r.before r.after ≡ false → tells_register k r ≡ tells_register j r
  register_alike r e = ap (λ b. not b || holds_mentioned k r.before) e ∙ sym (ap (λ b. not b || holds_mentioned j r.before) e)

  registers_alike : (regs : List RegStep) → list_any (λ (r : RegStep). same_option same_node r.before r.after) regs ≡ false → filter (tells_register k) regs ≡ filter (tells_register j) regs
  registers_alike [] e = refl
  registers_alike (r ∷ regs) e = λ i. if register_alike r (left_no _ _ e) i then r ∷ registers_alike regs (right_no _ _ e) i else registers_alike regs (right_no _ _ e) i

  pub cut_alike : (G T : Step) → TellsOfChangesAlone G → IsCutTo k G T → IsCutTo j G T
  cut_alike G T t c = record {
    schema = c.schema;
    new = c.new;
    rows = λ short. c.rows short ∙ rows_alike G.rows t.rows;
    regs = c.regs ∙ registers_alike G.regs t.regs;
    loose = c.loose ∙ ap (filter (λ (l : Loose). k l.node)) t.loose ∙ sym (ap (filter (λ (l : Loose). j l.node)) t.loose);
  }
