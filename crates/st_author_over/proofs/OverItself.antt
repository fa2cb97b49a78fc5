-- A step that lists nothing leads to the document from which it leads.
use Rattle.std.proofs.Common.{◌≡◌, ◌↔◌, Bool, true, false, List, [], ◌∷◌, None, refl, sym, ap, subst, if◌then◌else◌}
use Rattle.st_marks.specs.declared.changes.Change.{Change}
use Rattle.st_marks.specs.declared.places.Slot.{Slot}
use Rattle.st_marks.specs.declared.places.Spot.{Spot}
use Rattle.st_marks.specs.declared.steps.Step.{Step}
use Rattle.st_marks.specs.Document.{Document, content}
use Rattle.st_marks.specs.Embedding.{is_nowhere}
use Rattle.st_marks.specs.Listings.{cells_before, cells_made, is_among_cells}
use Rattle.st_marks.specs.Row.{spread}
use Rattle.st_normal.specs.Rules.{in_rows}
use Rattle.st_puts.specs.Meant.{IsOver}
use Rattle.st_puts.specs.Seen.{AreAsSeen}
use Rattle.st_author_laws.specs.Back.{IsOverBack, row_back}
use Rattle.st_author_over.specs.New.{MakesNewCells}
use Rattle.st_author_over.specs.inside.Seen.{no_step}
use Rattle.st_author_over.proofs.FreeCells.{CellsAreNew}

back-none : (d : List Slot) → row_back d [] ≡ d
back-none [] = refl
back-none (s ∷ d) = refl

nowhere-is : (s : Spot) → is_nowhere s ≡ true → s ≡ Spot.Nowhere
nowhere-is Spot.Nowhere e = refl
nowhere-is (Spot.Row a c) e = cc
nowhere-is (Spot.Register k) e = cc

pub over_itself : (D : Document) (C : Change) → IsOverBack no_step D C ↔ IsOver D C
over_itself D C = (
  λ x. record {
    rows = λ r h. subst (λ d. AreAsSeen d (cells_before (spread r.marks))) (back-none (content D r.node)) (x.rows r h);
    held = x.held;
    loose = λ l h. (let p = x.loose l h in (nowhere-is (D.place l.node) p.0, p.1));
    new_nodes = x.new_nodes;
    new_cells = x.new_cells;
    base = x.base;
    new_schema = x.new_schema;
  },
  λ x. record {
    rows = λ r h. subst (λ d. AreAsSeen d (cells_before (spread r.marks))) (sym (back-none (content D r.node))) (x.rows r h);
    held = x.held;
    loose = λ l h. (let p = x.loose l h in (ap is_nowhere p.0, p.1));
    new_nodes = x.new_nodes;
    new_cells = x.new_cells;
    base = x.base;
    new_schema = x.new_schema;
  },
)

-- what is in no row is in no row before a step
pub new_before : (S : Step) (T : Document) (C : Change) → MakesNewCells T C → CellsAreNew S T C
new_before S T C new c h = go (is_among_cells (in_rows cells_made S.rows) c)
  where
    go : (b : Bool) → (if b then None else T.row_of c) ≡ None
    go true = refl
    go false = new c h

pub over_as : (S : Step) (D : Document) (C : Change) → S ≡ no_step → IsOverBack S D C ↔ IsOver D C
over_as S D C e = subst (λ s. IsOverBack s D C ↔ IsOver D C) (sym e) (over_itself D C)
