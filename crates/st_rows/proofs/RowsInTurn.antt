-- Two steps of a row in turn.
use Rattle.std.proofs.Common.{◌≡◌, Bool, true, false, List, ◌∷◌, ◌||◌, cond, refl, sym, ap, ◌∙◌}
use Rattle.st_ids.specs.declared.names.CellId.{CellId}
use Rattle.st_ids.specs.declared.names.NodeId.{NodeId}
use Rattle.st_marks.specs.declared.marks.How.TheVariants.{Stay, Leave}
use Rattle.st_marks.specs.declared.places.Slot.{Slot}
use Rattle.st_marks.specs.Extends.{GainsItems, no_more, item_gained, item_kept}
use Rattle.st_marks.specs.Row.{CellMark, Counted, Touch, Make, Fill, SameCell, step_cell, step_row}
use Rattle.st_rows.specs.Cells.{composed_mark, compose_row}
use Rattle.st_kind.specs.Named.{either}
use Rattle.st_rows.specs.Rows.{NamesLeavers}
use Rattle.st_lemmas.proofs.Bools.{or-right, or-left}

abbrev pub grows_on : {c d e : List Slot} → GainsItems SameCell c d → GainsItems SameCell d e → GainsItems SameCell c e
grows_on g no_more = g
grows_on g (item_gained h) = item_gained (grows_on g h)
grows_on (item_gained g) (item_kept a h) = item_gained (grows_on g h)
grows_on (item_kept a g) (item_kept b h) = item_kept (a.0 ∙ b.0, a.1 ∙ b.1) (grows_on g h)

compose-step_cell : (x : CellMark) (xs ys : List CellMark) (m : NodeId → Bool) (c : CellId) (n : NodeId) (a b : Bool) → compose_row (x ∷ xs) (step_cell m c n a b ∷ ys) ≡ composed_mark x (step_cell m c n a b) ∷ compose_row xs ys
compose-step_cell x xs ys m c n true true =
    elim (m n) as (λ b. compose_row (x ∷ xs) (cond b (Touch c n Stay) Counted ∷ ys) ≡ composed_mark x (cond b (Touch c n Stay) Counted) ∷ compose_row xs ys) [ true ↦ refl | false ↦ refl ]
compose-step_cell x xs ys m c n true false = refl
compose-step_cell x xs ys m c n false true = refl
compose-step_cell x xs ys m c n false false = refl

composed-made : (m : NodeId → Bool) (c : CellId) (n : NodeId) (a b : Bool) → composed_mark (Make c n a) (step_cell m c n a b) ≡ Make c n b
composed-made m c n true true = elim (m n) as (λ b. composed_mark (Make c n true) (cond b (Touch c n Stay) Counted) ≡ Make c n true) [ true ↦ refl | false ↦ refl ]
composed-made m c n true false = refl
composed-made m c n false true = refl
composed-made m c n false false = refl

touches : (x y : Bool) (c : CellId) (n : NodeId) → composed_mark (cond x (Touch c n Stay) Counted) (cond y (Touch c n Stay) Counted) ≡ cond (x || y) (Touch c n Stay) Counted
touches true true c n = refl
touches true false c n = refl
touches false true c n = refl
touches false false c n = refl

leaves : (x : Bool) (c : CellId) (n : NodeId) → composed_mark (cond x (Touch c n Stay) Counted) (Touch c n Leave) ≡ Touch c n Leave
leaves true c n = refl
leaves false c n = refl

fills : (x : Bool) (c : CellId) (n : NodeId) → composed_mark (Fill c n) (cond x (Touch c n Stay) Counted) ≡ Fill c n
fills true c n = refl
fills false c n = refl

composed-step_cell : (m k : NodeId → Bool) (c : CellId) (n : NodeId) (a b e : Bool) → (a ≡ true → b ≡ false → m n ≡ true) → composed_mark (step_cell m c n a b) (step_cell k c n b e) ≡ step_cell (either m k) c n a e
composed-step_cell m k c n true true true h = touches (m n) (k n) c n
composed-step_cell m k c n true true false h = leaves (m n) c n
composed-step_cell m k c n true false true h = rw (h refl refl) refl
composed-step_cell m k c n true false false h = refl
composed-step_cell m k c n false true true h = fills (k n) c n
composed-step_cell m k c n false true false h = refl
composed-step_cell m k c n false false true h = refl
composed-step_cell m k c n false false false h = refl

pub compose_row-step_row : (m k : NodeId → Bool) {d e : List Slot} (h : GainsItems SameCell d e) {c : List Slot} (g : GainsItems SameCell c d) → NamesLeavers m g → compose_row (step_row m g) (step_row k h) ≡ step_row (either m k) (grows_on g h)
compose_row-step_row m k no_more no_more l = refl
compose_row-step_row m k (item_gained {y = t} h) g l = ap (λ l. Make t.cell t.node t.full ∷ l) (compose_row-step_row m k h g l)
compose_row-step_row m k (item_kept {y = t} a h) (item_gained {y = s} g) l =
    compose-step_cell (Make s.cell s.node s.full) (step_row m g) (step_row k h) k s.cell s.node s.full t.full
    ∙ (λ i. (composed-made k s.cell s.node s.full t.full ∙ (λ j. Make (a.0 j) (a.1 j) t.full)) i ∷ compose_row-step_row m k h g l i)
compose_row-step_row m k (item_kept {y = t} b h) (item_kept {x = r} {y = s} a g) l =
    compose-step_cell (step_cell m r.cell r.node r.full s.full) (step_row m g) (step_row k h) k s.cell s.node s.full t.full
    ∙ (λ i. (ap (λ (x : CellMark). composed_mark (step_cell m r.cell r.node r.full s.full) x) (λ j. step_cell k (sym a.0 j) (sym a.1 j) s.full t.full) ∙ composed-step_cell m k r.cell r.node r.full s.full t.full l.0) i ∷ compose_row-step_row m k h g l.1 i)

pub leavers_named : (m k : NodeId → Bool) {d e : List Slot} (h : GainsItems SameCell d e) {c : List Slot} (g : GainsItems SameCell c d) → NamesLeavers m g → NamesLeavers k h → NamesLeavers (either m k) (grows_on g h)
leavers_named m k no_more no_more l r = tt
leavers_named m k (item_gained h) g l r = leavers_named m k h g l r
leavers_named m k (item_kept b h) (item_gained g) l r = leavers_named m k h g l r.1
leavers_named m k (item_kept {y = u} b h) (item_kept {x = s} {y = t} a g) l r = (λ e f. changed t.full refl e f, leavers_named m k h g l.1 r.1)
  where
    changed : (x : Bool) → t.full ≡ x → s.full ≡ true → u.full ≡ false → (m s.node || k s.node) ≡ true
    changed true q e f = or-right (m s.node) (k s.node) (ap k a.1 ∙ r.0 q f)
    changed false q e f = or-left (m s.node) (k s.node) (l.0 e q)
