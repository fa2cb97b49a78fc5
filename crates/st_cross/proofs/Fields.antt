-- The names of rows and registers that are looked up, and those that neither side lists.
use Rattle.std.proofs.Common.{◌≡◌, Bool, true, false, ◌&&◌, List, Option, Some, None, sym, ap, ◌∙◌}
use mathlib.Core.Path.{fun_ext}
use Rattle.std.specs.List.{list_any}
use Rattle.st_ids.specs.Listing.{item_of}
use Rattle.st_ids.specs.Order.{field_cmp, node_cmp}
use Rattle.st_ids.specs.declared.names.FieldId.{FieldId}
use Rattle.st_ids.specs.declared.names.NodeId.{NodeId}
use Rattle.st_kind.specs.Named.{Nodes}
use Rattle.st_lemmas.proofs.Options.{one_some}
use Rattle.st_marks.specs.declared.intents.To.{To}
use Rattle.st_marks.specs.declared.marks.RegMark.{RegMark}
use Rattle.st_marks.specs.declared.marks.RegStep.{RegStep}
use Rattle.st_marks.specs.declared.marks.RowMarks.{RowMarks}
use Rattle.st_marks.specs.Embedding.{row_marks, tells}
use Rattle.st_marks.specs.Row.{CellMark, merge, spread}
use Rattle.st_moves.specs.inside.Rows.{bare}
use Rattle.st_puts.proofs.ListedIf.{shown-Some}
use Rattle.st_reading.specs.Bridge.{crossed_row}
use Rattle.st_over.specs.Across.{register_across, row_across}
use Rattle.st_cross.specs.Fields.{placed_in, register_at, row_at}

-- the row of a new node has all new nodes, and that of an old one none
pub placed_all : (made : Nodes) (n : NodeId) → made n ≡ true → made ≡ placed_in made n
placed_all made n e = fun_ext (λ k. ap (λ b. b && made k) (sym e))

pub placed_none : (made none : Nodes) (n : NodeId) → made n ≡ false → ((k : NodeId) → none k ≡ false) → none ≡ placed_in made n
placed_none made none n e f = fun_ext (λ k. f k ∙ ap (λ b. b && made k) (sym e))

pub row_named : (l was is : Bool) (made : Nodes) (t : NodeId → Option To) (cs ss : List RowMarks) (n : NodeId) (r : RowMarks) → row_at l was is made t cs ss n ≡ Some r → r.node ≡ n
row_named l was is made t cs ss n r h = go (item_of node_cmp (λ (r : RowMarks). r.node) cs n) (item_of node_cmp (λ (r : RowMarks). r.node) ss n) h
  where
    one : (us : List CellMark) → row_marks n us ≡ Some r → r.node ≡ n
    one us e = ap (λ (z : RowMarks). z.node) (shown-Some (list_any tells us) (record { node = n; marks = merge us }) r e)

    go : (c s : Option RowMarks) → row_across l was is (placed_in made n) t n c s ≡ Some r → r.node ≡ n
    go None None e = cc
    go (Some c) None e = one (crossed_row l was is (placed_in made n) t (spread c.marks) (bare (spread c.marks))) e
    go None (Some s) e = one (crossed_row l was is (placed_in made n) t (bare (spread s.marks)) (spread s.marks)) e
    go (Some c) (Some s) e = one (crossed_row l was is (placed_in made n) t (spread c.marks) (spread s.marks)) e

pub register_named : (was is : Bool) (made : Nodes) (t : NodeId → Option To) (cs : List RegMark) (ss : List RegStep) (f : FieldId) (r : RegStep) → register_at was is made t cs ss f ≡ Some r → r.field ≡ f
register_named was is made t cs ss f r h = go (item_of field_cmp (λ (r : RegMark). r.field) cs f) (item_of field_cmp (λ (r : RegStep). r.field) ss f) h
  where
    go : (c : Option RegMark) (s : Option RegStep) → register_across was is made t f c s ≡ Some r → r.field ≡ f
    go None None e = cc
    go (Some c) None e = ap (λ (z : RegStep). z.field) (sym (one_some _ r e))
    go None (Some s) e = ap (λ (z : RegStep). z.field) (sym (one_some _ r e))
    go (Some c) (Some s) e = ap (λ (z : RegStep). z.field) (sym (one_some _ r e))
