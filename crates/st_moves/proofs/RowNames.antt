-- The names of what is listed beside a step.
use Rattle.std.proofs.Common.{◌≡◌, ◌||◌, Bool, true, false, cond, List, Option, Some, None, is_some, refl, sym, ap, ◌∙◌}
use Rattle.std.specs.List.{list_any}
use Rattle.st_ids.specs.Listing.{item_of}
use Rattle.st_ids.specs.Order.{field_cmp, node_cmp}
use Rattle.st_ids.specs.declared.names.FieldId.{FieldId}
use Rattle.st_ids.specs.declared.names.NodeId.{NodeId}
use Rattle.st_marks.specs.declared.intents.To.{To}
use Rattle.st_marks.specs.declared.marks.Mark.{Mark}
use Rattle.st_marks.specs.declared.marks.RegMark.{RegMark}
use Rattle.st_marks.specs.declared.marks.RegStep.{RegStep}
use Rattle.st_marks.specs.declared.marks.RowMarks.{RowMarks}
use Rattle.st_marks.specs.Embedding.{row_marks, tells}
use Rattle.st_marks.specs.Listings.{cells_before}
use Rattle.st_marks.specs.Register.{RegisterPart, embed_register, holds_mentioned}
use Rattle.st_marks.specs.Row.{CellMark, spread}
use Rattle.st_rows.specs.Differences.{first_difference}
use Rattle.st_moves.specs.Carried.{carried_register, carry_row, goal_of, held_between}
use Rattle.st_moves.specs.inside.Registers.{register_beside}
use Rattle.st_moves.specs.inside.Rows.{bare, listed_row, row_beside, row_listed}

pub either_none : (a b : Bool) → (a || b) ≡ false → (a ≡ false) × (b ≡ false)
either_none true b e = cc
either_none false b e = (refl, e)

picked : {A K : Type 0} (key : A → K) (k : K) (b : Bool) (y x : A) → key y ≡ k → cond b (Some y) None ≡ Some x → key x ≡ k
picked key k true y x e h = let q : y ≡ x = cc in ap key (sym q) ∙ e
picked key k false y x e h = cc

row-node : (n : NodeId) (cells : List CellMark) (r : RowMarks) → row_marks n cells ≡ Some r → r.node ≡ n
row-node n cells r h = picked (λ (x : RowMarks). x.node) n (list_any tells cells) _ r refl h

listed-node : (n : NodeId) (ms : List Mark) (r : RowMarks) → listed_row n ms ≡ Some r → r.node ≡ n
listed-node n ms r h = picked (λ (x : RowMarks). x.node) n (list_any tells (spread ms)) _ r refl h

pub row_named : (target_of : NodeId → Option To) (m : NodeId → Bool) (cs ss : List RowMarks) (n : NodeId) (r : RowMarks) → row_beside target_of m cs ss n ≡ Some r → r.node ≡ n
row_named target_of m cs ss n r h = go (item_of node_cmp (λ (r : RowMarks). r.node) cs n) (item_of node_cmp (λ (r : RowMarks). r.node) ss n) h
  where
    both : (b : Bool) (c s : List Mark) → cond b (listed_row n c) (row_marks n (carry_row target_of m (spread c) (spread s))) ≡ Some r → r.node ≡ n
    both true c s h = listed-node n c r h
    both false c s h = row-node n (carry_row target_of m (spread c) (spread s)) r h

    go : (c s : Option RowMarks) → row_listed target_of m n c s ≡ Some r → r.node ≡ n
    go None None h = cc
    go (Some c) None h = row-node n (carry_row target_of m (spread c.marks) (bare (spread c.marks))) r h
    go None (Some s) h = row-node n (carry_row target_of m (bare (spread s.marks)) (spread s.marks)) r h
    go (Some c) (Some s) h = both (is_some (first_difference (cells_before (spread c.marks)) (cells_before (spread s.marks)))) c.marks s.marks h

register-field : (f : FieldId) (p : RegisterPart) (held : Option NodeId) (r : RegMark) → embed_register f p held ≡ Some r → r.field ≡ f
register-field f p held r h = picked (λ (x : RegMark). x.field) f (p.clear || holds_mentioned p.mentioned held) _ r refl h

pub register_named : (target_of : NodeId → Option To) (m : NodeId → Bool) (cs : List RegMark) (ss : List RegStep) (f : FieldId) (r : RegMark) → register_beside target_of m cs ss f ≡ Some r → r.field ≡ f
register_named target_of m cs ss f r h = go (item_of field_cmp (λ (r : RegMark). r.field) cs f) (item_of field_cmp (λ (r : RegStep). r.field) ss f) h
  where
    go : (c : Option RegMark) (s : Option RegStep) → carried_register f target_of m c s ≡ Some r → r.field ≡ f
    go None None h = cc
    go None (Some s) h = register-field f (record { clear = false; fill = None; target_of = target_of; mentioned = m }) (held_between m s.before s.after) r h
    go (Some c) None h = register-field f (record { clear = c.clear; fill = goal_of c; target_of = target_of; mentioned = m }) (held_between m c.held c.held) r h
    go (Some c) (Some s) h = register-field f (record { clear = c.clear; fill = goal_of c; target_of = target_of; mentioned = m }) (held_between m c.held s.after) r h
