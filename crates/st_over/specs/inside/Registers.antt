-- A register of a change over that of a step, each of them listed or not.
use Rattle.std.specs.Prelude.{false, List, Option, Some, None}
use Rattle.st_ids.specs.Listing.{item_of}
use Rattle.st_ids.specs.Order.{field_cmp}
use Rattle.st_ids.specs.declared.names.FieldId.{FieldId}
use Rattle.st_ids.specs.declared.names.NodeId.{NodeId}
use Rattle.st_kind.specs.Named.{Nodes}
use Rattle.st_marks.specs.declared.intents.To.{To}
use Rattle.st_marks.specs.declared.marks.RegMark.{RegMark}
use Rattle.st_marks.specs.declared.marks.RegStep.{RegStep}
use Rattle.st_moves.specs.Carried.{goal_of, register_mark}

-- a register after the step, by what the two say of it, if they list it: whom the change puts there it says itself, and who is
-- there the step says
abbrev pub register_listed : FieldId → (NodeId → Option To) → Nodes → Option RegMark → Option RegStep → Option RegMark
register_listed f target_of m None None = None
register_listed f target_of m None (Some s) = register_mark f target_of m false None s.after
register_listed f target_of m (Some c) None = register_mark f target_of m c.clear (goal_of c) c.held
register_listed f target_of m (Some c) (Some s) = register_mark f target_of m c.clear (goal_of c) s.after

-- the register of a name
abbrev pub register_beside : (NodeId → Option To) → Nodes → List RegMark → List RegStep → FieldId → Option RegMark
register_beside target_of m cs ss f = register_listed f target_of m
    (item_of field_cmp (λ (r : RegMark). r.field) cs f) (item_of field_cmp (λ (r : RegStep). r.field) ss f)
