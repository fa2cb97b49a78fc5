-- A row and a register of a step after a change, by what the two say of it, each of them listed or not.
use Rattle.std.specs.Prelude.{Bool, false, List, Option, Some, None, if◌then◌else◌}
use Rattle.std.specs.Option.{option_or}
use Rattle.st_ids.specs.declared.names.FieldId.{FieldId}
use Rattle.st_ids.specs.declared.names.NodeId.{NodeId}
use Rattle.st_kind.specs.Named.{Nodes}
use Rattle.st_marks.specs.declared.intents.To.{To}
use Rattle.st_marks.specs.declared.marks.RegMark.{RegMark}
use Rattle.st_marks.specs.declared.marks.RegStep.{RegStep}
use Rattle.st_marks.specs.declared.marks.RowMarks.{RowMarks}
use Rattle.st_marks.specs.Embedding.{row_marks}
use Rattle.st_marks.specs.Row.{CellMark, spread}
use Rattle.st_moves.specs.Carried.{goal_of}
use Rattle.st_moves.specs.inside.Rows.{bare}
use Rattle.st_register.specs.Register.{only_made, unless_put}
use Rattle.st_reading.specs.Bridge.{crossed_row}

-- a row that both list
abbrev pub across_both : Bool → Bool → Bool → Nodes → (NodeId → Option To) → NodeId → List CellMark → List CellMark → Option RowMarks
across_both l was is placed target_of n xs ys = row_marks n (crossed_row l was is placed target_of xs ys)

-- where one lists nothing, it tells nothing of the cells that the other finds
abbrev pub row_across : Bool → Bool → Bool → Nodes → (NodeId → Option To) → NodeId → Option RowMarks → Option RowMarks → Option RowMarks
row_across l was is placed target_of n None None = None
row_across l was is placed target_of n (Some c) None = across_both l was is placed target_of n (spread c.marks) (bare (spread c.marks))
row_across l was is placed target_of n None (Some s) = across_both l was is placed target_of n (bare (spread s.marks)) (spread s.marks)
row_across l was is placed target_of n (Some c) (Some s) = across_both l was is placed target_of n (spread c.marks) (spread s.marks)

-- who is in a register after a change, void or not, by whether it clears the register, whom it puts there, and who was there
abbrev pub held_across : Bool → Nodes → (NodeId → Option To) → FieldId → Bool → Option NodeId → Option NodeId → Option NodeId
held_across void makes target_of f clear goal held =
    if void then (if makes f.node then only_made makes goal else held) else option_or goal (if clear then None else unless_put target_of held)

-- a register of a step after a change, by what the two say of it, each of them listed or not
abbrev pub register_across : Bool → Bool → Nodes → (NodeId → Option To) → FieldId → Option RegMark → Option RegStep → Option RegStep
register_across was is makes target_of f None None = None
register_across was is makes target_of f None (Some s) = Some (record {
  field = f;
  before = held_across was makes target_of f false None s.before;
  after = held_across is makes target_of f false None s.after;
})
register_across was is makes target_of f (Some c) None = Some (record {
  field = f;
  before = held_across was makes target_of f c.clear (goal_of c) c.held;
  after = held_across is makes target_of f c.clear (goal_of c) c.held;
})
register_across was is makes target_of f (Some c) (Some s) = Some (record {
  field = f;
  before = held_across was makes target_of f c.clear (goal_of c) c.held;
  after = held_across is makes target_of f c.clear (goal_of c) s.after;
})
