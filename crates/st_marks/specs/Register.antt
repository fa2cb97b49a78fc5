-- One register: what a step and a change say of it.
use Rattle.std.specs.Prelude.{Bool, false, ◌||◌, not, Option, Some, None, if◌then◌else◌}
use Rattle.std.specs.Option.{option_map_or}
use Rattle.st_ids.specs.Order.{same_node}
use Rattle.st_ids.specs.declared.names.FieldId.{FieldId}
use Rattle.st_ids.specs.declared.names.NodeId.{NodeId}
use Rattle.st_marks.specs.declared.intents.To.{To}
use Rattle.st_marks.specs.declared.marks.How.{How}
use Rattle.st_marks.specs.declared.marks.How.TheVariants.{Stay}
use Rattle.st_marks.specs.declared.marks.RegMark.{RegMark}
use Rattle.st_marks.specs.declared.marks.RegStep.{RegStep}
use Rattle.st_marks.specs.Intent.{same_option}
use Rattle.st_marks.specs.Row.{how}

-- whether a mentioned node is in the register
abbrev pub holds_mentioned : (NodeId → Bool) → Option NodeId → Bool
holds_mentioned mentioned held = option_map_or mentioned held false

-- ## A register over a step

-- the register is listed where the occupant differs or is mentioned
abbrev pub step_register : FieldId → (NodeId → Bool) → Option NodeId → Option NodeId → Option RegStep
step_register f mentioned before after =
    if not (same_option same_node before after) || holds_mentioned mentioned before
    then Some (record { field = f; before = before; after = after })
    else None

-- ## A register and an intent

-- the part of an intent that concerns one register
pub record RegisterPart : Type 0 where
  -- whether it clears the register
  pub clear : Bool
  -- which node it puts there
  pub fill : Option NodeId
  -- where it puts a node
  pub target_of : NodeId → Option To
  pub mentioned : NodeId → Bool

-- what becomes of the occupant
abbrev pub how_held : FieldId → RegisterPart → Option NodeId → How
how_held f p None = Stay
how_held f p (Some n) = how (p.target_of n) (To.Register f)

-- which node comes in, unless it is there already
abbrev pub comes_in : Option NodeId → Option NodeId → Option NodeId
comes_in held fill = if same_option same_node held fill then None else fill

-- the register is listed where it is cleared, or the occupant is mentioned
abbrev pub embed_register : FieldId → RegisterPart → Option NodeId → Option RegMark
embed_register f p held =
    if p.clear || holds_mentioned p.mentioned held
    then Some (record { field = f; held = held; how = how_held f p held; clear = p.clear; fill = comes_in held p.fill })
    else None
