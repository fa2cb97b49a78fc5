-- Registers that one step leaves and another finds.
use Rattle.std.specs.Prelude.{Bool, not, ◌&&◌, List, [], ◌∷◌, Option, Some, None, if◌then◌else◌}
use Rattle.st_ids.specs.Listing.{item_of}
use Rattle.st_ids.specs.Order.{field_cmp, same_node}
use Rattle.st_ids.specs.declared.names.FieldId.{FieldId}
use Rattle.st_ids.specs.declared.names.NodeId.{NodeId}
use Rattle.st_kind.specs.Named.{Nodes}
use Rattle.st_marks.specs.declared.marks.RegStep.{RegStep}
use Rattle.st_marks.specs.Intent.{same_option}

-- whether a register that is found so was left with another occupant; one of a node that was made, and isn't listed, was left empty
abbrev pub holds_otherwise : Option RegStep → Bool → Option NodeId → Bool
holds_otherwise None made held = made && not (same_option same_node None held)
holds_otherwise (Some r) made held = not (same_option same_node r.after held)

-- the register, if it was left with another occupant than is found
abbrev pub register_apart : List RegStep → Nodes → RegStep → List FieldId
register_apart lefts made r = if holds_otherwise (item_of field_cmp (λ (l : RegStep). l.field) lefts r.field) (made r.field.node) r.before then r.field ∷ [] else []
