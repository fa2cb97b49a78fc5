-- The nodes that a step names.
use Rattle.std.specs.Prelude.{List, [], ◌∷◌, ◌++◌, if◌then◌else◌}
use Rattle.std.specs.List.{flat_map}
use Rattle.st_ids.specs.declared.names.FieldId.{FieldId}
use Rattle.st_ids.specs.declared.names.NodeId.{NodeId}
use Rattle.st_kind.specs.Named.{Nodes}
use Rattle.st_marks.specs.declared.marks.Mark.{Mark}
use Rattle.st_marks.specs.declared.marks.RegStep.{RegStep}
use Rattle.st_marks.specs.declared.steps.Step.{Step}
use Rattle.st_marks.specs.Agree.{row_field}
use Rattle.st_marks.specs.Listings.{nodes_loose, nodes_new, nodes_of_rows, one_or_none}

-- the node in a mark, the owner of an empty cell too
abbrev pub node_of_mark : Mark → List NodeId
node_of_mark (Mark.Skip k) = []
node_of_mark (Mark.Gap c) = []
node_of_mark (Mark.Touch c n h) = n ∷ []
node_of_mark (Mark.Make c n b) = n ∷ []
node_of_mark (Mark.Fill c n) = n ∷ []

-- the nodes that a register names
abbrev pub nodes_of_register : RegStep → List NodeId
nodes_of_register r = r.field.node ∷ (one_or_none r.before ++ one_or_none r.after)

-- the nodes that a step names
abbrev pub nodes_of_step : Step → List NodeId
nodes_of_step S = nodes_new S.new ++ nodes_of_rows S.rows ++ flat_map nodes_of_register S.regs ++ nodes_loose S.loose

-- the row of a node that is made
abbrev pub made_again : Nodes → NodeId → List FieldId
made_again made n = if made n then row_field n ∷ [] else []
