-- The nodes that a change or a step names.
use Rattle.std.specs.Prelude.{List, [], ◌∷◌, ◌++◌, if◌then◌else◌}
use Rattle.std.specs.List.{flat_map}
use Rattle.st_ids.specs.declared.names.FieldId.{FieldId}
use Rattle.st_ids.specs.declared.names.NodeId.{NodeId}
use Rattle.st_marks.specs.declared.changes.Change.{Change}
use Rattle.st_marks.specs.declared.changes.NewNode.{NewNode}
use Rattle.st_marks.specs.declared.marks.Mark.{Mark}
use Rattle.st_marks.specs.declared.marks.RegMark.{RegMark}
use Rattle.st_marks.specs.declared.marks.RegStep.{RegStep}
use Rattle.st_marks.specs.declared.steps.Step.{Step}
use Rattle.st_marks.specs.Agree.{row_field}
use Rattle.st_marks.specs.Embedding.{is_among}
use Rattle.st_marks.specs.Listings.{nodes_loose, nodes_new, nodes_of_rows, one_or_none}

-- the node in a mark, the owner of an empty cell too
abbrev pub node_of_mark : Mark → List NodeId
node_of_mark (Mark.Skip k) = []
node_of_mark (Mark.Gap c) = []
node_of_mark (Mark.Touch c n h) = n ∷ []
node_of_mark (Mark.Make c n b) = n ∷ []
node_of_mark (Mark.Fill c n) = n ∷ []

-- the nodes that a register of a change names
abbrev pub nodes_of_register : RegMark → List NodeId
nodes_of_register r = r.field.node ∷ (one_or_none r.held ++ one_or_none r.fill)

-- the nodes that a register of a step names
abbrev pub nodes_over_register : RegStep → List NodeId
nodes_over_register r = r.field.node ∷ (one_or_none r.before ++ one_or_none r.after)

-- the nodes that a change names
abbrev pub nodes_of_change : Change → List NodeId
nodes_of_change C = C.need ++ nodes_new C.new ++ nodes_of_rows C.rows ++ flat_map nodes_of_register C.regs ++ nodes_loose C.loose

-- the nodes that a step names
abbrev pub nodes_of_step : Step → List NodeId
nodes_of_step S = nodes_new S.new ++ nodes_of_rows S.rows ++ flat_map nodes_over_register S.regs ++ nodes_loose S.loose

-- the row of a node that is among new ones
abbrev pub made_again : List NewNode → NodeId → List FieldId
made_again new n = if is_among (nodes_new new) n then row_field n ∷ [] else []
