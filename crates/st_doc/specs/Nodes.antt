-- What a node is, as the document keeps it.
use Rattle.std.specs.Prelude.{Option, option_map}
use Rattle.st_marks.specs.declared.changes.NewNode.{NewNode}
use Rattle.st_marks.specs.Document.{NodeType}

-- the type and the leaf value of a node, if it is there
abbrev pub type_of : Option NewNode → Option NodeType
type_of node = option_map (λ (m : NewNode). record { ty = m.ty; leaf = m.leaf }) node
