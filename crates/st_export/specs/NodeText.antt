-- What the text of a node is.
use Rattle.std.specs.Prelude.{◌≡◌, ℕ, Bool, List}
use Rattle.serde_json.specs.Data.{Data}
use Rattle.serde_json.specs.Written.{compact_text}
use Rattle.st_ids.specs.declared.names.NodeId.{NodeId}
use Rattle.st_marks.specs.Document.{Document}
use Rattle.st_marks.specs.LiveTree.{Shows}

-- the text of what is shown at a node and beneath it: the JSON of the node, without blanks. Of the root it is the text of the live tree
abbrev pub IsNodeText : (List ℕ → Bool) → Document → NodeId → List ℕ → Type 0
IsNodeText is_array D n text = (d : Data) × Shows is_array D n d × (text ≡ compact_text d)
