-- The JSON form of a leaf.
use Rattle.serde_json.specs.Data.{Data, null, boolean, number, string}
use Rattle.serde_json.specs.Find.{of_integer}
use Rattle.st_ids.specs.declared.names.Leaf.{Leaf}

-- a leaf is shown as its value
abbrev pub leaf_data : Leaf → Data
leaf_data Leaf.Null = null
leaf_data (Leaf.Bool b) = boolean b
leaf_data (Leaf.Int i) = number (of_integer i)
leaf_data (Leaf.Words text) = string text
