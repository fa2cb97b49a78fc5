-- A walk through the nodes that are shown, each before those beneath it: backwards it makes each node's value from theirs,
-- which are then the last that were made.
use Rattle.std.specs.Prelude.{◌≡◌, List, [], ◌∷◌, ◌++◌, length}
use Rattle.st_ids.specs.declared.names.NodeId.{NodeId}
use Rattle.st_export.specs.declared.walk.Visit.{Visit}

-- from nodes that are to be met to others that are still to be: each visit is one to the last of them, whose place those
-- beneath it take, and tells how many others there are
abbrev pub IsWalk : (NodeId → List NodeId) → List NodeId → List Visit → List NodeId → Type 0
IsWalk beneath todo [] left = todo ≡ left
IsWalk beneath todo (v ∷ vs) left = (rest : List NodeId) × (todo ≡ rest ++ v.node ∷ []) × (v.others ≡ length rest) × IsWalk beneath (rest ++ beneath v.node) vs left
