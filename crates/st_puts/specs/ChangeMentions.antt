-- Which nodes a change lists as mentioned.
use Rattle.std.specs.Prelude.{◌||◌, ◌&&◌, Bool, not, List, [], ◌∷◌, if◌then◌else◌}
use Rattle.st_ids.specs.declared.names.NodeId.{NodeId}
use Rattle.st_marks.specs.declared.changes.Change.{Change}
use Rattle.st_normal.specs.declared.entries.Found.{Found}
use Rattle.st_marks.specs.Embedding.{is_among}
use Rattle.st_normal.specs.Rules.{fields_of, entries_of_change}
use Rattle.st_marks.specs.How.{is_stay}
use Rattle.st_marks.specs.Listings.{nodes_new}

-- the nodes that are set where they are, or leave
abbrev pub moving_nodes : List Found → List NodeId
moving_nodes [] = []
moving_nodes (f ∷ fs) = if is_stay f.how then moving_nodes fs else f.node ∷ moving_nodes fs

-- whether a change lists a node as mentioned: it moves, is needed, or is old and has a listed field
abbrev pub mentions : Change → NodeId → Bool
mentions C n = is_among (moving_nodes (entries_of_change C).found) n
    || (is_among C.need n
    || (is_among (fields_of (entries_of_change C)) n && not (is_among (nodes_new C.new) n)))
