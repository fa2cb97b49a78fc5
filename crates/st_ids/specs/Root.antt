-- The names that are there from the start.
use Rattle.st_ids.specs.declared.names.NodeId.{NodeId}
use Rattle.st_ids.specs.declared.names.Rev.{Rev}

-- the revision under which the opening document was made
abbrev pub opening : Rev
opening = record { session = 0; num = 0 }

-- the node from which the tree is read
abbrev pub root : NodeId
root = record { 0 = record { rev = opening; at = 0 } }
