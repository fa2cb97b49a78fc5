-- The nodes that a step names.
use Rattle.std.specs.Prelude.{Bool, ◌||◌, ◌&&◌, if◌then◌else◌}
use Rattle.st_ids.specs.declared.names.NodeId.{NodeId}

-- a set of nodes
abbrev pub Nodes : Type 0
Nodes = NodeId → Bool

-- the nodes in one or the other
abbrev pub either : Nodes → Nodes → Nodes
either m k n = m n || k n

-- the nodes that a bridge names: those that the step names, the part's new ones, and those that the part mentions where it
-- was or is carried out whole
abbrev pub named_beside : Nodes → Nodes → Nodes → Bool → Bool → Nodes
named_beside m mentioned made was_void is_void = either m (if was_void && is_void then made else either mentioned made)
