-- What a list of pairs has first at a name.
use Rattle.std.specs.Prelude.{List, Option, option_map}
use Rattle.std.specs.List.{find}
use Rattle.st_ids.specs.Order.{same_node}
use Rattle.st_ids.specs.declared.names.NodeId.{NodeId}

-- the value of the first pair with that name
abbrev pub first_at : {V : Type 0} → List (NodeId × V) → NodeId → Option V
first_at {V} ps n = option_map (λ (p : NodeId × V). p.1) (find (λ (p : NodeId × V). same_node p.0 n) ps)
