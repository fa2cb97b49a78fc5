-- the names so far are written
use Rattle.std.proofs.Common.{◌≡◌, map, take}
use Rattle.serde_json.specs.View.{view}
use Rattle.st_change_codec.specs.Changes.{node_data}
use Rattle.st_change_codec.proofs.names.nodes_value.Given as goal

abbrev pub invariant-loop-node : goal.invariant-loop-node
invariant-loop-node l = map view l.items.items ≡ map node_data (take l.node-index l.node-items)
