use Rattle.std.proofs.Common.{◌≡◌, length}
use Rattle.st_rows.proofs.RisingNodes.{rising}
use Rattle.st_seq.proofs.new_nodes.is_rising.Given as goal

abbrev pub invariant-nodes : goal.invariant-nodes
invariant-nodes l = rising l.nodes ≡ rising l.rest

abbrev pub decreases-nodes : goal.decreases-nodes
decreases-nodes l = length l.rest
