use Rattle.std.proofs.Common.{◌≡◌, option_map, take}
use Rattle.std.specs.BTreeMap.{get}
use Rattle.std.specs.List.{find}
use Rattle.st_ids.specs.Order.{node_cmp, same_node}
use Rattle.st_ids.specs.declared.names.NodeId.{NodeId}
use Rattle.st_marks.specs.declared.intents.Put.{Put}
use Rattle.st_embed.proofs.wants.targets_of.Given as goal

abbrev pub invariant-loop-put : goal.invariant-loop-put
invariant-loop-put l = (n : NodeId) → get node_cmp l.targets n ≡ option_map (λ (p : Put). p.to) (find (λ (p : Put). same_node p.node n) (take l.put-index l.put-items))
