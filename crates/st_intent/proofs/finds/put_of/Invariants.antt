use Rattle.std.proofs.Common.{◌≡◌, drop, option_map}
use Rattle.std.specs.List.{find}
use Rattle.st_ids.specs.Order.{same_node}
use Rattle.st_marks.specs.declared.intents.Put.{Put}
use Rattle.st_marks.specs.Intent.{put_of}
use Rattle.st_intent.proofs.finds.put_of.Given as goal

abbrev pub invariant-loop-put : goal.invariant-loop-put
invariant-loop-put l = option_map (λ (p : Put). p.to) (find (λ (p : Put). same_node p.node l.node) (drop l.put-index l.put-items)) ≡ put_of l.intent l.node
