-- the revisions so far
use Rattle.std.proofs.Common.{◌≡◌, map, take}
use Rattle.serde_json.specs.Data.{string}
use Rattle.serde_json.specs.View.{view}
use Rattle.st_ids.specs.Names.{rev_text}
use Rattle.st_script.proofs.answer.revs_value.Given as goal

abbrev pub invariant-loop-rev : goal.invariant-loop-rev
invariant-loop-rev l = map view l.items.items ≡ map (λ rev. string (rev_text rev)) (take l.rev-index l.rev-items)
