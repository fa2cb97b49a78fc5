use Rattle.std.proofs.Common.{map, take}
use Rattle.st_ids.specs.Listing.{Has}
use Rattle.st_marks.specs.declared.intents.Put.{Put}
use Rattle.st_doc.specs.inside.Ahead.{above_ahead, IsLeastOf}
use Rattle.st_marks.specs.Document.{Reaches}
use Rattle.st_doc.proofs.verdict.least_ring.Given as goal

abbrev pub invariant-loop-put : goal.invariant-loop-put
invariant-loop-put l = IsLeastOf (λ n. Has (map (λ (p : Put). p.node) (take l.put-index l.put-items)) n × Reaches (above_ahead l.intent l.targets l.place) n n) l.least
