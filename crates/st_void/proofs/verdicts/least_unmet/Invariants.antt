use Rattle.std.proofs.Common.{take}
use Rattle.st_ids.specs.Listing.{Has}
use Rattle.st_doc.specs.inside.Ahead.{IsLeastOf}
use Rattle.st_void.specs.Standing.{IsShownLive}
use Rattle.st_void.proofs.verdicts.least_unmet.Given as goal

abbrev pub invariant-needs : goal.invariant-needs
invariant-needs l = IsLeastOf (λ n. Has (take l.node-index l.node-items) n × (IsShownLive l.change n → ⊥)) l.least
