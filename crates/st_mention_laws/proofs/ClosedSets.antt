-- What an intent mentions is closed above.
use Rattle.std.proofs.Common.{◌≡◌, suc, Bool, true, ◌↔◌}
use Rattle.st_ids.specs.declared.names.NodeId.{NodeId}
use Rattle.st_marks.specs.declared.intents.Intent.{Intent}
use Rattle.st_marks.specs.Document.{Document, above}
use Rattle.st_marks.specs.Embedding.{IsMentionedByIntent}
use Rattle.st_marks.proofs.Climb.{climb_more}
use Rattle.st_mention_laws.specs.Closed.{IsClosedIn}

pub mentions_closed : (E : Document) (N : Intent) (m : NodeId → Bool) → ((n : NodeId) → (m n ≡ true) ↔ IsMentionedByIntent E N n) → IsClosedIn E m
mentions_closed E N m w n p e up = let k = (w n).0 e in (w p).1 (k.0, k.1, k.2, suc k.3, climb_more (above E) k.3 k.0 n p k.4 up)
