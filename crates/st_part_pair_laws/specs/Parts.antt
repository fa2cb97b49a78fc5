-- Two changes that stand over documents as two parts of one commit.
use Rattle.st_ids.specs.declared.names.NodeId.{NodeId}
use Rattle.st_marks.specs.declared.changes.Change.{Change}
use Rattle.st_marks.specs.declared.intents.Intent.{Intent}
use Rattle.st_marks.specs.CarryOut.{full}
use Rattle.st_marks.specs.Document.{Document, HasShortRows, IsSoundInForm}
use Rattle.st_marks.specs.Embedding.{IsEmbedding}
use Rattle.st_marks.specs.Join.{AreParts, IsJoin}
use Rattle.st_marks.specs.Verdict.{IsAboveItself}

-- the first lists an intent in a sound document, where it forms no ring, and the second lists one where the first leads; both are
-- parts of one commit, which are one intent too, and leave rows short
abbrev pub StandAsParts : Change → Change → Type 0
StandAsParts C K = (D : Document) × (N : Intent) × (M : Intent) × (J : Intent)
    × IsSoundInForm D × AreParts D N M × ((n : NodeId) → IsAboveItself D N n → ⊥) × IsJoin N M J
    × HasShortRows (full D N) × HasShortRows (full (full D N) M)
    × IsEmbedding D N C × IsEmbedding (full D N) M K
