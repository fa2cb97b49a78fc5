-- Whether an intent is sound where it comes, or why it is void.
use Rattle.std.specs.Prelude.{◌≡◌, ℕ, false, List, Option, Some, IsSome, MatchOption}
use Rattle.std.specs.Ordering.{is_lt}
use Rattle.std.specs.declared.cmp.Ordering.{Ordering}
use Rattle.st_ids.specs.Listing.{Has}
use Rattle.st_ids.specs.Order.{node_cmp}
use Rattle.st_ids.specs.declared.names.NodeId.{NodeId}
use Rattle.st_ids.specs.declared.names.Rev.{Rev}
use Rattle.st_marks.specs.declared.intents.Intent.{Intent}
use Rattle.st_marks.specs.declared.schemas.SchemaEntry.{SchemaEntry}
use Rattle.st_marks.specs.declared.verdicts.Verdict.{Verdict}
use Rattle.st_marks.specs.Document.{Document, IsAncestor, IsLive, last_of, revs}
use Rattle.st_marks.specs.Intent.{put_of}
use Rattle.st_marks.specs.CarryOut.{full, void}

-- the schema under which a commit was made is among some entries; for a change of schema it is the last of them
abbrev pub HasBase : List SchemaEntry → Option (List ℕ) → Rev → Type 0
HasBase entries schema under = MatchOption schema (Has (revs entries) under) (λ _. last_of (revs entries) ≡ Some under)

-- the schema under which the intent was made is in effect; for a change of schema it is the last in effect
abbrev pub IsBaseInEffect : Document → Intent → Type 0
IsBaseInEffect D N = HasBase D.schemas N.schema N.under

-- n is the least name that has P
abbrev pub IsLeast : {K : Type 0} → (K → K → Ordering) → (K → Type 0) → K → Type 0
IsLeast cmp P n = P n × ((m : _) → P m → is_lt (cmp m n) ≡ false)

-- a node that has to be live, and isn't
abbrev pub IsUnmetNeed : Document → Intent → NodeId → Type 0
IsUnmetNeed D N n = Has N.need n × (IsLive D n → ⊥)

-- a node that is put, and would then be above itself
abbrev pub IsAboveItself : Document → Intent → NodeId → Type 0
IsAboveItself D N n = IsSome (put_of N n) × IsAncestor (full D N) n n

-- the first that applies: the schema, a need, a ring; with the least node that isn't live, or that would be above itself
abbrev pub IsVerdict : Document → Intent → Verdict → Type 0
IsVerdict D N (Verdict.Schema u) = (u ≡ N.under) × (IsBaseInEffect D N → ⊥)
IsVerdict D N (Verdict.Need n) = IsBaseInEffect D N × IsLeast node_cmp (IsUnmetNeed D N) n
IsVerdict D N (Verdict.Cycle n) = IsBaseInEffect D N × ((m : NodeId) → IsUnmetNeed D N m → ⊥) × IsLeast node_cmp (IsAboveItself D N) n
IsVerdict D N Verdict.Sound = IsBaseInEffect D N × ((m : NodeId) → IsUnmetNeed D N m → ⊥) × ((m : NodeId) → IsAboveItself D N m → ⊥)

-- the document after an intent that has the verdict
abbrev pub carried_document : Verdict → Document → Intent → Document
carried_document Verdict.Sound D N = full D N
carried_document (Verdict.Need n) D N = void D N
carried_document (Verdict.Cycle n) D N = void D N
carried_document (Verdict.Schema u) D N = void D N
