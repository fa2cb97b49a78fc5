-- Seats whose bridges went on by a step.
use Rattle.std.specs.Prelude.{◌≡◌, ◌==◌, ◌⊎◌, ℕ, Bool, true, false, Option, None, Some, MatchOption}
use Rattle.st_marks.specs.declared.steps.Step.{Step}
use Rattle.st_marks.specs.Document.{Document}
use Rattle.st_marks.specs.Extends.{IsExtendedBy}
use Rattle.st_read_laws.specs.Reading.{IsStepRead}
use Rattle.st_seats.specs.declared.seat.Seat.{Seat}

-- a bridge went on by a step S that follows it
abbrev pub IsBridgeOn : Bool → Step → Step → Step → Type 0
IsBridgeOn l S before after = (A T U : Document) → IsExtendedBy A T → IsExtendedBy T U → IsStepRead l A T before → IsStepRead l T U S → IsStepRead l A U after

-- the seat is there as before, but for its bridge
abbrev pub IsSeatOn : Bool → Step → Seat → Option Seat → Type 0
IsSeatOn l S q o = (r : Seat) × (o ≡ Some r) × (r.reference ≡ q.reference) × (r.sent ≡ q.sent) × IsBridgeOn l S q.bridge r.bridge

-- there is none before or after, or the seat went on
abbrev pub FollowsStep : Bool → Step → Option Seat → Option Seat → Type 0
FollowsStep l S before after = MatchOption before (after ≡ None) (λ q. IsSeatOn l S q after)

-- that of one session stays, and the others follow
abbrev pub FollowsBut : Bool → Step → ℕ → ℕ → Option Seat → Option Seat → Type 0
FollowsBut l S but session before after = ((session == but) ≡ true → after ≡ before) × ((session == but) ≡ false → FollowsStep l S before after)

-- a seat waits as it was before, or it went on
abbrev pub IsUnderWay : Bool → Step → ℕ → ℕ → Option Seat → Option Seat → Option Seat → Type 0
IsUnderWay l S but session before waiting after = ((waiting ≡ before) × (after ≡ None)) ⊎ ((waiting ≡ None) × FollowsBut l S but session before after)
