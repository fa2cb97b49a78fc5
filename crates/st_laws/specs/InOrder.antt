-- What the calls of both sides come to, in their order, for arguments in normal form that may stand over no document together: of each
-- call its value, which the calls behind it take; or the field at which the first call is refused whose arguments don't agree.
use Rattle.std.specs.Prelude.{◌≡◌, ◌≢◌, ◌⊎◌, true, Some, Result, Ok, Err}
use Rattle.st_ids.specs.Listing.{Has}
use Rattle.st_ids.specs.declared.names.CellId.{CellId}
use Rattle.st_ids.specs.declared.fault.Or.{Or}
use Rattle.st_ids.specs.declared.fault.Or.TheVariants.{Fault, NoMemory}
use Rattle.st_ids.specs.declared.names.FieldId.{FieldId}
use Rattle.st_ids.specs.declared.names.NodeId.{NodeId}
use Rattle.st_marks.specs.declared.changes.Change.{Change}
use Rattle.st_marks.specs.declared.intents.Intent.{Intent}
use Rattle.st_marks.specs.declared.marks.How.TheVariants.{Leave}
use Rattle.st_marks.specs.declared.marks.Loose.{Loose}
use Rattle.st_marks.specs.declared.marks.RegStep.{RegStep}
use Rattle.st_marks.specs.declared.marks.RowMarks.{RowMarks}
use Rattle.st_marks.specs.declared.places.Spot.{Spot}
use Rattle.st_marks.specs.declared.steps.Step.{Step}
use Rattle.st_marks.specs.declared.verdicts.Verdict.{Verdict}
use Rattle.st_marks.specs.Agree.{Agrees, ComposeClash, IsApartAt, JoinClash, RebaseClash}
use Rattle.st_marks.specs.CarryOut.{full}
use Rattle.st_marks.specs.Document.{Document, HasShortRows, IsSoundInForm}
use Rattle.st_marks.specs.Embedding.{IsEmbedding}
use Rattle.st_marks.specs.Extends.{IsExtendedBy}
use Rattle.st_marks.specs.Intent.{Fits}
use Rattle.st_marks.specs.Listings.{cells_made}
use Rattle.st_marks.specs.Join.{AreParts, IsJoin}
use Rattle.st_marks.specs.Row.{Fill, Make, Touch, spread}
use Rattle.st_marks.specs.Step.{IsStep}
use Rattle.st_marks.specs.Verdict.{IsAboveItself, IsVerdict, carried_document}
use Rattle.st_moves.specs.Room.{HasRoomInRows}
use Rattle.st_normal.specs.Rules.{ObeysChangeRules, ObeysStepRules}
use Rattle.st_agree.specs.declared.agreement.FieldApart.{FieldApart}
use Rattle.st_laws.specs.declared.sides.ChangeSides.{ChangeSides}
use Rattle.st_laws.specs.declared.sides.StepSides.{StepSides}

-- ## The value of one call

-- wherever the two stand in turn, the third leads from the first document to the last
abbrev pub LeadsOverBoth : Step → Step → Step → Type 0
LeadsOverBoth a b ab = (D E F : Document) → IsExtendedBy D E → IsExtendedBy E F → IsStep D E a → IsStep E F b → IsStep D F ab

-- wherever a change and a step stand, the other change is that of the intent after the step
abbrev pub IsAfterStep : Change → Step → Change → Type 0
IsAfterStep C S K = (D E : Document) (N : Intent) → IsExtendedBy D E → Fits D N → Fits E N
    → IsEmbedding D N C → IsStep D E S → IsEmbedding E N K

-- wherever a step and a commit stand, the other step leads from the one document after the commit to the other, whole or void in each
abbrev pub LeadsAfterCommit : Step → Change → Step → Type 0
LeadsAfterCommit S C T = (D E : Document) (N : Intent) (v u : Verdict) → IsExtendedBy D E → Fits D N → Fits E N
    → HasShortRows (full D N) → HasShortRows (full E N)
    → IsEmbedding D N C → IsStep D E S → IsVerdict D N v → IsVerdict E N u
    → IsStep (carried_document v D N) (carried_document u E N) T

-- wherever two changes stand as parts of one commit, the third is that of both as one
abbrev pub IsOfBothParts : Change → Change → Change → Type 0
IsOfBothParts C K X = (D : Document) (N M J : Intent) → IsSoundInForm D → AreParts D N M → ((n : NodeId) → IsAboveItself D N n → ⊥) → IsJoin N M J
    → HasShortRows (full D N) → HasShortRows (full (full D N) M)
    → IsEmbedding D N C → IsEmbedding (full D N) M K → IsEmbedding D J X

-- two arguments agree, and the value is in normal form

pub record Composes (a b ab : Step) : Type 0 where
  pub agree : Agrees (ComposeClash a b)
  pub leads : LeadsOverBoth a b ab
  pub obeys : ObeysStepRules ab

pub record Rebases (C : Change) (S : Step) (K : Change) : Type 0 where
  pub room : HasRoomInRows C S
  pub agree : Agrees (RebaseClash C S)
  pub after : IsAfterStep C S K
  pub obeys : ObeysChangeRules K

pub record Bridges (S : Step) (C : Change) (T : Step) : Type 0 where
  pub room : HasRoomInRows C S
  pub agree : Agrees (RebaseClash C S)
  pub leads : LeadsAfterCommit S C T
  pub obeys : ObeysStepRules T

pub record Joins (C K X : Change) : Type 0 where
  pub agree : Agrees (JoinClash C K)
  pub both : IsOfBothParts C K X
  pub obeys : ObeysChangeRules X

-- ## One call

-- its value, or the least field at which the two don't agree

abbrev pub Composed : Step → Step → Result Step FieldId → Type 0
Composed a b (Ok ab) = Composes a b ab
Composed a b (Err f) = IsApartAt (ComposeClash a b) f

abbrev pub Joined : Change → Change → Result Change FieldId → Type 0
Joined C K (Ok X) = Joins C K X
Joined C K (Err f) = IsApartAt (JoinClash C K) f

-- a change and a step that have no room together in some row aren't asked whether they agree, and what goes over the other stays

abbrev pub Rebased : Change → Step → Result Change FieldId → Type 0
Rebased C S (Ok K) = Rebases C S K ⊎ ((HasRoomInRows C S → ⊥) × (K ≡ C))
Rebased C S (Err f) = HasRoomInRows C S × IsApartAt (RebaseClash C S) f

abbrev pub Bridged : Step → Change → Result Step FieldId → Type 0
Bridged S C (Ok T) = Bridges S C T ⊎ ((HasRoomInRows C S → ⊥) × (T ≡ S))
Bridged S C (Err f) = HasRoomInRows C S × IsApartAt (RebaseClash C S) f

-- ## Calls in turn

-- a call is refused, or has a value with which the calls behind it go on
abbrev pub Then : {V T : Type 0} → (Result V FieldId → Type 0) → (V → Result T FieldId → Type 0) → Result T FieldId → Type 0
Then {V} call behind (Ok t) = (v : V) × call (Ok v) × behind v (Ok t)
Then {V} call behind (Err f) = call (Err f) ⊎ ((v : V) × call (Ok v) × behind v (Err f))

-- these are both sides
abbrev pub Gives : {T : Type 0} → T → Result T FieldId → Type 0
Gives t o = o ≡ Ok t

-- so much is told; nothing is where memory fails
abbrev pub Told : {T : Type 0} → Result T (Or FieldApart) → (Result T FieldId → Type 0) → Type 0
Told (Ok t) Is = Is (Ok t)
Told (Err (Fault a)) Is = Is (Err a.field)
Told (Err NoMemory) Is = Unit {0}

-- ## Axioms on three arguments

abbrev pub FirstTogether : Step → Step → Step → Result Step FieldId → Type 0
FirstTogether a b c = Then (Composed a b) (λ ab. Composed ab c)

abbrev pub LastTogether : Step → Step → Step → Result Step FieldId → Type 0
LastTogether a b c = Then (Composed b c) (λ bc. Composed a bc)

-- three steps: (a, then b), then c; and a, then (b, then c)
abbrev pub IsAssociative : Step → Step → Step → Result StepSides FieldId → Type 0
IsAssociative a b c = Then (FirstTogether a b c) (λ left. Then (LastTogether a b c) (λ right. Gives (record { left = left; right = right })))

abbrev pub OverBoth : Change → Step → Step → Result Change FieldId → Type 0
OverBoth C a b = Then (Composed a b) (λ ab. Rebased C ab)

abbrev pub OverEach : Change → Step → Step → Result Change FieldId → Type 0
OverEach C a b = Then (Rebased C a) (λ between. Rebased between b)

-- a change and two steps: over (a, then b); and over a, and then over b
abbrev pub IsOverParts : Change → Step → Step → Result ChangeSides FieldId → Type 0
IsOverParts C a b = Then (OverBoth C a b) (λ left. Then (OverEach C a b) (λ right. Gives (record { left = left; right = right })))

abbrev pub WholeOver : Change → Change → Step → Result Change FieldId → Type 0
WholeOver C K S = Then (Joined C K) (λ whole. Rebased whole S)

abbrev pub SecondOver : Change → Change → Step → Result Change FieldId → Type 0
SecondOver C K S = Then (Bridged S C) (λ between. Rebased K between)

abbrev pub EachOver : Change → Change → Step → Result Change FieldId → Type 0
EachOver C K S = Then (Rebased C S) (λ later. Then (SecondOver C K S) (λ second. Joined later second))

-- two parts of a commit and a step: both as one, over the step; and the first over it, the second over what is left of it once the
-- first is carried out, and then both as one
abbrev pub ArePartsOver : Change → Change → Step → Result ChangeSides FieldId → Type 0
ArePartsOver C K S = Then (WholeOver C K S) (λ left. Then (EachOver C K S) (λ right. Gives (record { left = left; right = right })))

-- ## What both sides have in common

-- two changes are of one commit, made under one schema; they need the same and make the same, and bring the same schema
pub record AreOfOneCommit (C K : Change) : Type 0 where
  pub rev : C.rev ≡ K.rev
  pub under : C.under ≡ K.under
  pub need : C.need ≡ K.need
  pub new : C.new ≡ K.new
  pub schema : C.schema ≡ K.schema

-- a step puts a node at a place: into a cell that it makes or fills, or into a register
pub data PutsAt (S : Step) (n : NodeId) : Spot → Type 0 where
  in_cell : (r : RowMarks) (c : CellId) → Has S.rows r → Has (spread r.marks) (Make c n true) ⊎ Has (spread r.marks) (Fill c n) → PutsAt S n (Spot.Row r.node c)
  in_register : (r : RegStep) → Has S.regs r → r.before ≢ Some n → r.after ≡ Some n → PutsAt S n (Spot.Register r.field)

-- a step takes a node from a place: out of a cell or a register, or from nowhere
pub data TakesFrom (S : Step) (n : NodeId) : Spot → Type 0 where
  from_cell : (r : RowMarks) (c : CellId) → Has S.rows r → Has (spread r.marks) (Touch c n Leave) → TakesFrom S n (Spot.Row r.node c)
  from_register : (r : RegStep) → Has S.regs r → r.before ≡ Some n → r.after ≢ Some n → TakesFrom S n (Spot.Register r.field)
  from_nowhere : (l : Loose) → Has S.loose l → l.node ≡ n → l.how ≡ Leave → TakesFrom S n Spot.Nowhere

-- a step makes a cell in a node's row
abbrev pub MakesCell : Step → NodeId → CellId → Type 0
MakesCell S n c = (r : RowMarks) × Has S.rows r × (r.node ≡ n) × Has (cells_made (spread r.marks)) c
