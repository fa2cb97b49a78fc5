-- Requests to the algebra of changes: each line asks for one value, and is answered by itself.
use Rattle.std.specs.Prelude.{◌≡◌, ◌↔◌, ◌⊎◌, ℕ, Bool, List, [], Ok, Err, IsTrue, MatchOption, codes}
use Rattle.serde_json.specs.Data.{Data}
use Rattle.st_ids.specs.Listing.{Has}
use Rattle.st_ids.specs.declared.names.FieldId.{FieldId}
use Rattle.st_ids.specs.declared.names.NodeId.{NodeId}
use Rattle.st_ids.specs.declared.names.Rev.{Rev}
use Rattle.st_marks.specs.Agree.{Agrees, ComposeClash, IsApartAt, JoinClash, RebaseClash}
use Rattle.st_marks.specs.Back.{IsBack, retreat}
use Rattle.st_marks.specs.CarryOut.{full}
use Rattle.st_marks.specs.Document.{Document, HasShortRows, IsSoundInForm, revs}
use Rattle.st_marks.specs.Embedding.{IsEmbedding}
use Rattle.st_marks.specs.Extends.{IsExtendedBy}
use Rattle.st_marks.specs.Intent.{Fits}
use Rattle.st_marks.specs.Join.{AreParts, IsJoin}
use Rattle.st_marks.specs.Step.{IsStep}
use Rattle.st_marks.specs.Verdict.{IsAboveItself, IsBaseInEffect, IsVerdict, carried_document}
use Rattle.st_marks.specs.declared.changes.Change.{Change}
use Rattle.st_marks.specs.declared.intents.Intent.{Intent}
use Rattle.st_marks.specs.declared.schemas.SchemaStep.{SchemaStep}
use Rattle.st_marks.specs.declared.steps.Step.{Step}
use Rattle.st_marks.specs.declared.verdicts.Verdict.{Verdict}
use Rattle.st_requests.specs.Answers.{apart_answer, change_answer, line_of, step_answer, verdict_answer}
use Rattle.st_requests.specs.Requests.{IsRequest}
use Rattle.st_requests.specs.declared.request.Request.{Request}
use Rattle.st_requests.specs.declared.request.Request.TheVariants.{Compose, Join, Invert, Rebase, Bridge, Effect, Revert}
use Rattle.st_answers.specs.Meaning.{Meaning}

-- ## What is asked for

-- A value is the one that is asked for where its arguments stand over documents, and it is so over all on which they do.

-- two steps lead from a document to a second and from there to a third
pub record AreInTurn (S T : Step) (D E F : Document) : Type 0 where
  pub first : IsExtendedBy D E
  pub second : IsExtendedBy E F
  pub step : IsStep D E S
  pub next : IsStep E F T

-- the step over two in turn
pub record IsComposed (S T U : Step) : Type 0 where
  pub there : (D : Document) × (E : Document) × (F : Document) × AreInTurn S T D E F
  pub each : (D E F : Document) → AreInTurn S T D E F → IsStep D F U

-- two changes are those of two parts of one commit, of which the first closes no ring, and which leave rows short
pub record AreChangesOfParts (C K : Change) (D : Document) (N M J : Intent) : Type 0 where
  pub sound : IsSoundInForm D
  pub parts : AreParts D N M
  pub no_ring : (n : NodeId) → IsAboveItself D N n → ⊥
  pub join : IsJoin N M J
  pub first_short : HasShortRows (full D N)
  pub second_short : HasShortRows (full (full D N) M)
  pub first : IsEmbedding D N C
  pub second : IsEmbedding (full D N) M K

-- the change of both as one
pub record IsJoined (C K X : Change) : Type 0 where
  pub there : (D : Document) × (N : Intent) × (M : Intent) × (J : Intent) × AreChangesOfParts C K D N M J
  pub each : (D : Document) (N M J : Intent) → AreChangesOfParts C K D N M J → IsEmbedding D J X

-- the way back over a step
pub record IsInverted (S U : Step) : Type 0 where
  pub there : (D : Document) × (E : Document) × IsExtendedBy D E × IsStep D E S
  pub each : (D E : Document) → IsExtendedBy D E → IsStep D E S → IsStep E (retreat D E) U

-- a change and a step begin at one document, and the intent of the change fits after the step as well
pub record AreBeside (C : Change) (S : Step) (D E : Document) (N : Intent) : Type 0 where
  pub extended : IsExtendedBy D E
  pub fits : Fits D N
  pub fits_later : Fits E N
  pub change : IsEmbedding D N C
  pub step : IsStep D E S

-- the change of the same intent after the step
pub record IsRebased (C : Change) (S : Step) (X : Change) : Type 0 where
  pub there : (D : Document) × (E : Document) × (N : Intent) × AreBeside C S D E N
  pub each : (D E : Document) (N : Intent) → AreBeside C S D E N → IsEmbedding E N X

-- the intent leaves rows short before the step and after it, and has these verdicts there
pub record AreJudged (D E : Document) (N : Intent) (v u : Verdict) : Type 0 where
  pub short : HasShortRows (full D N)
  pub short_later : HasShortRows (full E N)
  pub verdict : IsVerdict D N v
  pub verdict_later : IsVerdict E N u

-- the step over a commit, which its verdict makes whole or void before the step and after it
pub record IsBridged (C : Change) (S U : Step) : Type 0 where
  pub there : (D : Document) × (E : Document) × (N : Intent) × (v : Verdict) × (u : Verdict) × AreBeside C S D E N × AreJudged D E N v u
  pub each : (D E : Document) (N : Intent) (v u : Verdict) → AreBeside C S D E N → AreJudged D E N v u
      → IsStep (carried_document v D N) (carried_document u E N) U

-- an intent has a change in a sound document, where it fits and leaves rows short
pub record HasChange (D : Document) (N : Intent) (C : Change) : Type 0 where
  pub sound : IsSoundInForm D
  pub fits : Fits D N
  pub short : HasShortRows (full D N)
  pub change : IsEmbedding D N C

-- the step that a commit makes, with its verdict
pub record IsEffect (C : Change) (U : Step) (v : Verdict) : Type 0 where
  pub there : (D : Document) × (N : Intent) × HasChange D N C
  pub each : (D : Document) (N : Intent) → HasChange D N C → IsVerdict D N v × IsStep D (carried_document v D N) U

-- a step takes the schema of a revision out of effect: it goes, and doesn't come again
abbrev pub TakesOut : Step → Rev → Type 0
TakesOut S u = MatchOption S.schema ⊥ (λ (s : SchemaStep). Has (revs s.cut) u × (Has (revs s.add) u → ⊥))

-- the change that takes a step back where it leads, of the commit of a revision under a schema
pub record IsReverted (S : Step) (rev under : Rev) (X : Change) : Type 0 where
  pub there : (D : Document) × (E : Document) × (B : Intent) × IsExtendedBy D E × IsStep D E S × IsBack D E rev under B
  -- it is that of the intent that leads back where the schema is in effect; where it isn't, but for `base`
  pub each : (D E : Document) (B : Intent) → IsExtendedBy D E → IsStep D E S → IsBack D E rev under B
      → Has (revs E.schemas) under → IsEmbedding E B X
  pub each_under : (D E : Document) (B : Intent) → IsExtendedBy D E → IsStep D E S → IsBack D E rev under B
      → (b : Bool) → IsTrue b ↔ IsBaseInEffect E B → IsEmbedding E B (record X { base = b })
  pub base : IsTrue X.base ↔ (TakesOut S under → ⊥)

-- ## Answers

-- a value is told
abbrev pub Told : {V : Type 0} → (V → Type 0) → (V → Data) → List ℕ → Type 0
Told {V} Is answer text = (v : V) × Is v × (text ≡ line_of (answer v))

-- it is told of two arguments that agree, and of others the least field at which they don't
abbrev pub ToldOrApart : {V : Type 0} → (FieldId → Type 0) → (V → Type 0) → (V → Data) → List ℕ → Type 0
ToldOrApart Clash Is answer text =
    (Agrees Clash × Told Is answer text)
    ⊎ ((f : FieldId) × IsApartAt Clash f × (text ≡ line_of (apart_answer f)))

-- the line that answers a request
abbrev pub AnswersRequest : Request → List ℕ → Type 0
AnswersRequest (Compose first last) text =
    ToldOrApart (ComposeClash first last) (IsComposed first last) (step_answer (codes "compose")) text
AnswersRequest (Join first last) text =
    ToldOrApart (JoinClash first last) (IsJoined first last) (change_answer (codes "join")) text
AnswersRequest (Invert step) text = Told (IsInverted step) (step_answer (codes "invert")) text
AnswersRequest (Rebase change over) text =
    ToldOrApart (RebaseClash change over) (IsRebased change over) (change_answer (codes "rebase")) text
AnswersRequest (Bridge change step) text =
    ToldOrApart (RebaseClash change step) (IsBridged change step) (step_answer (codes "bridge")) text
AnswersRequest (Effect change) text =
    (v : Verdict) × Told (λ U. IsEffect change U v) (λ U. verdict_answer (codes "effect") U v) text
AnswersRequest (Revert step rev under) text = Told (IsReverted step rev under) (change_answer (codes "revert")) text

-- ## Lines

-- a line is a request, which is answered
pub record IsAsked (line text : List ℕ) : Type 0 where
  pub request : Request
  pub is : IsRequest line (Ok request)
  pub answered : AnswersRequest request text

-- each line stands alone, and the input may end anywhere
abbrev pub algebra : Meaning
algebra = record {
  State = Unit {0};
  first = tt;
  Takes = λ s n line text t. IsAsked line text;
  IsBad = λ s line c. IsRequest line (Err c);
  IsRefused = λ s line c. ⊥;
  Finishes = λ s last. last ≡ [];
  Lacks = λ s c. ⊥;
}
