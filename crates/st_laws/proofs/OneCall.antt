-- What one call tells of arguments in normal form.
use Rattle.std.proofs.Common.{sym, subst, inl, inr}
use Rattle.std.specs.Prelude.{Result, Ok, Err}
use Rattle.st_ids.specs.declared.fault.Or.{Or}
use Rattle.st_ids.specs.declared.fault.Or.TheVariants.{Fault, NoMemory}
use Rattle.st_ids.specs.declared.names.NodeId.{NodeId}
use Rattle.st_kind.specs.Refused.{IfMemory}
use Rattle.st_marks.specs.declared.changes.Change.{Change}
use Rattle.st_marks.specs.declared.intents.Intent.{Intent}
use Rattle.st_marks.specs.declared.steps.Step.{Step}
use Rattle.st_marks.specs.declared.verdicts.Verdict.{Verdict}
use Rattle.st_marks.specs.Agree.{Agrees, ComposeClash, JoinClash, RebaseClash}
use Rattle.st_marks.specs.CarryOut.{full}
use Rattle.st_marks.specs.Document.{Document, HasShortRows, IsSoundInForm}
use Rattle.st_marks.specs.Embedding.{IsEmbedding}
use Rattle.st_marks.specs.Extends.{IsExtendedBy}
use Rattle.st_marks.specs.Intent.{Fits}
use Rattle.st_marks.specs.Join.{AreParts, IsJoin}
use Rattle.st_marks.specs.Step.{IsStep}
use Rattle.st_marks.specs.Verdict.{IsAboveItself, IsVerdict, carried_document}
use Rattle.st_moves.specs.Room.{HasRoomInRows}
use Rattle.st_normal.specs.Rules.{ObeysChangeRules, ObeysStepRules}
use Rattle.st_agree.specs.Apart.{TellsLeast}
use Rattle.st_agree.specs.declared.agreement.FieldApart.{FieldApart}
use Rattle.st_laws.specs.InOrder.{Bridged, Composed, IsAfterStep, IsOfBothParts, Joined, LeadsAfterCommit, LeadsOverBoth, Rebased, Told}

pub composed_told : (a b : Step) → ((U : Step) → Agrees (ComposeClash a b) → LeadsOverBoth a b U → ObeysStepRules U) → (r : Result Step (Or FieldApart))
    → ((D E F : Document) → IsExtendedBy D E → IsExtendedBy E F → IsStep D E a → IsStep E F b → IfMemory r (IsStep D F))
    → TellsLeast r (ComposeClash a b) → Told r (Composed a b)
composed_told a b normal (Ok U) is g = record { agree = g; leads = is; obeys = normal U g is }
composed_told a b normal (Err (Fault f)) is g = g
composed_told a b normal (Err NoMemory) is g = tt

pub rebased_told : (C : Change) (S : Step) → HasRoomInRows C S → ((K : Change) → Agrees (RebaseClash C S) → IsAfterStep C S K → ObeysChangeRules K) → (r : Result Change (Or FieldApart))
    → ((D E : Document) (N : Intent) → IsExtendedBy D E → Fits D N → Fits E N → IsEmbedding D N C → IsStep D E S → IfMemory r (IsEmbedding E N))
    → TellsLeast r (RebaseClash C S) → Told r (Rebased C S)
rebased_told C S room normal (Ok K) is g = inl (record { room = room; agree = g; after = is; obeys = normal K g is })
rebased_told C S room normal (Err (Fault f)) is g = (room, g)
rebased_told C S room normal (Err NoMemory) is g = tt

pub bridged_told : (S : Step) (C : Change) → HasRoomInRows C S → ((T : Step) → Agrees (RebaseClash C S) → LeadsAfterCommit S C T → ObeysStepRules T) → (r : Result Step (Or FieldApart))
    → ((D E : Document) (N : Intent) (v u : Verdict) → IsExtendedBy D E → Fits D N → Fits E N → HasShortRows (full D N) → HasShortRows (full E N)
    → IsEmbedding D N C → IsStep D E S → IsVerdict D N v → IsVerdict E N u → IfMemory r (IsStep (carried_document v D N) (carried_document u E N)))
    → TellsLeast r (RebaseClash C S) → Told r (Bridged S C)
bridged_told S C room normal (Ok T) is g = inl (record { room = room; agree = g; leads = is; obeys = normal T g is })
bridged_told S C room normal (Err (Fault f)) is g = (room, g)
bridged_told S C room normal (Err NoMemory) is g = tt

pub joined_told : (C K : Change) → ((X : Change) → Agrees (JoinClash C K) → IsOfBothParts C K X → ObeysChangeRules X) → (r : Result Change (Or FieldApart))
    → ((D : Document) (N M J : Intent) → IsSoundInForm D → AreParts D N M → ((n : NodeId) → IsAboveItself D N n → ⊥) → IsJoin N M J
    → HasShortRows (full D N) → HasShortRows (full (full D N) M) → IsEmbedding D N C → IsEmbedding (full D N) M K → IfMemory r (IsEmbedding D J))
    → TellsLeast r (JoinClash C K) → Told r (Joined C K)
joined_told C K normal (Ok X) is g = record { agree = g; both = is; obeys = normal X g is }
joined_told C K normal (Err (Fault f)) is g = g
joined_told C K normal (Err NoMemory) is g = tt

-- ## What goes over another stays in normal form

pub rebased_obeys : (C : Change) (S : Step) (K : Change) → ObeysChangeRules C → Rebased C S (Ok K) → ObeysChangeRules K
rebased_obeys C S K v (inl h) = h.obeys
rebased_obeys C S K v (inr h) = subst ObeysChangeRules (sym h.1) v

pub bridged_obeys : (S : Step) (C : Change) (T : Step) → ObeysStepRules S → Bridged S C (Ok T) → ObeysStepRules T
bridged_obeys S C T v (inl h) = h.obeys
bridged_obeys S C T v (inr h) = subst ObeysStepRules (sym h.1) v
