-- Two changes in normal form that agree as parts of one commit stand over documents, and have one change as one.
use Rattle.std.proofs.Common.{◌≡◌, ℕ, List, Option, None, MatchOption, subst}
use Rattle.st_ids.specs.declared.names.NodeId.{NodeId}
use Rattle.st_marks.specs.declared.changes.Change.{Change}
use Rattle.st_marks.specs.declared.intents.Intent.{Intent}
use Rattle.st_marks.specs.Agree.{Agrees, JoinClash}
use Rattle.st_marks.specs.CarryOut.{full}
use Rattle.st_marks.specs.Document.{Document, HasShortRows, IsSoundInForm}
use Rattle.st_marks.specs.Embedding.{IsEmbedding}
use Rattle.st_marks.specs.Join.{AreParts, IsJoin}
use Rattle.st_marks.specs.Verdict.{IsAboveItself}
use Rattle.st_marks.proofs.Full.{full_sound}
use Rattle.st_marks.proofs.Unique.{one_embedding}
use Rattle.st_normal.specs.Rules.{ObeysChangeRules, ObeysDataRules, ObeysSchemaRules}
use Rattle.st_normal_laws.proofs.SchemaRules.{change_obeys}
use Rattle.st_part_agree_laws.proofs.PartsAgree.{agree_as_parts}
use Rattle.st_part_pair_laws.specs.Parts.{StandAsParts}
use Rattle.st_part_pair_laws.proofs.PartsDecided.{parts-are, schemas-are}
use Rattle.st_part_pair_laws.proofs.SecondOver.{stand}

of-data : (C : Change) → C.schema ≡ None → ObeysChangeRules C → ObeysDataRules C
of-data C e w = subst (λ (q : Option (List ℕ)). MatchOption q (ObeysDataRules C) (λ _. ObeysSchemaRules C)) e w

pub stand_as_parts : (C K : Change) → ObeysChangeRules C → ObeysChangeRules K → Agrees (JoinClash C K) → StandAsParts C K
stand_as_parts C K w v g =
    let parts = parts-are C K g in
    let s = of-data C parts.no_schema.0 w in
    let h = schemas-are C K s g parts.no_schema.0 parts.no_schema.1 parts.one_under in
    stand C K s (of-data K parts.no_schema.1 v) g parts h.0 h.1 h.2

pub only_those : (C K : Change) → StandAsParts C K → ObeysChangeRules C × ObeysChangeRules K × Agrees (JoinClash C K)
only_those C K (D, N, M, J, x, parts, free, join, short, then_short, first, next) =
    let y : IsSoundInForm (full D N) = full_sound D N x parts.first_fits short (λ p put ring. free p (put, ring)) in (
      change_obeys D N C x parts.first_fits short first,
      change_obeys (full D N) M K y parts.then_fits then_short next,
      agree_as_parts D N M C K x parts free short first next,
    )

pub one_change : (C K X Y : Change) → ObeysChangeRules C → ObeysChangeRules K → Agrees (JoinClash C K)
    → ((D : Document) (N M J : Intent) → IsSoundInForm D → AreParts D N M → ((n : NodeId) → IsAboveItself D N n → ⊥) → IsJoin N M J
    → HasShortRows (full D N) → HasShortRows (full (full D N) M) → IsEmbedding D N C → IsEmbedding (full D N) M K → IsEmbedding D J X × IsEmbedding D J Y)
    → X ≡ Y
one_change C K X Y w v g both =
    let (D, N, M, J, x, parts, free, join, short, then_short, first, next) = stand_as_parts C K w v g in
    let r = both D N M J x parts free join short then_short first next in
    one_embedding D J X Y r.0 r.1
