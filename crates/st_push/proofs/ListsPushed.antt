-- Changes that stand in turn, carried over a step.
use Rattle.std.proofs.Common.{◌≡◌, Bool, List, [], ◌∷◌, ◌++◌, refl, sym, ap, ◌∙◌, subst}
use Rattle.st_marks.specs.declared.changes.Change.{Change}
use Rattle.st_marks.specs.declared.intents.Intent.{Intent}
use Rattle.st_marks.specs.declared.steps.Step.{Step}
use Rattle.st_marks.specs.declared.verdicts.Verdict.{Verdict}
use Rattle.st_marks.specs.Document.{Document}
use Rattle.st_marks.specs.Extends.{IsExtendedBy}
use Rattle.st_marks.specs.Run.{Run, done, next}
use Rattle.st_marks.specs.Verdict.{IsVerdict, carried_document}
use Rattle.st_log_laws.specs.Turns.{FitInTurn}
use Rattle.st_marks.proofs.OneVerdict.{one_verdict}
use Rattle.st_read_laws.specs.Reading.{IsRead, IsStepRead}
use Rattle.st_read_laws.proofs.Readings.{one_read}
use Rattle.st_rebaser.specs.InTurn.{ShowInTurn, none_shown, one_shown}
use Rattle.st_push.specs.InTurn.{Carries, PushedTo}

pub push : (l : Bool) → Carries l → {D F : Document} {Ns : List Intent} {Cs : List Change} → ShowInTurn l D Ns Cs F → (E : Document) (S : Step)
    → IsExtendedBy D E → FitInTurn D Ns → FitInTurn E Ns → IsStepRead l D E S → PushedTo l E F Ns
push l carries none_shown E S x f g s = record { changes = []; last = E; step = S; shown = none_shown; extends = x; over = s }
push l carries (one_shown {D} {F} {N} {Ns} {C} {Cs} v is c rest) E S x f g s =
    let k = carries D E N C S v x f.0 g.0 f.1 g.1 is c s in
    let r = push l carries rest (carried_document k.verdict E N) k.step k.extends (f.2 v is) (g.2 k.verdict k.is) k.over in
    record { changes = k.change ∷ r.changes; last = r.last; step = r.step; shown = one_shown k.verdict k.is k.shown r.shown; extends = r.extends; over = r.over }

pub runs : {l : Bool} {D F : Document} {Ns : List Intent} {Cs : List Change} → ShowInTurn l D Ns Cs F → Run D Ns F
runs none_shown = done
runs (one_shown v is c rest) = next v is (runs rest)

-- one change more
pub then_one : {l : Bool} {D F : Document} {Ns : List Intent} {Cs : List Change} → ShowInTurn l D Ns Cs F → (N : Intent) (C : Change) (v : Verdict) → IsVerdict F N v → IsRead l F N C
    → ShowInTurn l D (Ns ++ N ∷ []) (Cs ++ C ∷ []) (carried_document v F N)
then_one none_shown N C v is c = one_shown v is c none_shown
then_one (one_shown w was d rest) N C v is c = one_shown w was d (then_one rest N C v is c)

-- ## There is one list

pub one_list : (l : Bool) {D F : Document} {Ns : List Intent} {Cs : List Change} → ShowInTurn l D Ns Cs F → {G : Document} {Xs : List Change} → ShowInTurn l D Ns Xs G → (Cs ≡ Xs) × (F ≡ G)
one_list l none_shown none_shown = (refl, refl)
one_list l (one_shown {D} {F} {N} {Ns} {C} {Cs} v is c rest) (one_shown {F = G} {C = X} {Cs = Xs} w was d more) =
    let e : v ≡ w = one_verdict D N v w is was in
    let r = one_list l rest (subst (λ u. ShowInTurn l (carried_document u D N) Ns Xs G) (sym e) more) in
    ((λ i. one_read l D N C X c d i ∷ r.0 i), r.1)
