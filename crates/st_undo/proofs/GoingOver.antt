-- The change of an intent that makes nothing goes over steps, one after the other.
use Rattle.std.proofs.Common.{◌≡◌, ◌<◌, ◌^◌, ◌++◌, ◌&&◌, Bool, List, [], ◌∷◌, Option, Some, None, length, length-append, refl, sym, ap, subst, arith}
use Rattle.std.specs.List.{find}
use Rattle.st_lemmas.proofs.Bools.{true-false}
use Rattle.st_ids.specs.Order.{same_node}
use Rattle.st_ids.specs.declared.names.CellId.{CellId}
use Rattle.st_ids.specs.declared.names.NodeId.{NodeId}
use Rattle.st_log_laws.specs.Turns.{FitInTurn}
use Rattle.st_marks.specs.declared.changes.Change.{Change}
use Rattle.st_marks.specs.declared.intents.Group.{Group}
use Rattle.st_marks.specs.declared.intents.Intent.{Intent}
use Rattle.st_marks.specs.declared.intents.Owned.{Owned}
use Rattle.st_marks.specs.declared.steps.Step.{Step}
use Rattle.st_marks.specs.declared.verdicts.Verdict.{Verdict}
use Rattle.st_marks.specs.CarryOut.{full, with_groups}
use Rattle.st_marks.specs.Document.{Document, HasShortRows, IsSoundInForm}
use Rattle.st_marks.specs.Extends.{IsExtendedBy}
use Rattle.st_marks.specs.Intent.{Fits, cells_of, group_at, same_anchor}
use Rattle.st_marks.specs.Verdict.{IsVerdict, carried_document}
use Rattle.st_marks.proofs.Later.{fits_later}
use Rattle.st_marks.proofs.OneVerdict.{carried_extends, one_verdict}
use Rattle.st_read_laws.specs.Reading.{IsRead, IsStepRead}
use Rattle.st_rebaser.specs.InTurn.{ShowInTurn, none_shown, one_shown}
use Rattle.st_rebaser.specs.declared.rebaser.Effected.{Effected}
use Rattle.st_window.specs.declared.kept.Kept.{Kept}
use Rattle.st_undo.specs.inside.Carrying.{GoesOver, LeadInTurn, MakesNothing, Stands, none_leads, one_leads}

-- ## An intent that makes nothing

-- it fits each later document
pub later_fits : (D E : Document) (B : Intent) → MakesNothing B → IsExtendedBy D E → Fits D B → Fits E B
later_fits D E B none x f =
    fits_later D E B x f (λ n h. absurd (true-false h (rw none.nodes refl))) (λ c h. absurd (true-false h (rw none.cells refl))) (rw none.schema tt)

no_group : (B : Intent) (n : NodeId) (a : Option CellId) → B.groups ≡ [] → group_at B n a ≡ []
no_group B n a e = ap (λ gs. cells_of (find (λ (g : Group). same_node g.node n && same_anchor g.after a) gs)) e

as_many : (B : Intent) (n : NodeId) (os : List Owned) → B.groups ≡ [] → length (with_groups B n os) ≡ length os
as_many B n [] e = refl
as_many B n (o ∷ os) e =
    let a = length-append (group_at B n (Some o.cell)) (with_groups B n os) in
    let b = ap length (no_group B n (Some o.cell) e) in
    let c = as_many B n os e in
    omega (arith, a, b, c)

-- rows stay as long as they are
pub short_after : (E : Document) (B : Intent) → B.groups ≡ [] → HasShortRows E → HasShortRows (full E B)
short_after E B e h n =
    let a = length-append (group_at B n None) (with_groups B n (E.rows n)) in
    let b = ap length (no_group B n None e) in
    let c = as_many B n (E.rows n) e in
    let d = h n in
    let sum : length (group_at B n None ++ with_groups B n (E.rows n)) < 2 ^ 32 = omega (arith, a, b, c, d) in
    sum

-- ## Over one step

-- what a change that is carried over a step becomes
abbrev pub Carried : Bool → Step → Change → Verdict → Change → Verdict → Step → Type 0
Carried l S C v X u T = (D E : Document) (N : Intent) → IsExtendedBy D E → Fits D N → Fits E N → HasShortRows (full D N) → HasShortRows (full E N) → IsVerdict D N v → IsRead l D N C → IsStepRead l D E S
    → IsVerdict E N u × IsRead l E N X × IsExtendedBy (carried_document v D N) (carried_document u E N) × IsStepRead l (carried_document v D N) (carried_document u E N) T

pub over_one : (l : Bool) (S W T : Step) (C X : Change) (v u : Verdict) → W ≡ S → Carried l W C v X u T → GoesOver l S C v X u
over_one l S W T C X v u e carries D E B none x step s =
    let later = later_fits D E B none x s.fits in
    let k = carries D E B x s.fits later (short_after D B none.cells x.before.short) (short_after E B none.cells x.after.short) s.verdict s.change (subst (IsStepRead l D E) (sym e) step) in
    record { fits = later; verdict = k.0; change = k.1 }

-- ## Over commits that were received

-- the change stands before the commits that are left
abbrev pub IsBefore : Bool → List Kept → Document → Intent → Change → Verdict → Type 0
IsBefore l ks T B C v = (E : Document) × LeadInTurn l E ks T × Stands l E B C v

pub past_one : (l : Bool) (k : Kept) (ks : List Kept) (T : Document) (B : Intent) (C X : Change) (v u : Verdict) → MakesNothing B → IsBefore l (k ∷ ks) T B C v → GoesOver l k.step C v X u → IsBefore l ks T B X u
past_one l k ks T B C X v u none (D, one_leads E x step rest, s) goes = (E, rest, goes D E B none x step s)

pub past_all : (l : Bool) (T : Document) (B : Intent) (C : Change) (v : Verdict) → IsBefore l [] T B C v → Stands l T B C v
past_all l T B C v (D, none_leads, s) = s

-- ## Over commits that are pending

-- what a change does that stands where another does
abbrev pub Does : Bool → Change → Effected → Type 0
Does l C e = (D : Document) (N : Intent) → IsSoundInForm D → Fits D N → HasShortRows (full D N) → IsRead l D N C → IsVerdict D N e.verdict × IsStepRead l D (carried_document e.verdict D N) e.step

-- over another change that stands where it does
abbrev pub GoesOverChange : Bool → Change → Change → Verdict → Change → Verdict → Type 0
GoesOverChange l K C v X u = (D : Document) (N B : Intent) (w : Verdict) → IsSoundInForm D → Fits D N → HasShortRows (full D N) → IsVerdict D N w → IsRead l D N K → MakesNothing B
    → Stands l D B C v → Stands l (carried_document w D N) B X u

pub over_change : (l : Bool) (K C X : Change) (v u : Verdict) (e : Effected) → Does l K e → GoesOver l e.step C v X u → GoesOverChange l K C v X u
over_change l K C X v u e does goes D N B w sound fits short is read none s =
    let d = does D N sound fits short read in
    let same : e.verdict ≡ w = one_verdict D N e.verdict w d.0 is in
    let x = carried_extends D N w sound fits short is in
    goes D (carried_document w D N) B none x (subst (λ y. IsStepRead l D (carried_document y D N) e.step) same d.1) s

-- the change stands before the pending commits that are left
pub record IsBeforePending (l : Bool) (Cs : List Change) (F : Document) (B : Intent) (C : Change) (v : Verdict) : Type 0 where
  pub at : Document
  pub left : List Intent
  pub sound : IsSoundInForm at
  pub fit : FitInTurn at left
  pub shown : ShowInTurn l at left Cs F
  pub stands : Stands l at B C v

pub past_change : (l : Bool) (K : Change) (Cs : List Change) (F : Document) (B : Intent) (C X : Change) (v u : Verdict) → MakesNothing B → IsBeforePending l (K ∷ Cs) F B C v → GoesOverChange l K C v X u → IsBeforePending l Cs F B X u
past_change l K Cs F B C X v u none h goes = go h.at h.left h.sound h.fit h.shown h.stands
  where
    go : (D : Document) (Ns : List Intent) → IsSoundInForm D → FitInTurn D Ns → ShowInTurn l D Ns (K ∷ Cs) F → Stands l D B C v → IsBeforePending l Cs F B X u
    go D [] sound fit shown s = elim shown [ ]
    go D (N ∷ Ns) sound fit (one_shown w is read rest) s = record {
      at = carried_document w D N;
      left = Ns;
      sound = (carried_extends D N w sound fit.0 fit.1 is).after;
      fit = fit.2 w is;
      shown = rest;
      stands = goes D N B w sound fit.0 fit.1 is read none s;
    }

pub past_pending : (l : Bool) (F : Document) (B : Intent) (C : Change) (v : Verdict) → IsBeforePending l [] F B C v → Stands l F B C v
past_pending l F B C v h = go h.at h.left h.shown h.stands
  where
    go : (D : Document) (Ns : List Intent) → ShowInTurn l D Ns [] F → Stands l D B C v → Stands l F B C v
    go D [] none_shown s = s
    go D (_ ∷ _) shown s = elim shown [ ]
